-- What waits for a slot, after each change of the entries.
use Rattle.std.proofs.Common.{◌≡◌, ℕ, suc, ◌<◌, ◌≤◌, ◌≢◌, List, [], ◌∷◌, ◌++◌, map, length, get_or, take, drop, filter, refl, sym, ap, subst, ◌∙◌, inl, inr, arith, one-add, drop-cons}
use Rattle.std.specs.List.{All, count_by, remove}
use Rattle.std.proofs.lemmas.List.Elements.{All-head, All-tail, filter-append}
use Rattle.std.proofs.lemmas.List.{append-nil, drop_all, length-map, map-append, take_all, take-append-drop}
use Rattle.std.proofs.lemmas.List.Sums.{length-filter}
use Rattle.std.proofs.lemmas.Bool.{eq-eqb, ne_eqb, cases_eq}
use Rattle.notice.specs.declared.event.Notice.{Notice}
use Rattle.shelf.specs.declared.entry.Entry.{Entry}
use Rattle.shelf.specs.Shelf.{is_for, waiting, first_of, without_oldest, others}
use Rattle.shelf.specs.Extended.{waiting_here, waiting_other}

pub waiting_append : (es fs : List Entry) (i : ℕ) → waiting (es ++ fs) i ≡ waiting es i ++ waiting fs i
waiting_append es fs i = ap (map (λ (e : Entry). e.notice)) (filter-append (is_for i) es fs) ∙ map-append (λ (e : Entry). e.notice) (filter (is_for i) es) (filter (is_for i) fs)

-- an entry before two lists of entries of which as much waits
waiting_tail : (e : Entry) (es fs : List Entry) (i : ℕ) → waiting es i ≡ waiting fs i → waiting (e ∷ es) i ≡ waiting (e ∷ fs) i
waiting_tail e es fs i h =
    waiting_append (e ∷ []) es i ∙ ap (λ (ns : List Notice). waiting (e ∷ []) i ++ ns) h ∙ sym (waiting_append (e ∷ []) fs i)

-- how many wait for a slot
pub count_waiting : (es : List Entry) (i : ℕ) → length (waiting es i) ≡ count_by (is_for i) es
count_waiting es i = length-map (filter (is_for i) es) (λ (e : Entry). e.notice) ∙ length-filter (is_for i) es

-- nothing waits for a slot that no entry is for
pub none_waits : (es : List Entry) (i : ℕ) → All (λ e. e.slot ≡ i → ⊥) es → waiting es i ≡ []
none_waits [] i h = refl
none_waits (e ∷ es) i h = waiting_other e es i (All-head (λ e. e.slot ≡ i → ⊥) e es h) ∙ none_waits es i (All-tail (λ e. e.slot ≡ i → ⊥) e es h)

-- what holds of the slot of every entry holds of a slot that something waits for
pub all_that_wait : (P : ℕ → Type 0) (es : List Entry) (i : ℕ) → All (λ e. P e.slot) es → 0 < length (waiting es i) → P i
all_that_wait P [] i h w = absurd (omega arith)
all_that_wait P (e ∷ es) i h w =
    elim (cases_eq e.slot i) [
      | inl q ↦ subst P q (All-head (λ e. P e.slot) e es h)
      | inr ne ↦ all_that_wait P es i (All-tail (λ e. P e.slot) e es h) (omega (arith, ap (λ (xs : List Notice). length xs) (waiting_other e es i ne)))
    ]

-- an entry taken off
module _ (es : List Entry) (j : ℕ) (e : Entry) (h : j < length es) (g : e ≡ get_or es j e) where
  parted : es ≡ take j es ++ e ∷ drop (suc j) es
  parted = sym (take-append-drop j es) ∙ ap (λ (xs : List Entry). take j es ++ xs) (drop-cons es j e h ∙ ap (λ (x : Entry). x ∷ drop (suc j) es) (sym g))

  pub waiting_parted : (i : ℕ) → waiting es i ≡ waiting (take j es) i ++ waiting (e ∷ drop (suc j) es) i
  waiting_parted i = ap (λ (xs : List Entry). waiting xs i) parted ∙ waiting_append (take j es) (e ∷ drop (suc j) es) i

  pub removed_first : (i : ℕ) → e.slot ≡ i → waiting (take j es) i ≡ [] → waiting es i ≡ e.notice ∷ waiting (remove es j) i
  removed_first i s z =
      waiting_parted i
      ∙ ap (λ (ns : List Notice). ns ++ waiting (e ∷ drop (suc j) es) i) z
      ∙ waiting_here e (drop (suc j) es) i s
      ∙ ap (λ (ns : List Notice). e.notice ∷ (ns ++ waiting (drop (suc j) es) i)) (sym z)
      ∙ ap (λ (ns : List Notice). e.notice ∷ ns) (sym (waiting_append (take j es) (drop (suc j) es) i))

  pub removed_other : (i : ℕ) → (e.slot ≢ i) → waiting (remove es j) i ≡ waiting es i
  removed_other i s =
      waiting_append (take j es) (drop (suc j) es) i
      ∙ ap (λ (ns : List Notice). waiting (take j es) i ++ ns) (sym (waiting_other e (drop (suc j) es) i s))
      ∙ sym (waiting_parted i)

  -- the first of its slot may as well stand before all others
  pub brought_forward : waiting (take j es) e.slot ≡ [] → (i : ℕ) → waiting (e ∷ remove es j) i ≡ waiting es i
  brought_forward z i =
      let front = waiting (take j es) i in
      let rest = waiting (drop (suc j) es) i in
      let both = waiting_append (take j es) (drop (suc j) es) i in
      elim (cases_eq e.slot i) [
        | inl q ↦
            let none : front ≡ [] = ap (λ (i : ℕ). waiting (take j es) i) (sym q) ∙ z in
            waiting_here e (remove es j) i q
            ∙ ap (λ (ns : List Notice). e.notice ∷ ns) (both ∙ ap (λ (ns : List Notice). ns ++ rest) none)
            ∙ sym (waiting_parted i ∙ ap (λ (ns : List Notice). ns ++ waiting (e ∷ drop (suc j) es) i) none ∙ waiting_here e (drop (suc j) es) i q)
        | inr ne ↦ waiting_other e (remove es j) i ne ∙ both ∙ sym (waiting_parted i ∙ ap (λ (ns : List Notice). front ++ ns) (waiting_other e (drop (suc j) es) i ne))
      ]

pub removed_past : (es : List Entry) (j : ℕ) → length es ≤ j → remove es j ≡ es
removed_past es j h = ap (λ (xs : List Entry). xs ++ drop (suc j) es) (take_all j es h) ∙ ap (λ (xs : List Entry). es ++ xs) (drop_all (suc j) es (omega arith)) ∙ append-nil es

-- the oldest entry of a slot taken off
oldest_here : (e : Entry) (es : List Entry) (i : ℕ) → e.slot ≡ i → without_oldest (e ∷ es) i ≡ es
oldest_here e es i h = simp (eq-eqb e.slot i h)

oldest_later : (e : Entry) (es : List Entry) (i : ℕ) → (e.slot ≢ i) → without_oldest (e ∷ es) i ≡ e ∷ without_oldest es i
oldest_later e es i h =
    let q : first_of (e ∷ es) i ≡ suc (first_of es i) = simp (ne_eqb e.slot i h) (one-add (first_of es i)) in
    ap (λ (j : ℕ). remove (e ∷ es) j) q

pub oldest_of : (es : List Entry) (i : ℕ) → waiting (without_oldest es i) i ≡ drop 1 (waiting es i)
oldest_of [] i = refl
oldest_of (e ∷ es) i =
    elim (cases_eq e.slot i) [
      | inl q ↦ ap (λ (xs : List Entry). waiting xs i) (oldest_here e es i q) ∙ sym (ap (λ (ns : List Notice). drop 1 ns) (waiting_here e es i q))
      | inr ne ↦
          ap (λ (xs : List Entry). waiting xs i) (oldest_later e es i ne) ∙ waiting_other e (without_oldest es i) i ne ∙ oldest_of es i
          ∙ sym (ap (λ (ns : List Notice). drop 1 ns) (waiting_other e es i ne))
    ]

pub oldest_other : (es : List Entry) (i k : ℕ) → k ≢ i → waiting (without_oldest es i) k ≡ waiting es k
oldest_other [] i k n = refl
oldest_other (e ∷ es) i k n =
    elim (cases_eq e.slot i) [
      | inl q ↦ ap (λ (xs : List Entry). waiting xs k) (oldest_here e es i q) ∙ sym (waiting_other e es k (λ p. n (sym p ∙ q)))
      | inr ne ↦ ap (λ (xs : List Entry). waiting xs k) (oldest_later e es i ne) ∙ waiting_tail e (without_oldest es i) es k (oldest_other es i k n)
    ]

-- every entry of a slot taken off
others_drops : (e : Entry) (es : List Entry) (i : ℕ) → e.slot ≡ i → others (e ∷ es) i ≡ others es i
others_drops e es i h = simp (eq-eqb e.slot i h)

others_keeps : (e : Entry) (es : List Entry) (i : ℕ) → (e.slot ≢ i) → others (e ∷ es) i ≡ e ∷ others es i
others_keeps e es i h = simp (ne_eqb e.slot i h)

pub others_here : (es : List Entry) (i : ℕ) → waiting (others es i) i ≡ []
others_here [] i = refl
others_here (e ∷ es) i =
    elim (cases_eq e.slot i) [
      | inl q ↦ ap (λ (xs : List Entry). waiting xs i) (others_drops e es i q) ∙ others_here es i
      | inr ne ↦ ap (λ (xs : List Entry). waiting xs i) (others_keeps e es i ne) ∙ waiting_other e (others es i) i ne ∙ others_here es i
    ]

pub others_other : (es : List Entry) (i k : ℕ) → k ≢ i → waiting (others es i) k ≡ waiting es k
others_other [] i k n = refl
others_other (e ∷ es) i k n =
    elim (cases_eq e.slot i) [
      | inl q ↦ ap (λ (xs : List Entry). waiting xs k) (others_drops e es i q) ∙ others_other es i k n ∙ sym (waiting_other e es k (λ p. n (sym p ∙ q)))
      | inr ne ↦ ap (λ (xs : List Entry). waiting xs k) (others_keeps e es i ne) ∙ waiting_tail e (others es i) es k (others_other es i k n)
    ]
