-- The lists of a store with what waits for each slot behind them, after each change of the store or of the entries.
use Rattle.std.proofs.Common.{◌≡◌, ℕ, suc, ◌+◌, ◌<◌, ◌≤◌, ◌≢◌, List, [], ◌∷◌, ◌++◌, length, get_or, take, drop, set, not, refl, sym, ap, ◌∙◌, inl, inr, arith}
use Rattle.std.specs.List.{All, count_by, remove}
use Rattle.std.proofs.lemmas.List.Elements.{All-append, All-drop, All-filter, All-head, All-same, All-tail, All-take, All-weaker}
use Rattle.std.proofs.lemmas.List.{append_assoc, append-nil, drop-append-le, ext_get_or, get_or_past, get_or-set_same, get_or-set_other, length-append, length-set, nil_from_length}
use Rattle.std.proofs.lemmas.List.Sums.{count_by-le-length}
use Rattle.std.proofs.lemmas.Bool.{cases_lt, cases_eq}
use Rattle.notice.specs.declared.event.Notice.{Notice}
use Rattle.store.specs.Meaning.{held, in_use, put_at, drop_at, clear_at}
use Rattle.store.proofs.Follows.{held_most, in_use_put_more, put_lengthens}
use Rattle.shelf.specs.declared.entry.Entry.{Entry}
use Rattle.shelf.specs.Shelf.{is_for, waiting, without_oldest, others, extended, Placed}
use Rattle.shelf.specs.Extended.{waiting_here, waiting_other, length_extended, held_within, extended_none, extended_same, extended_front}
use Rattle.shelf.proofs.Waiting.{count_waiting, waiting_append, none_waits, removed_other, brought_forward, oldest_of, oldest_other, others_here, others_other}

-- what a slot holds; where there is no such slot, nothing, since nothing waits for it
pub held_extended : (ls : List (List Notice)) (es : List Entry) (i : ℕ) → Placed ls es → held (extended ls es) i ≡ held ls i ++ waiting es i
held_extended ls es i p =
    elim (cases_lt i (length ls)) [
      | inl h ↦ held_within ls es i h
      | inr h ↦
          get_or_past (extended ls es) i [] (omega (arith, length_extended ls es))
          ∙ sym (ap (λ (ns : List Notice). ns ++ waiting es i) (get_or_past ls i [] h)
          ∙ none_waits es i (All-weaker (λ e. e.slot < length ls) (λ e. e.slot ≡ i → ⊥) (λ e lt q. absurd (omega (arith, q))) es p))
    ]

pub held_extended_past : (ls : List (List Notice)) (es : List Entry) (i : ℕ) → length ls ≤ i → held (extended ls es) i ≡ []
held_extended_past ls es i h = get_or_past (extended ls es) i [] (omega (arith, length_extended ls es))

-- an entry for a slot that is not there is in no list
pub extended_void : (ls : List (List Notice)) (es : List Entry) (j : ℕ) (e : Entry) → j < length es → e ≡ get_or es j e → length ls ≤ e.slot → extended ls (remove es j) ≡ extended ls es
extended_void ls es j e h g v =
    extended_same ls ls es (remove es j) refl
    (λ k lt. ap (λ (ns : List Notice). held ls k ++ ns) (removed_other es j e h g k (λ q. absurd (omega (arith, q)))))

pub length_held : (ls : List (List Notice)) (es : List Entry) (i : ℕ) → Placed ls es → length (held (extended ls es) i) ≡ length (held ls i) + count_by (is_for i) es
length_held ls es i p = omega (arith, ap (λ (ns : List Notice). length ns) (held_extended ls es i p), length-append (held ls i) (waiting es i), count_waiting es i)

-- how many notices a slot holds, and that they are not too many to count
pub ruleset lengths = (length_held, held_most, count_by-le-length)

pub extended_alike : (ms ls : List (List Notice)) (fs es : List Entry) → ms ≡ ls → fs ≡ es → extended ms fs ≡ extended ls es
extended_alike ms ls fs es p q = ap (λ (ks : List (List Notice)). extended ks fs) p ∙ ap (λ (xs : List Entry). extended ls xs) q

-- where no list changes, the slots stay as many
pub slots_alike : (ls ms : List (List Notice)) (es fs : List Entry) → extended ms fs ≡ extended ls es → length ms ≡ length ls
slots_alike ls ms es fs e = sym (length_extended ms fs) ∙ ap (λ (ks : List (List Notice)). length ks) e ∙ length_extended ls es

-- every entry is for a slot that is there, after each change
pub placed_after : (ls ms : List (List Notice)) (es fs : List Entry) → length ms ≡ length ls → fs ≡ es → Placed ls es → Placed ms fs
placed_after ls ms es fs n e p = All-same (λ e. e.slot < length ms) fs es e (All-weaker (λ e. e.slot < length ls) (λ e. e.slot < length ms) (λ e h. omega arith) es p)

pub placed_removed : (ls : List (List Notice)) (es : List Entry) (j : ℕ) → Placed ls es → Placed ls (remove es j)
placed_removed ls es j p = All-append (λ e. e.slot < length ls) (take j es) (drop (suc j) es) (All-take (λ e. e.slot < length ls) j es p) (All-drop (λ e. e.slot < length ls) (suc j) es p)

-- an entry leaves that is the first of its slot
pub extended_move : (ls : List (List Notice)) (es : List Entry) (j : ℕ) (e : Entry) → j < length es → e ≡ get_or es j e → waiting (take j es) e.slot ≡ [] → extended (put_at ls e.slot e.notice) (remove es j) ≡ extended ls es
extended_move ls es j e h g z =
    extended_front ls e (remove es j)
    ∙ extended_same ls ls es (e ∷ remove es j) refl (λ k lt. ap (λ (ns : List Notice). held ls k ++ ns) (brought_forward es j e h g z k))

-- one list changes; none where there is no such slot
pub extended_set : (ls ms : List (List Notice)) (es fs : List Entry) (i : ℕ) (l : List Notice) → length ms ≡ length ls → (i < length ls → held ms i ++ waiting fs i ≡ l) → ((k : ℕ) → k ≢ i → held ms k ++ waiting fs k ≡ held ls k ++ waiting es k) → extended ms fs ≡ set (extended ls es) i l
extended_set ls ms es fs i l n here rest =
    ext_get_or [] (extended ms fs) (set (extended ls es) i l) (length_extended ms fs ∙ n ∙ sym (length_extended ls es) ∙ sym (length-set (extended ls es) i l))
    (λ k lt.
    let a : k < length ls = omega (arith, length_extended ms fs) in
    let b = held_within ms fs k (omega arith) in
    elim (cases_eq k i) [
      | inl e ↦
          b ∙ ap (λ (k : ℕ). held ms k ++ waiting fs k) e ∙ here (omega (arith, e))
          ∙ sym (ap (λ (k : ℕ). held (set (extended ls es) i l) k) e ∙ get_or-set_same (extended ls es) i l [] (omega (arith, e, length_extended ls es)))
      | inr ne ↦ b ∙ rest k ne ∙ sym (held_within ls es k a) ∙ sym (get_or-set_other (extended ls es) i k l [] ne)
    ])

-- one notice more, which waits
pub extended_push : (ls : List (List Notice)) (es : List Entry) (e : Entry) → extended ls (es ++ e ∷ []) ≡ put_at (extended ls es) e.slot e.notice
extended_push ls es e =
    let i = e.slot in
    extended_set ls ls es (es ++ e ∷ []) i _ refl
    (λ h.
    ap (λ (ns : List Notice). held ls i ++ ns) (waiting_append es (e ∷ []) i ∙ ap (λ (ns : List Notice). waiting es i ++ ns) (waiting_here e [] i refl))
    ∙ sym (append_assoc (held ls i) (waiting es i) (e.notice ∷ [])) ∙ ap (λ (ns : List Notice). ns ++ e.notice ∷ []) (sym (held_within ls es i h)))
    (λ k ne. ap (λ (ns : List Notice). held ls k ++ ns) (waiting_append es (e ∷ []) k ∙ ap (λ (ns : List Notice). waiting es k ++ ns) (waiting_other e [] k (λ q. ne (sym q))) ∙ append-nil (waiting es k)))

-- one notice more, in the store, where none waits for the slot
pub extended_put : (ls : List (List Notice)) (es : List Entry) (i : ℕ) (n : Notice) → waiting es i ≡ [] → extended (put_at ls i n) es ≡ put_at (extended ls es) i n
extended_put ls es i n z =
    let l = held ls i ++ n ∷ [] in
    let none : (xs : List Notice) → xs ++ waiting es i ≡ xs = λ xs. ap (λ (ns : List Notice). xs ++ ns) z ∙ append-nil xs in
    extended_set ls (put_at ls i n) es es i _ (length-set ls i l)
    (λ h. none (held (set ls i l) i) ∙ get_or-set_same ls i l [] h ∙ ap (λ (ns : List Notice). ns ++ n ∷ []) (sym (held_within ls es i h ∙ none (held ls i))))
    (λ k ne. ap (λ (ns : List Notice). ns ++ waiting es k) (get_or-set_other ls i k l [] ne))

-- the oldest of a slot dropped: from the store, or else of what waits
pub extended_drop_below : (ls : List (List Notice)) (es : List Entry) (i : ℕ) → 0 < length (held ls i) → extended (drop_at ls i) es ≡ drop_at (extended ls es) i
extended_drop_below ls es i some =
    let l = drop 1 (held ls i) in
    extended_set ls (drop_at ls i) es es i _ (length-set ls i l)
    (λ h.
    ap (λ (ns : List Notice). ns ++ waiting es i) (get_or-set_same ls i l [] h) ∙ sym (drop-append-le 1 (held ls i) (waiting es i) some)
    ∙ ap (λ (ns : List Notice). drop 1 ns) (sym (held_within ls es i h)))
    (λ k ne. ap (λ (ns : List Notice). ns ++ waiting es k) (get_or-set_other ls i k l [] ne))

pub extended_drop : (ls : List (List Notice)) (es : List Entry) (i : ℕ) → length (held ls i) ≡ 0 → extended ls (without_oldest es i) ≡ drop_at (extended ls es) i
extended_drop ls es i p =
    let q = nil_from_length (held ls i) p in
    extended_set ls ls es (without_oldest es i) i _ refl
    (λ h.
    ap (λ (ns : List Notice). ns ++ waiting (without_oldest es i) i) q ∙ oldest_of es i
    ∙ ap (λ (ns : List Notice). drop 1 ns) (sym (held_within ls es i h ∙ ap (λ (ns : List Notice). ns ++ waiting es i) q)))
    (λ k ne. ap (λ (ns : List Notice). held ls k ++ ns) (oldest_other es i k ne))

-- a slot emptied
pub extended_clear : (ls : List (List Notice)) (es : List Entry) (i : ℕ) → extended (clear_at ls i) (others es i) ≡ clear_at (extended ls es) i
extended_clear ls es i =
    extended_set ls (clear_at ls i) es (others es i) i [] (length-set ls i [])
    (λ h. ap (λ (ns : List Notice). held (set ls i []) i ++ ns) (others_here es i) ∙ append-nil (held (set ls i []) i) ∙ get_or-set_same ls i [] [] h)
    (λ k ne. ap (λ (ns : List Notice). ns ++ waiting (others es i) k) (get_or-set_other ls i k [] [] ne) ∙ ap (λ (ns : List Notice). held ls k ++ ns) (others_other es i k ne))

-- the same, where the store's lists and the entries are those of a slot emptied; every entry that is left is for a slot that is there
module _ (ls ms : List (List Notice)) (es fs : List Entry) (i : ℕ) (p : ms ≡ clear_at ls i) (q : fs ≡ others es i) where
  pub cleared : extended ms fs ≡ clear_at (extended ls es) i
  cleared = extended_alike ms (clear_at ls i) fs (others es i) p q ∙ extended_clear ls es i

  pub placed_cleared : Placed ls es → Placed ms fs
  placed_cleared h = placed_after ls ms (others es i) fs (ap (λ (ks : List (List Notice)). length ks) p ∙ length-set ls i []) q (All-filter (λ e. not (is_for i e)) (λ e. e.slot < length ls) es h)

-- each entry uses one of the spare where its slot holds the reserve or more in the store
pub in_use_all : (r : ℕ) (ls : List (List Notice)) (es : List Entry) → All (λ e. (e.slot < length ls) × (r ≤ length (held ls e.slot))) es → in_use r (extended ls es) ≡ in_use r ls + length es
in_use_all r ls [] f = omega (arith, ap (λ (ms : List (List Notice)). in_use r ms) (extended_none ls))
in_use_all r ls (e ∷ es) f =
    let i = e.slot in
    let ms = put_at ls i e.notice in
    let h = All-head (λ e. (e.slot < length ls) × (r ≤ length (held ls e.slot))) e es f in
    let same = ap (λ (ms : List (List Notice)). in_use r ms) (extended_front ls e es) in
    let n : length ms ≡ length ls = length-set ls i (held ls i ++ e.notice ∷ []) in
    let rest = in_use_all r ms es
    (All-weaker (λ e. (e.slot < length ls) × (r ≤ length (held ls e.slot))) (λ e. (e.slot < length ms) × (r ≤ length (held ms e.slot)))
    (λ x p. (omega (arith, p.0), omega (arith, p.1, put_lengthens ls i x.slot e.notice h.0))) es (All-tail (λ e. (e.slot < length ls) × (r ≤ length (held ls e.slot))) e es f)) in
    omega (arith, in_use_put_more r ls i e.notice h.0 h.1)
