-- The lists of a store with what waits for each slot behind them, and how much of the spare they use.
-- Lemmas, which the laws of a shelf rest on: nothing in this file has to be believed.
use Rattle.std.specs.Prelude.{◌≡◌, ℕ, ◌+◌, ◌<◌, ◌≤◌, ◌≢◌, List, [], ◌∷◌, ◌++◌, length, slice_set, refl}
use Rattle.std.proofs.Common.{sym, ap, ◌∙◌, inl, inr, arith}
use Rattle.std.proofs.lemmas.List.FromFn.{length-map-range_with_len, get_or-map-range_with_len, fill_by_all}
use Rattle.std.proofs.lemmas.List.{append_assoc, append-nil, ext_get_or, get_or-set_same, get_or-set_other, length-set, length_push, set_past}
use Rattle.std.proofs.lemmas.Bool.{cases_lt, cases_eq, eq-eqb, ne_eqb}
use Rattle.notice.specs.declared.event.Notice.{Notice}
use Rattle.store.specs.Meaning.{held, in_use, put_at}
use Rattle.store.proofs.Follows.{in_use_set}
use Rattle.shelf.specs.declared.entry.Entry.{Entry}
use Rattle.shelf.specs.Shelf.{waiting, extended}

-- the first entry is for the slot, or for another
pub waiting_here : (e : Entry) (es : List Entry) (i : ℕ) → e.slot ≡ i → waiting (e ∷ es) i ≡ e.notice ∷ waiting es i
waiting_here e es i h = simp (eq-eqb e.slot i h)

pub waiting_other : (e : Entry) (es : List Entry) (i : ℕ) → (e.slot ≢ i) → waiting (e ∷ es) i ≡ waiting es i
waiting_other e es i h = simp (ne_eqb e.slot i h)

pub length_extended : (ls : List (List Notice)) (es : List Entry) → length (extended ls es) ≡ length ls
length_extended ls es = length-map-range_with_len (λ i. held ls i ++ waiting es i) 0 (length ls)

pub held_within : (ls : List (List Notice)) (es : List Entry) (i : ℕ) → i < length ls → held (extended ls es) i ≡ held ls i ++ waiting es i
held_within ls es i h = get_or-map-range_with_len (λ i. held ls i ++ waiting es i) 0 (length ls) i i [] h (omega arith)

pub extended_none : (ls : List (List Notice)) → extended ls [] ≡ ls
extended_none ls = sym (fill_by_all (λ i. held ls i ++ waiting [] i) ls (length ls) [] refl (λ k h. sym (append-nil (held ls k))))

-- no list changes
pub extended_same : (ls ms : List (List Notice)) (es fs : List Entry) → length ms ≡ length ls → ((k : ℕ) → k < length ls → held ms k ++ waiting fs k ≡ held ls k ++ waiting es k) → extended ms fs ≡ extended ls es
extended_same ls ms es fs n h =
    ext_get_or [] (extended ms fs) (extended ls es) (length_extended ms fs ∙ n ∙ sym (length_extended ls es))
    (λ k lt. let a : k < length ls = omega (arith, length_extended ms fs) in held_within ms fs k (omega arith) ∙ h k a ∙ sym (held_within ls es k a))

-- the first entry goes into the store
pub extended_front : (ls : List (List Notice)) (e : Entry) (es : List Entry) → extended (put_at ls e.slot e.notice) es ≡ extended ls (e ∷ es)
extended_front ls e es =
    let i = e.slot in
    let l = held ls i ++ e.notice ∷ [] in
    extended_same ls (put_at ls i e.notice) (e ∷ es) es (length-set ls i l)
    (λ k h.
    elim (cases_eq i k) [
      | inl q ↦
          ap (λ (k : ℕ). held (slice_set ls i l) k ++ waiting es k) (sym q)
          ∙ ap (λ (ns : List Notice). ns ++ waiting es i) (get_or-set_same ls i l [] (omega (arith, q)))
          ∙ append_assoc (held ls i) (e.notice ∷ []) (waiting es i)
          ∙ ap (λ (ns : List Notice). held ls i ++ ns) (sym (waiting_here e es i refl))
          ∙ ap (λ (k : ℕ). held ls k ++ waiting (e ∷ es) k) q
      | inr ne ↦
          ap (λ (ns : List Notice). ns ++ waiting es k) (get_or-set_other ls i k l [] (λ q. ne (sym q)))
          ∙ ap (λ (ns : List Notice). held ls k ++ ns) (sym (waiting_other e es k ne))
    ])

-- each entry uses at most one of the spare
in_use_put_most : (r : ℕ) (ls : List (List Notice)) (i : ℕ) (n : Notice) → in_use r (put_at ls i n) ≤ in_use r ls + 1
in_use_put_most r ls i n =
    let l = held ls i ++ n ∷ [] in
    elim (cases_lt i (length ls)) [
      | inl h ↦ omega (arith, in_use_set r ls i l h, length_push (held ls i) n)
      | inr h ↦ omega (arith, ap (λ (ms : List (List Notice)). in_use r ms) (set_past ls i l h))
    ]

pub in_use_most : (r : ℕ) (ls : List (List Notice)) (es : List Entry) → in_use r (extended ls es) ≤ in_use r ls + length es
in_use_most r ls [] = omega (arith, ap (λ (ms : List (List Notice)). in_use r ms) (extended_none ls))
in_use_most r ls (e ∷ es) =
    let same = ap (λ (ms : List (List Notice)). in_use r ms) (extended_front ls e es) in
    omega (arith, in_use_most r (put_at ls e.slot e.notice) es, in_use_put_most r ls e.slot e.notice)
