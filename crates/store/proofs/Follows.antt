-- What follows from the meaning of a store: the proofs of its laws.
use Rattle.std.proofs.Common.{◌≡◌, ℕ, ◌+◌, ◌-◌, ◌<◌, ◌≤◌, false, List, [], ◌∷◌, ◌++◌, length, drop, set, sym, ap, ◌∙◌, inl, inr, arith}
use Rattle.std.proofs.lemmas.List.{length-set, length_push, length-drop, get_or-set_same, get_or-set_other, get_or_past, set_past, set-set, set-get_or, nil_from_length}
use Rattle.std.proofs.lemmas.List.Sums.{sum_by-set, get_or-le-sum_by}
use Rattle.std.proofs.lemmas.Bool.{cases_lt, cases_eq}
use Rattle.store.specs.Meaning.{held, in_use, full, put_at, drop_at, clear_at}
use Rattle.store.specs.Laws.{Changes, LeavesOthers, KeepsSlots, NoSuchSlot, Refuses, StaysWithin}
use Rattle.store.proofs.Room.{no_slot, no_spare, full_so, room_so}

pub changes : (X : Type 0) → Changes X
changes X ls i x h =
    (get_or-set_same ls i (held ls i ++ x ∷ []) [] h, get_or-set_same ls i (drop 1 (held ls i)) [] h, get_or-set_same ls i [] [] h)

pub leaves_others : (X : Type 0) → LeavesOthers X
leaves_others X ls i j x ne =
    (get_or-set_other ls i j (held ls i ++ x ∷ []) [] ne, get_or-set_other ls i j (drop 1 (held ls i)) [] ne, get_or-set_other ls i j [] [] ne)

pub keeps_slots : (X : Type 0) → KeepsSlots X
keeps_slots X ls i x = (length-set ls i (held ls i ++ x ∷ []), length-set ls i (drop 1 (held ls i)), length-set ls i [])

pub no_such_slot : (X : Type 0) → NoSuchSlot X
no_such_slot X ls i h = (set_past ls i (drop 1 (held ls i)) h, set_past ls i [] h)

pub refuses : (X : Type 0) → Refuses X
refuses X r v ls i = (full_so r v ls i, no_slot r v ls i, no_spare r v ls i)

-- the spare in use after the list of a slot is changed for another
pub in_use_set : {X : Type 0} (r : ℕ) (ls : List (List X)) (i : ℕ) (l : List X) → i < length ls → in_use r (set ls i l) + (length (held ls i) - r) ≡ in_use r ls + (length l - r)
in_use_set {X} r ls i l h = sum_by-set (λ (l : List X). length l - r) ls i l [] h

in_use_less : {X : Type 0} (r : ℕ) (ls : List (List X)) (i : ℕ) (l : List X) → length l ≤ length (held ls i) → in_use r (set ls i l) ≤ in_use r ls
in_use_less {X} r ls i l le =
    elim (cases_lt i (length ls)) [
      | inl h ↦ omega (arith, in_use_set r ls i l h)
      | inr h ↦ let e = ap (λ (ms : List (List X)). in_use r ms) (set_past ls i l h) in omega (arith, e)
    ]

-- what one slot uses of the spare
pub in_use_part : {X : Type 0} (r : ℕ) (ls : List (List X)) (i : ℕ) → i < length ls → length (held ls i) - r ≤ in_use r ls
in_use_part {X} r ls i h = get_or-le-sum_by (λ (l : List X). length l - r) ls i [] h

-- what a slot holds is at most the reserve and the spare in use
pub held_most : {X : Type 0} (r : ℕ) (ls : List (List X)) (i : ℕ) → length (held ls i) ≤ r + in_use r ls
held_most {X} r ls i =
    elim (cases_lt i (length ls)) [
      | inl h ↦ omega (arith, in_use_part r ls i h)
      | inr h ↦ omega (arith, ap (λ (l : List X). length l) (get_or_past ls i [] h))
    ]

pub in_use_put_own : {X : Type 0} (r : ℕ) (ls : List (List X)) (i : ℕ) (x : X) → i < length ls → length (held ls i) < r → in_use r (put_at ls i x) ≡ in_use r ls
in_use_put_own r ls i x h k = omega (arith, in_use_set r ls i (held ls i ++ x ∷ []) h, length_push (held ls i) x)

pub in_use_put_more : {X : Type 0} (r : ℕ) (ls : List (List X)) (i : ℕ) (x : X) → i < length ls → r ≤ length (held ls i) → in_use r (put_at ls i x) ≡ in_use r ls + 1
in_use_put_more r ls i x h k = omega (arith, in_use_set r ls i (held ls i ++ x ∷ []) h, length_push (held ls i) x)

in_use_put : {X : Type 0} (r v : ℕ) (ls : List (List X)) (i : ℕ) (x : X) → in_use r ls ≤ v → full r v ls i ≡ false → in_use r (put_at ls i x) ≤ v
in_use_put r v ls i x w e =
    let p = room_so r v ls i e in
    elim (cases_lt (length (held ls i)) r) [
      | inl a ↦ omega (arith, in_use_put_own r ls i x p.0 a)
      | inr a ↦
          elim p.1 [
            | inl b ↦ absurd (omega arith)
            | inr b ↦ elim (cases_lt (in_use r ls) v) [ inl d ↦ omega (arith, in_use_put_more r ls i x p.0 a) | inr d ↦ absurd (b (omega arith)) ]
          ]
    ]

pub in_use_dropped : {X : Type 0} (r : ℕ) (ls : List (List X)) (i : ℕ) → in_use r (drop_at ls i) ≤ in_use r ls
in_use_dropped r ls i = in_use_less r ls i (drop 1 (held ls i)) (omega (arith, length-drop 1 (held ls i)))

pub stays_within : (X : Type 0) → StaysWithin X
stays_within X r v ls i x w =
    let d = in_use_dropped r ls i in
    let c = in_use_less {X = X} r ls i [] (omega arith) in
    (in_use_put r v ls i x w, omega arith, omega arith)

-- a put shortens no list
pub put_lengthens : {X : Type 0} (ls : List (List X)) (i j : ℕ) (x : X) → i < length ls → length (held ls j) ≤ length (held (put_at ls i x) j)
put_lengthens {X} ls i j x h =
    elim (cases_eq j i) [
      | inl e ↦
          let put = ap (λ (l : List X). length l) (changes X ls i x h).0 in
          omega (arith, ap (λ (j : ℕ). length (held ls j)) e, ap (λ (j : ℕ). length (held (put_at ls i x) j)) e, put, length_push (held ls i) x)
      | inr ne ↦ omega (arith, ap (λ (l : List X). length l) (leaves_others X ls i j x ne).0)
    ]

-- a drop at a slot that holds nothing changes nothing, and so does a clear
pub drop_nothing : {X : Type 0} (ls : List (List X)) (i : ℕ) → length (held ls i) ≡ 0 → drop_at ls i ≡ ls
drop_nothing {X} ls i h =
    let e = nil_from_length (held ls i) h in
    ap (λ (l : List X). set ls i (drop 1 l)) e ∙ sym (ap (λ (l : List X). set ls i l) e) ∙ set-get_or ls i []

pub clear_nothing : {X : Type 0} (ls : List (List X)) (i : ℕ) → length (held ls i) ≡ 0 → clear_at ls i ≡ ls
clear_nothing {X} ls i h = sym (ap (λ (l : List X). set ls i l) (nil_from_length (held ls i) h)) ∙ set-get_or ls i []

-- a clear after a drop is a clear
pub clear_dropped : {X : Type 0} (ls : List (List X)) (i : ℕ) → clear_at (drop_at ls i) i ≡ clear_at ls i
clear_dropped ls i = set-set ls i (drop 1 (held ls i)) []

pub drop_shortens : {X : Type 0} (ls : List (List X)) (i : ℕ) → 0 < length (held ls i) → length (held (drop_at ls i) i) < length (held ls i)
drop_shortens {X} ls i h =
    elim (cases_lt i (length ls)) [
      | inl lt ↦ omega (arith, ap (λ (l : List X). length l) (get_or-set_same ls i (drop 1 (held ls i)) [] lt), length-drop 1 (held ls i))
      | inr ge ↦ absurd (omega (arith, ap (λ (l : List X). length l) (get_or_past ls i [] ge)))
    ]

-- a fact of the reserve, the spare and the lists of a store, where each of them is another way to say the same
pub same_store : {X Y : Type 0} (f : ℕ → ℕ → List (List X) → Y) (r s v w : ℕ) (ls ms : List (List X)) → r ≡ s → v ≡ w → ls ≡ ms → f r v ls ≡ f s w ms
same_store {X} f r s v w ls ms a b c = ap (λ (r : ℕ). f r v ls) a ∙ ap (λ (v : ℕ). f s v ls) b ∙ ap (λ (ls : List (List X)). f s w ls) c
