-- When a slot is full, in each of the ways in which code finds out.
use Rattle.std.specs.Prelude.{◌≡◌, ℕ, ◌<◌, ◌≤◌, true, false, ◌⊎◌, List, length, ◌≢◌}
use Rattle.std.proofs.Common.{inl, inr, arith}
use Rattle.std.proofs.lemmas.Bool.{leb-true, leb-false, eqb-true, eqb-false, le-leb, lt-leb, eq-eqb, ne_eqb, and_parts, and_from, and_left, and_right, and_cases, or_cases, or_parts, or_from, or_left, or_right}
use Rattle.store.specs.Meaning.{held, in_use, full}

pub no_slot : {X : Type 0} (r v : ℕ) (ls : List (List X)) (i : ℕ) → length ls ≤ i → full r v ls i ≡ true
no_slot r v ls i h = or_left _ _ (le-leb (length ls) i h)

pub no_spare : {X : Type 0} (r v : ℕ) (ls : List (List X)) (i : ℕ) → r ≤ length (held ls i) → in_use r ls ≡ v → full r v ls i ≡ true
no_spare r v ls i h e = or_right _ _ (and_from _ _ (le-leb r (length (held ls i)) h) (eq-eqb (in_use r ls) v e))

pub in_reserve : {X : Type 0} (r v : ℕ) (ls : List (List X)) (i : ℕ) → i < length ls → length (held ls i) < r → full r v ls i ≡ false
in_reserve r v ls i h k = or_from _ _ (lt-leb (length ls) i h) (and_left _ _ (lt-leb r (length (held ls i)) k))

pub in_spare : {X : Type 0} (r v : ℕ) (ls : List (List X)) (i : ℕ) → i < length ls → in_use r ls < v → full r v ls i ≡ false
in_spare r v ls i h k = or_from _ _ (lt-leb (length ls) i h) (and_right _ _ (ne_eqb (in_use r ls) v (λ e. absurd (omega (arith, e)))))

pub full_so : {X : Type 0} (r v : ℕ) (ls : List (List X)) (i : ℕ) → full r v ls i ≡ true → (length ls ≤ i) ⊎ ((r ≤ length (held ls i)) × (in_use r ls ≡ v))
full_so r v ls i e =
    elim (or_cases _ _ e) [
      | inl a ↦ inl (leb-true (length ls) i a)
      | inr a ↦ let p = and_parts _ _ a in inr (leb-true r (length (held ls i)) p.0, eqb-true (in_use r ls) v p.1)
    ]

pub full_there : {X : Type 0} (r v : ℕ) (ls : List (List X)) (i : ℕ) → i < length ls → full r v ls i ≡ true → (r ≤ length (held ls i)) × (in_use r ls ≡ v)
full_there r v ls i h e = elim (full_so r v ls i e) [ inl a ↦ absurd (omega arith) | inr a ↦ a ]

pub room_so : {X : Type 0} (r v : ℕ) (ls : List (List X)) (i : ℕ) → full r v ls i ≡ false → (i < length ls) × ((length (held ls i) < r) ⊎ (in_use r ls ≢ v))
room_so r v ls i e =
    let p = or_parts _ _ e in
    let h : i < length ls = leb-false (length ls) i p.0 in
    elim (and_cases _ _ p.1) [
      | inl a ↦ (h, inl (leb-false r (length (held ls i)) a))
      | inr a ↦ (h, inr (eqb-false (in_use r ls) v a))
    ]
