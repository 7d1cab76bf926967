-- A place of two lists, one after the other.
use Rattle.std.proofs.Common.{◌≡◌, ℕ, zero, suc, ◌+◌, ◌<◌, List, [], ◌∷◌, ◌++◌, length, refl, ap, arith}
use Rattle.std.specs.List.{slice_get}

pub nth_left : {X : Type 0} (xs ys : List X) (k : ℕ) → k < length xs → slice_get (xs ++ ys) k ≡ slice_get xs k
nth_left [] ys k h = absurd (omega arith)
nth_left (x ∷ xs) ys zero h = refl
nth_left (x ∷ xs) ys (suc k) h = nth_left xs ys k (omega arith)

pub nth_right : {X : Type 0} (xs ys : List X) (k m : ℕ) → k ≡ m + length xs → slice_get (xs ++ ys) k ≡ slice_get ys m
nth_right {X} [] ys k m h = let e : k ≡ m = omega arith in ap (λ (k : ℕ). slice_get ys k) e
nth_right (x ∷ xs) ys zero m h = absurd (omega arith)
nth_right (x ∷ xs) ys (suc k) m h = nth_right xs ys k m (omega arith)
