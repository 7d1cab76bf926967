-- What is read from a table has the number. Assumes nothing.
use Rattle.std.proofs.Common.{◌≡◌, ℕ, List, [], ◌∷◌, Some, arith}
use Rattle.std.proofs.lemmas.Bool.Decides.{nat_tests}
use Rattle.notice.specs.Tables.{numbered}

pub numbered_has : {X : Type 0} (f : X → ℕ) (xs : List X) (n : ℕ) (x : X) → numbered f xs n ≡ Some x → f x ≡ n
numbered_has f [] n x e = grind arith
numbered_has f (y ∷ xs) n x e = let rest = numbered_has f xs n x in grind (arith, nat_tests)
