-- What a kind adds to the number of a set, as a product. Assumes nothing.
use Rattle.std.proofs.Common.{◌≡◌, ℕ, ◌*◌, ◌/◌, ◌%◌, cond, eqb, one-mul, zero-mul, arith}
use Rattle.std.proofs.lemmas.Bool.Decides.{nat_tests}

pub added : (n w : ℕ) → cond (eqb (n / w % 2) 1) w 0 ≡ n / w % 2 * w
added n w = grind (arith, nat_tests, one-mul, zero-mul)
