-- What a value's bytes say. Assumes nothing.
use Rattle.std.specs.Prelude.{◌≡◌, ℕ, ◌+◌, ◌*◌, Bool, true, false, cond, ◌&&◌, List, [], ◌∷◌, ℤ, negsuc, Ok, Err, Result, ◌==◌, nat_le, refl}
use Rattle.std.specs.Int.{w32}
use Rattle.std.proofs.Common.{to_z}
use Rattle.ipp.specs.declared.attributes.Fault.{Fault}
use Rattle.ipp.specs.declared.attributes.Fault.TheVariants.{Value}

-- a boolean: one byte, 0x00 or 0x01
abbrev pub boolean_of : List ℕ → Result Bool Fault
boolean_of [] = Err Value
boolean_of (b ∷ []) = cond (b == 0x00) (Ok false) (cond (b == 0x01) (Ok true) (Err Value))
boolean_of (b ∷ c ∷ bs) = Err Value

-- the number in four bytes
abbrev pub number_of : List ℕ → Result ℕ Fault
number_of [] = Err Value
number_of (a ∷ []) = Err Value
number_of (a ∷ b ∷ []) = Err Value
number_of (a ∷ b ∷ c ∷ []) = Err Value
number_of (a ∷ b ∷ c ∷ d ∷ []) = Ok (a * 16777216 + b * 65536 + c * 256 + d)
number_of (a ∷ b ∷ c ∷ d ∷ e ∷ es) = Err Value

abbrev pub signed : Result ℕ Fault → Result ℤ Fault
signed (Ok n) = Ok (to_z w32 n)
signed (Err e) = Err e

-- an integer: four bytes, signed
abbrev pub integer_of : List ℕ → Result ℤ Fault
integer_of bs = signed (number_of bs)

abbrev pub from_one : Result ℕ Fault → Result ℕ Fault
from_one (Ok n) = cond (nat_le 1 n && nat_le n 0x7FFFFFFF) (Ok n) (Err Value)
from_one (Err e) = Err e

-- an integer from 1 on: of those that four bytes hold, the ones up to 0x7FFFFFFF are not negative
abbrev pub positive_of : List ℕ → Result ℕ Fault
positive_of bs = from_one (number_of bs)

minus_two : integer_of (0xFF ∷ 0xFF ∷ 0xFF ∷ 0xFE ∷ []) ≡ Ok (negsuc 1)
minus_two = refl

lowest : positive_of (0x80 ∷ 0 ∷ 0 ∷ 0 ∷ []) ≡ Err Value
lowest = refl
