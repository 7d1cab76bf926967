-- Hexadecimal text and the bytes that it stands for. Assumes nothing.
use Rattle.std.specs.Prelude.{◌≡◌, ℕ, ◌+◌, ◌-◌, ◌*◌, ◌/◌, ◌%◌, ◌<◌, Bool, cond, ◌&&◌, List, [], ◌∷◌, Ok, Err, vec_items, Result, Vec, nat_le, nat_lt}
use Rattle.std.specs.List.{AllByRecursion}
use Rattle.std.specs.declared.alloc.Global.{Global}
use Rattle.hex_text.specs.declared.HexFault.{HexFault}
use Rattle.hex_text.specs.declared.HexFault.TheVariants.{Digit, Odd, Memory}

abbrev pub between : ℕ → ℕ → ℕ → Bool
between low high c = nat_le low c && nat_le c high

-- what a character stands for: `0` to `9`, `a` to `f`, `A` to `F`
abbrev pub digit_of : ℕ → Result ℕ HexFault
digit_of c = cond (between 48 57 c) (Ok (c - 48)) (cond (between 97 102 c) (Ok (c - 87)) (cond (between 65 70 c) (Ok (c - 55)) (Err Digit)))

abbrev pub then : {A B E : Type 0} → Result A E → (A → Result B E) → Result B E
then (Ok x) f = f x
then (Err e) f = Err e

abbrev pub byte_of : ℕ → ℕ → Result ℕ HexFault
byte_of a b = then (digit_of a) (λ x. then (digit_of b) (λ y. Ok (x * 16 + y)))

-- the fault of a character that stands alone
abbrev pub fault_alone : Result ℕ HexFault → HexFault
fault_alone (Ok x) = Odd
fault_alone (Err e) = e

-- two digits a byte; a character that is no digit is the fault before an odd number of digits is
abbrev pub bytes_of : List ℕ → Result (List ℕ) HexFault
bytes_of [] = Ok []
bytes_of (a ∷ []) = Err (fault_alone (digit_of a))
bytes_of (a ∷ b ∷ cs) = then (byte_of a b) (λ n. then (bytes_of cs) (λ bs. Ok (n ∷ bs)))

-- r is what the text says, but for a want of memory
abbrev pub Says : Result (List ℕ) HexFault → Result (Vec ℕ Global) HexFault → Type 0
Says w (Ok v) = w ≡ Ok (vec_items v)
Says w (Err Digit) = w ≡ Err Digit
Says w (Err Odd) = w ≡ Err Odd
Says w (Err Memory) = Unit {0}

abbrev pub char_of : ℕ → ℕ
char_of n = cond (nat_lt n 10) (48 + n) (87 + n)

abbrev pub text_of : List ℕ → List ℕ
text_of [] = []
text_of (b ∷ bs) = char_of (b / 16) ∷ char_of (b % 16) ∷ text_of bs

abbrev pub ReadsBack : Type 0
ReadsBack = (bs : List ℕ) → AllByRecursion (λ b. b < 256) bs → bytes_of (text_of bs) ≡ Ok bs
