-- A table of numbers, read both ways. Assumes nothing.
use Rattle.std.specs.Prelude.{◌≡◌, ℕ, cond, List, [], ◌∷◌, Some, None, Option, Result, ◌==◌}
use Rattle.std.specs.Option.{ok_or}
use Rattle.notice.specs.declared.numbers.UnknownNumber.{UnknownNumber}

-- the first of a list that has the number n
abbrev pub numbered : {X : Type 0} → (X → ℕ) → List X → ℕ → Option X
numbered f [] n = None
numbered f (x ∷ xs) n = cond (n == f x) (Some x) (numbered f xs n)

-- what has the number n, or the number itself where nothing has it
abbrev pub read_by : {X : Type 0} → (ℕ → Option X) → ℕ → Result X UnknownNumber
read_by f n = ok_or (f n) (record { 0 = n })

-- a number is read as what has it, and as nothing else
abbrev pub TwoWays : {X : Type 0} → (X → ℕ) → (ℕ → Option X) → Type 0
TwoWays {X} f g = ((x : X) → g (f x) ≡ Some x) × ((n : ℕ) (x : X) → g n ≡ Some x → f x ≡ n)
