-- Conditions on the values of an attribute. Assumes nothing.
use Rattle.std.specs.Prelude.{ℕ, Bool, true, not, ◌&&◌, List, [], ◌∷◌, Ok, Err, Result, ◌==◌}
use Rattle.std.specs.List.{list_all}
use Rattle.ipp.specs.declared.attributes.Fault.{Fault}
use Rattle.ipp.specs.Attributes.{Tagged}
use Rattle.ipp.specs.Values.{positive_of}

abbrev pub or_zero : Result ℕ Fault → ℕ
or_zero (Ok n) = n
or_zero (Err e) = 0

-- the number in a value that is an integer from 1 on; 0 in any other
abbrev pub number_in : List ℕ → ℕ
number_in bs = or_zero (positive_of bs)

-- no number stands twice
abbrev pub distinct_numbers : List Tagged → Bool
distinct_numbers [] = true
distinct_numbers (v ∷ vs) = list_all (λ w. not (number_in w.1 == number_in v.1)) vs && distinct_numbers vs
