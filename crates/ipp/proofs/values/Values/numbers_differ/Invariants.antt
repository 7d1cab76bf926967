use Rattle.std.proofs.Common.{◌≡◌, length}
use Rattle.ipp.specs.Attributes.{values_in}
use Rattle.ipp.specs.Conditions.{distinct_numbers}
use Rattle.ipp.proofs.values.Values.numbers_differ.Given as goal

abbrev pub invariant-loop-value : goal.invariant-loop-value
invariant-loop-value l = distinct_numbers (values_in l.self) ≡ distinct_numbers (values_in l.fn.self)

abbrev pub decreases-loop-value : goal.decreases-loop-value
decreases-loop-value l = length (values_in l.self)
