use Rattle.std.proofs.Common.{◌≡◌, not, length, ◌==◌}
use Rattle.std.specs.List.{list_all}
use Rattle.ipp.specs.Attributes.{values_in}
use Rattle.ipp.specs.Conditions.{number_in}
use Rattle.ipp.proofs.values.Values.all_differ_from.Given as goal

abbrev pub invariant-loop-self : goal.invariant-loop-self
invariant-loop-self l = list_all (λ v. not (number_in v.1 == l.n)) (values_in l.self) ≡ list_all (λ v. not (number_in v.1 == l.n)) (values_in l.fn.self)

abbrev pub decreases-loop-self : goal.decreases-loop-self
decreases-loop-self l = length (values_in l.self)
