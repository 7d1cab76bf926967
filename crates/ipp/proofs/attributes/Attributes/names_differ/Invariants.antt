use Rattle.std.proofs.Common.{◌≡◌, length}
use Rattle.ipp.specs.Attributes.{attributes_in, distinct_names}
use Rattle.ipp.proofs.attributes.Attributes.names_differ.Given as goal

abbrev pub invariant-loop-attribute : goal.invariant-loop-attribute
invariant-loop-attribute l = distinct_names (attributes_in l.self) ≡ distinct_names (attributes_in l.fn.self)

abbrev pub decreases-loop-attribute : goal.decreases-loop-attribute
decreases-loop-attribute l = length (attributes_in l.self)
