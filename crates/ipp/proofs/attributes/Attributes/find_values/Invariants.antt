use Rattle.std.proofs.Common.{◌≡◌}
use Rattle.ipp.specs.Attributes.{attributes_in, values_of}
use Rattle.ipp.proofs.attributes.Attributes.find_values.Given as goal

abbrev pub invariant-loop-attribute : goal.invariant-loop-attribute
invariant-loop-attribute l = values_of l.name (attributes_in l.attribute-iterator) ≡ values_of l.name (attributes_in l.fn.self)
