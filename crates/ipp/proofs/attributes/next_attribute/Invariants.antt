use Rattle.std.proofs.Common.{◌≡◌, ◌≤◌, length}
use Rattle.ipp.specs.Attributes.{attributes}
use Rattle.ipp.specs.Walk.{items_in}
use Rattle.ipp.proofs.attributes.next_attribute.Given as goal

abbrev pub invariant-loop-item : goal.invariant-loop-item
invariant-loop-item l = (attributes (items_in l.items) ≡ attributes (items_in l.fn.items)) × (l.fn.items.at ≤ l.items.at) × (l.items.src ≡ l.fn.items.src)

abbrev pub decreases-loop-item : goal.decreases-loop-item
decreases-loop-item l = length (items_in l.items)
