use Rattle.std.proofs.Common.{◌≡◌, ◌-◌, false, length}
use Rattle.ipp.specs.Walk.{end_from}
use Rattle.ipp.proofs.items.check_items.Given as goal

abbrev pub invariant-loop-item : goal.invariant-loop-item
invariant-loop-item l = end_from l.src (l.«open», l.at) ≡ end_from l.src (false, l.start)

abbrev pub decreases-loop-item : goal.decreases-loop-item
decreases-loop-item l = length l.src - l.at
