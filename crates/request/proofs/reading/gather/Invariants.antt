use Rattle.std.proofs.Common.{◌≡◌, ◌+◌, ◌++◌, length}
use Rattle.ipp.specs.Attributes.{values_in}
use Rattle.request.specs.Request.{asks}
use Rattle.request.specs.Wanted.{asked_in}
use Rattle.request.proofs.reading.gather.Given as goal

abbrev pub invariant-loop-value : goal.invariant-loop-value
invariant-loop-value l =
    (asked_in l.wanted ++ asks (values_in l.value-iterator) (values_in l.numbers) ≡ asks (values_in l.fn.ids) (values_in l.fn.numbers))
    × (length (asked_in l.wanted) + length (values_in l.value-iterator) ≡ length (values_in l.fn.ids))
