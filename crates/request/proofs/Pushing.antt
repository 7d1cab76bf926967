-- One more in a list that holds at most eight. Assumes nothing.
use Rattle.std.proofs.Common.{◌≡◌, length, arith, length-take}
use Rattle.request.specs.declared.wanted.Wanted.{Wanted}
use Rattle.request.specs.Wanted.{asked_in}

pub asked_count : (w : Wanted) → length (asked_in w) ≡ w.len
asked_count w = let f = w.few in let h = w.whole in simp length-take (omega arith)
