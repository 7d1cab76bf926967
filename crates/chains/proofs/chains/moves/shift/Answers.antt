use Rattle.std.proofs.Common.{refl, arith}
use Rattle.std.proofs.Math.Seq.{map-set_same}
use Rattle.chains.specs.declared.place.Place.{Place}
use Rattle.chains.proofs.Shifted.{joined_written}
use Rattle.chains.proofs.chains.moves.shift.Goals as goal

pub returns-then-target-gt0-clause-links : goal.returns-then-target-gt0-clause-links
returns-then-target-gt0-clause-links c = joined_written c.args.places.now _ _ _ (omega arith)

pub returns-then-target-gt0-clause-notices : goal.returns-then-target-gt0-clause-notices
returns-then-target-gt0-clause-notices c = map-set_same (λ (p : Place). p.notice) c.args.places.now _ _ _ refl
