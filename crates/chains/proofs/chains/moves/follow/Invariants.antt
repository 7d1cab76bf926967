use Rattle.std.proofs.Common.{◌≡◌}
use Rattle.chains.specs.Links.{step}
use Rattle.chains.specs.Held.{links_of}
use Rattle.chains.proofs.chains.moves.follow.Given as goal

abbrev pub invariant-loop : goal.invariant-loop
invariant-loop l = l.p ≡ step (links_of l.places) l.first l.counter
