use Rattle.std.proofs.Common.{refl}
use Rattle.chains.proofs.Fresh.{fresh_lists, fresh_holds}
use Rattle.chains.proofs.chains.Chains.with_sizes.Goals as goal

pub invariant_of-result : goal.invariant_of-result
invariant_of-result c =
    let ps = c.in_ok-places.places in
    let cs = c.in_ok-chains.chains in
    let s = c.args.sizes in
    fresh_holds ps.items ps.len cs.items cs.len _ s.slots s.reserve s.spare _ refl refl refl c.in_ok-places.ensures ps.ok.0 c.in_ok-chains.ensures cs.ok.0 refl
    c.requires.slots.1 c.requires.reserve.1 c.requires.spare

pub returns : goal.returns
returns c = (fresh_lists c.in_ok-places.places.items c.in_ok-chains.chains.items _ c.args.sizes.slots c.in_ok-chains.ensures, refl, refl)
