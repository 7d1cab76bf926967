use Rattle.std.proofs.Common.{rules}
use Rattle.chains.proofs.Stored.{at_is}
use Rattle.chains.proofs.chains.methods.ChainsNoticeStore.at.Goals as goal

pub returns : goal.returns
returns c =
    at_is c.args.self.now c.args.slot c.args.place c.follow-p.result c.index.result.now (search rules) (search rules) (search rules)
