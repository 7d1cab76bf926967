use Rattle.std.proofs.Common.{arith}
use Rattle.std.proofs.lemmas.Grind.{common_steps}
use Rattle.chains.proofs.Stored.{found_count}
use Rattle.chains.proofs.chains.Chains.chain.Goals as goal

pub returns-clause-none : goal.returns-clause-none
returns-clause-none c = grind (arith, common_steps)

pub returns-clause-count : goal.returns-clause-count
returns-clause-count c = found_count c.args.self.now c.args.slot c.get.result (grind (arith, common_steps)) (grind (arith, common_steps))
