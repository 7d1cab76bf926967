use Rattle.std.proofs.Common.{◌≡◌, length, take, rules, tests, arith}
use Rattle.std.proofs.lemmas.Grind.{common_steps}
use Rattle.std.proofs.lemmas.Iterator.{YieldsList-from_slice}
use Rattle.std.proofs.lemmas.Iterator.Consumers.{count_from_yields_List}
use Rattle.std.proofs.lemmas.Iterator.Search.{YieldsList-from_take_while}
use Rattle.std.proofs.lemmas.List.Folds.{length-prefix_len}
use Rattle.std.specs.List.{prefix_len}
use Rattle.stores.specs.Lines.{space}
use Rattle.stores.proofs.lines.skip_spaces.Goals as goal

pub returns : goal.returns
returns c =
    let t = c.args.text.now in
    let n : c.count-spaces.result ≡ length (take (prefix_len space t) t) = count_from_yields_List _ _ c.count-spaces.ensures.ran (YieldsList-from_take_while _ space (YieldsList-from_slice t cc) c.take_while.ensures.closure c.take_while.ensures.done (λ x b q k. search (rules, tests))) in
    let m = length-prefix_len space t in grind (arith, common_steps)
