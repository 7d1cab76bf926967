use Rattle.std.proofs.Common.{◌≡◌, length, take, not, rules, tests, arith}
use Rattle.std.proofs.lemmas.Grind.{common_steps}
use Rattle.std.proofs.lemmas.Iterator.{YieldsList-from_slice}
use Rattle.std.proofs.lemmas.Iterator.Consumers.{count_from_yields_List}
use Rattle.std.proofs.lemmas.Iterator.Search.{YieldsList-from_take_while}
use Rattle.std.proofs.lemmas.List.Folds.{length-prefix_len}
use Rattle.stores.specs.Lines.{space, word_end, from_word}
use Rattle.stores.proofs.lines.next_word.Goals as goal

pub returns : goal.returns
returns c =
    let t = from_word c.args.text.now in
    let n : c.count-length.result ≡ length (take (word_end t) t) = count_from_yields_List _ _ c.count-length.ensures.ran (YieldsList-from_take_while _ (λ x. not (space x)) (YieldsList-from_slice t cc) c.take_while.ensures.closure c.take_while.ensures.done (λ x b q k. search (rules, tests))) in
    let m = length-prefix_len (λ x. not (space x)) t in
    record { word = grind (arith, common_steps); rest = grind (arith, common_steps) }
