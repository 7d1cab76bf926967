use Rattle.std.proofs.Common.{codes, rules, arith}
use Rattle.std.proofs.lemmas.Slice.Eq.{text_from_reads}
use Rattle.stores.proofs.lines.read_verb.Goals as goal

pub returns-in-sizes : goal.returns-in-sizes
returns-in-sizes c = rw (text_from_reads c.args.word.now (codes "sizes") (omega arith) (search rules))

pub returns-in-drop : goal.returns-in-drop
returns-in-drop c = rw (text_from_reads c.args.word.now (codes "drop") (omega arith) (search rules))

pub returns-in-clear : goal.returns-in-clear
returns-in-clear c = rw (text_from_reads c.args.word.now (codes "clear") (omega arith) (search rules))
