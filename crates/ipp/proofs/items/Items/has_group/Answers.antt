use Rattle.std.proofs.Common.{rules, tests}
use Rattle.std.proofs.lemmas.Iterator.Search.{any_from_yields_List}
use Rattle.std.proofs.lemmas.Iterator.Consumers.{YieldsList-from_first}
use Rattle.ipp.specs.Items.{piece_of}
use Rattle.ipp.specs.Attributes.{is_mark}
use Rattle.ipp.specs.Walk.{items_in}
use Rattle.ipp.proofs.items.Items.has_group.Goals as goal

pub returns : goal.returns
returns c = any_from_yields_List (is_mark c.args.mark) c.any.new.self _ c.any.result c.any.ensures.ran (YieldsList-from_first piece_of items_in (items_in c.args.self) (cc)) (λ x b q k. search (rules, tests))
