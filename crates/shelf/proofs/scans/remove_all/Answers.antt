use Rattle.std.proofs.Common.{not, rules}
use Rattle.std.proofs.lemmas.Fn.{filter_same}
use Rattle.shelf.specs.Shelf.{is_for}
use Rattle.shelf.proofs.scans.remove_all.Goals as goal

pub returns-clause-items : goal.returns-clause-items
returns-clause-items c = filter_same _ (λ e. not (is_for c.args.slot e)) _ (λ x b f' k. search rules) _ _ c.retain.ensures.filtered
