use Rattle.std.proofs.Common.{◌≡◌, ◌≤◌, length, sym, ap, ◌∙◌, arith, rules, tests}
use Rattle.std.specs.List.{remove}
use Rattle.std.proofs.lemmas.Iterator.{YieldsList-from_slice}
use Rattle.std.proofs.lemmas.Iterator.Search.{position_from_yields_List}
use Rattle.shelf.specs.Shelf.{is_for, first_of}
use Rattle.shelf.proofs.Waiting.{removed_past}
use Rattle.shelf.proofs.scans.remove_first.Goals as goal

pub returns-in-Some-clause-items : goal.returns-in-Some-clause-items
returns-in-Some-clause-items c =
    let es = c.args.entries.now.items in
    let found = position_from_yields_List (is_for c.args.slot) _ _ c.position.result c.position.ensures.ran (YieldsList-from_slice es (cc)) (λ x b q k. search (rules, tests)) in
    let here : c.in-Some.first ≡ first_of es c.args.slot = grind arith in
    c.remove.ensures.items ∙ ap (remove es) here

pub returns-in_default-clause-items : goal.returns-in_default-clause-items
returns-in_default-clause-items c =
    let es = c.args.entries.now.items in
    let found = position_from_yields_List (is_for c.args.slot) _ _ c.position.result c.position.ensures.ran (YieldsList-from_slice es (cc)) (λ x b q k. search (rules, tests)) in
    let none : length es ≤ first_of es c.args.slot = grind arith in
    sym (removed_past es (first_of es c.args.slot) none)
