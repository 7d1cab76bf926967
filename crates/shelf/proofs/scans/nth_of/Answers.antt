use Rattle.std.proofs.Common.{◌≡◌, filter, sym, ap, ◌∙◌, rules, tests}
use Rattle.std.specs.Option.{option_map}
use Rattle.std.proofs.lemmas.Iterator.{YieldsList-from_slice}
use Rattle.std.proofs.lemmas.Iterator.Consumers.{YieldsList-from_filter, nth_from_yields_List}
use Rattle.std.proofs.lemmas.Option.{slice_get-map}
use Rattle.shelf.specs.declared.entry.Entry.{Entry}
use Rattle.shelf.specs.Shelf.{is_for}
use Rattle.shelf.proofs.scans.nth_of.Goals as goal

pub returns : goal.returns
returns c =
    let es = c.args.entries.now in
    let test = is_for c.args.slot in
    let notice_of = λ (e : Entry). e.notice in
    let found = nth_from_yields_List c.nth.result _ c.args.place c.nth.ensures.ran (YieldsList-from_filter _ test (YieldsList-from_slice es (cc)) c.filter.ensures.closure (λ x r q k. search (rules, tests))) in
    let told : c.map.result ≡ option_map notice_of (option_map (λ y. y.now) c.nth.result) = search rules in
    told ∙ ap (option_map notice_of) found ∙ sym (slice_get-map notice_of (filter test es) c.args.place)
