use Rattle.std.proofs.Common.{◌≡◌, ◌<◌, false, not, is_ok, List, ◌++◌, ◌∷◌, [], length, vec_items, vec_len, refl, sym, ap, ◌∙◌, arith, rules}
use Rattle.std.proofs.lemmas.List.Elements.{All-push}
use Rattle.notice.specs.declared.event.Notice.{Notice}
use Rattle.shelf.specs.declared.entry.Entry.{Entry}
use Rattle.shelf.proofs.Changes.{placed_after, slots_alike}
use Rattle.shelf.proofs.Room.{room_nowhere, stuck_alike}
use Rattle.shelf.proofs.shelf.methods.ShelfNoticeStore.put.Goals as goal

pub returns-in_err-make_room-clause-taken : goal.returns-in_err-make_room-clause-taken
returns-in_err-make_room-clause-taken g c =
    let s = c.args.self.now in
    let p = c.put_below.ensures in
    let refused = sym c.is_ok.ensures.value ∙ c.if-is_ok.false in
    let q = c.in_err-make_room.ensures in
    let r = g.S.NoticeStore.reserve s.lower in
    let v = g.S.NoticeStore.spare s.lower in
    let ls = g.S.NoticeStore.lists s.lower in
    let es = s.entries.items in
    let stuck = stuck_alike r v _ _ ls _ es _ p.reserve p.spare (rw refused at p.lists) (ap vec_items p.entries) q.stuck in
    let err : is_ok c.from_residual.result ≡ false = search rules in
    err ∙ sym (ap not (room_nowhere r v s.size ls es c.args.slot (omega arith) s.placed (omega (arith, q.full, p.size, ap vec_len p.entries, s.entries.ok.0)) stuck (sym p.taken ∙ refused)))

pub invariant_of-self-clause-placed : goal.invariant_of-self-clause-placed
invariant_of-self-clause-placed g c =
    let p = c.put_below.ensures in
    let refused = sym c.is_ok.ensures.value ∙ c.if-is_ok.false in
    let y = c.put_below.new.self in
    let z = c.make_room.new.self in
    let ks = g.S.NoticeStore.lists y.lower in
    let ls = g.S.NoticeStore.lists z.lower in
    let e : Entry = record { slot = c.args.slot; notice = c.args.notice } in
    let slots = slots_alike ks ls y.entries.items z.entries.items c.in_ok-make_room.ensures.lists ∙ ap (λ (ms : List (List Notice)). length ms) (rw refused at p.lists) in
    placed_after ls ls (z.entries.items ++ e ∷ []) _ refl c.push_reserved.ensures.items (All-push (λ e. e.slot < length ls) z.entries.items e z.placed (omega (arith, slots)))
