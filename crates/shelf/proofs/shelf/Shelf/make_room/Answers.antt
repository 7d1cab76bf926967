use Rattle.std.proofs.Common.{◌≡◌, true, sym, ◌∙◌, arith}
use Rattle.std.proofs.lemmas.List.{take_all}
use Rattle.std.proofs.lemmas.List.Elements.{All-same}
use Rattle.std.proofs.lemmas.Bool.{not-false}
use Rattle.store.specs.Meaning.{full}
use Rattle.shelf.proofs.Room.{stuck_more}
use Rattle.shelf.proofs.shelf.Shelf.make_room.Goals as goal

pub loop-j-preserved : goal.loop-j-preserved
loop-j-preserved g c =
    let i = c.loop-j.invariant in
    let p = c.put.ensures in
    let refused = sym c.is_ok.ensures.value ∙ c.if-is_ok.false in
    record {
      lists = (rw refused at p.lists) ∙ i.lists;
      reserve = p.reserve ∙ i.reserve;
      spare = p.spare ∙ i.spare;
      stuck = stuck_more _ _ _ _ _ _ _ _ _ _ i.reserve i.spare i.lists c.deref-e-items.ensures.value c.loop-j-test.true i.stuck (not-false _ (sym p.taken ∙ refused));
    }

pub returns-clause-stuck : goal.returns-clause-stuck
returns-clause-stuck g c =
    let s = c.args.self.now in
    let all = take_all c.loop-j.j s.entries.items (omega (arith, c.loop-j-test.false, c.deref-e-items.ensures.len, s.entries.ok.0)) in
    All-same (λ e. full (g.S.NoticeStore.reserve s.lower) (g.S.NoticeStore.spare s.lower) (g.S.NoticeStore.lists s.lower) e.slot ≡ true) s.entries.items _ (sym all) c.loop-j.invariant.stuck
