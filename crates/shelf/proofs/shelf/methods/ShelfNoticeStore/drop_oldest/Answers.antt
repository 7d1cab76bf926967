use Rattle.std.proofs.Common.{refl}
use Rattle.shelf.specs.Shelf.{first_of, without_oldest}
use Rattle.shelf.proofs.Changes.{placed_after, placed_removed}
use Rattle.shelf.proofs.shelf.methods.ShelfNoticeStore.drop_oldest.Goals as goal

pub invariant_of-self-clause-placed : goal.invariant_of-self-clause-placed
invariant_of-self-clause-placed g c =
    let s = c.args.self.now in
    let ls = g.S.NoticeStore.lists s.lower in
    let es = s.entries.items in
    placed_after ls ls (without_oldest es c.args.slot) _ refl c.remove_first.ensures.items (placed_removed ls es (first_of es c.args.slot) s.placed)
