use Rattle.std.proofs.Common.{◌≡◌, take, vec_items}
use Rattle.shelf.specs.Shelf.{Stuck}
use Rattle.shelf.proofs.shelf.Shelf.make_room.Given as goal

abbrev pub invariant-loop-j : goal.invariant-loop-j
invariant-loop-j g l =
    let lower = l.self.1.0 in
    let lower0 = l.initial.self.1.0 in
    record {
      lists : g.S.NoticeStore.lists lower ≡ g.S.NoticeStore.lists lower0;
      reserve : g.S.NoticeStore.reserve lower ≡ g.S.NoticeStore.reserve lower0;
      spare : g.S.NoticeStore.spare lower ≡ g.S.NoticeStore.spare lower0;
      stuck : Stuck (g.S.NoticeStore.reserve lower0) (g.S.NoticeStore.spare lower0) (g.S.NoticeStore.lists lower0) (take l.j (vec_items l.initial.self.1.1.0));
    }
