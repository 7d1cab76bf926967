-- What lanes hold.
use Rattle.std.specs.Prelude.{List, map, vec_items}
use Rattle.std.specs.VecDeque.{deque_items}
use Rattle.notice.specs.declared.event.Notice.{Notice}
use Rattle.store.specs.declared.lanes.Lanes.{Lanes}

-- each lane is the list of its slot
abbrev pub lane_lists : Lanes → List (List Notice)
lane_lists s = map deque_items (vec_items s.lanes)
