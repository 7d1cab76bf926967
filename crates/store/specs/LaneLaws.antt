-- Of lanes, what the laws of a store need, which are proved where the trait is implemented.
-- Lemmas: nothing in this file has to be believed.
use Rattle.std.specs.Prelude.{◌≡◌, ◌-◌, ◌≤◌, List, length, get_or, vec_items, vec_len}
use Rattle.std.specs.VecDeque.{deque_items}
use Rattle.std.specs.List.{All}
use Rattle.std.proofs.Common.{sym, ◌∙◌, arith}
use Rattle.std.proofs.lemmas.List.{length-map}
use Rattle.std.proofs.lemmas.List.Elements.{All-map}
use Rattle.std.proofs.lemmas.List.Sums.{sum_by-le}
use Rattle.notice.specs.declared.event.Notice.{Notice}
use Rattle.store.specs.declared.lanes.Lanes.{Lanes}
use Rattle.store.specs.Lanes.{lane_lists}
use Rattle.store.specs.Meaning.{in_use}

pub lanes_long : (s : Lanes) → length (lane_lists s) ≡ vec_len s.lanes
lanes_long s = length-map (vec_items s.lanes) deque_items ∙ sym s.lanes.ok.0

-- no lane is longer than the reserve, so none of the spare is in use
pub none_of_spare : (s : Lanes) → in_use s.reserve (lane_lists s) ≡ 0
none_of_spare s =
    let short : All (λ q. length (deque_items q) - s.reserve ≤ 0) (vec_items s.lanes) =
    λ k d h. omega (arith, (get_or (vec_items s.lanes) k d).ok.0, s.short k d h) in
    let none = sum_by-le (λ (l : List Notice). length l - s.reserve) 0 (lane_lists s) (All-map (λ l. length l - s.reserve ≤ 0) deque_items (vec_items s.lanes) short) in
    omega (arith, none)
