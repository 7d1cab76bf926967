use Rattle.std.proofs.Common.{◌≡◌, ◌≤◌, [], map, replicate, vec_items, vec_len, vec_capacity, deque_items, deque_len, deque_capacity}
use Rattle.std.specs.List.{All}
use Rattle.store.proofs.lanes.Lanes.new.Given as goal

abbrev pub invariant-loop : goal.invariant-loop
invariant-loop l =
    (map deque_items (vec_items l.lanes) ≡ replicate l.counter [])
    × (vec_len l.lanes ≡ l.counter)
    × (l.slots ≤ vec_capacity l.lanes)
    × All (λ q. deque_len q ≤ l.reserve) (vec_items l.lanes)
    × All (λ q. l.reserve ≤ deque_capacity q) (vec_items l.lanes)
