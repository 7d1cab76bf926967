-- The lists of lanes, by the lanes themselves.
use Rattle.std.specs.Prelude.{◌≡◌, ℕ, zero, suc, ◌-◌, ◌<◌, ◌≤◌, List, [], ◌∷◌, map, length, vec_items, vec_len, slice_index_or, slice_set, refl}
use Rattle.std.specs.VecDeque.{deque_items}
use Rattle.std.specs.List.{AllWithin}
use Rattle.std.proofs.Common.{sym, arith}
use Rattle.notice.specs.declared.event.Notice.{Notice}
use Rattle.std.specs.declared.alloc.Global.{Global}
use Rattle.std.specs.declared.collections.VecDeque.{VecDeque}
use Rattle.std.proofs.lemmas.List.{map-set, get_or-map}
use Rattle.std.proofs.lemmas.List.Sums.{sum_by-cons}
use Rattle.store.specs.declared.lanes.Lanes.{Lanes}
use Rattle.store.specs.Lanes.{lane_lists}
use Rattle.store.specs.Meaning.{held, in_use}

-- the lane of a slot, as `get_mut` reads it
pub lane_read : (s : Lanes) (i : ℕ) (q : VecDeque Notice Global) → i < vec_len s.lanes → deque_items (slice_index_or (vec_items s.lanes) i q) ≡ held (lane_lists s) i
lane_read s i q h = sym (get_or-map deque_items (vec_items s.lanes) i q [] (omega (arith, s.lanes.ok.0)))

-- and another lane in its place
pub lane_written : (s : Lanes) (i : ℕ) (q : VecDeque Notice Global) → map deque_items (slice_set (vec_items s.lanes) i q) ≡ slice_set (lane_lists s) i (deque_items q)
lane_written s i q = map-set deque_items (vec_items s.lanes) i q

-- where each queue is short, so is what each slot holds
pub held_short : {Q X : Type 0} (f : Q → List X) (r : ℕ) (qs : List Q) → AllWithin (λ q. length (f q) ≤ r) qs 0 (length qs) → (i : ℕ) → length (held (map f qs) i) ≤ r
held_short f r [] h i = omega arith
held_short f r (q ∷ qs) h zero = h 0 q (omega arith) (omega arith)
held_short f r (q ∷ qs) h (suc i) = held_short f r qs (λ j d a b. h (suc j) d (omega arith) (omega arith)) i

-- where no slot holds more than the reserve, none of the spare is in use
pub none_in_use : {X : Type 0} (r : ℕ) (ls : List (List X)) → ((i : ℕ) → length (held ls i) ≤ r) → in_use r ls ≡ 0
none_in_use r [] h = refl
none_in_use {X} r (l ∷ ls) h =
    let here : length l ≤ r = h 0 in
    let rest = none_in_use r ls (λ i. h (suc i)) in
    omega (arith, sum_by-cons (λ (l : List X). length l - r) l ls)
