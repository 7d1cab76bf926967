-- The meaning of a store: for each slot a list of items, the oldest first, with two numbers.
-- The reserve r is how many items every slot may hold in any case; the spare v is how many more all slots together may hold.
use Rattle.std.specs.Prelude.{ℕ, ◌-◌, Bool, ◌&&◌, ◌||◌, List, [], ◌∷◌, ◌++◌, length, drop, sum_by, ◌==◌, nat_le, slice_index_or, slice_set}

-- what a slot holds; nothing where there is no such slot
abbrev pub held : {X : Type 0} → List (List X) → ℕ → List X
held lists slot = slice_index_or lists slot []

-- the spare in use: what the slots hold above the reserve, added up
abbrev pub in_use : {X : Type 0} → ℕ → List (List X) → ℕ
in_use r lists = sum_by (λ l. length l - r) lists

-- whether a slot takes no more: there is no such slot, or it holds the reserve or more and all of the spare is in use
abbrev pub full : {X : Type 0} → ℕ → ℕ → List (List X) → ℕ → Bool
full r v lists slot = nat_le (length lists) slot || (nat_le r (length (held lists slot)) && in_use r lists == v)

-- one item more, as the last of a slot
abbrev pub put_at : {X : Type 0} → List (List X) → ℕ → X → List (List X)
put_at lists slot x = slice_set lists slot (held lists slot ++ x ∷ [])

-- the oldest item of a slot taken off, if there is one
abbrev pub drop_at : {X : Type 0} → List (List X) → ℕ → List (List X)
drop_at lists slot = slice_set lists slot (drop 1 (held lists slot))

-- a slot emptied
abbrev pub clear_at : {X : Type 0} → List (List X) → ℕ → List (List X)
clear_at lists slot = slice_set lists slot []
