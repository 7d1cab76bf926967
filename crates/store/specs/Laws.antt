-- What follows from the meaning of a store, whatever its items are. Who builds on a store uses these, and not the text of the definitions.
use Rattle.std.specs.Prelude.{◌≡◌, ℕ, ◌<◌, ◌≤◌, true, false, ◌≢◌, ◌⊎◌, List, [], ◌∷◌, ◌++◌, length, drop}
use Rattle.store.specs.Meaning.{held, in_use, full, put_at, drop_at, clear_at}

-- the list of the slot that a call names, after the call
abbrev pub Changes : Type 0 → Type 0
Changes X =
    (lists : List (List X)) (slot : ℕ) (x : X) → slot < length lists →
    (held (put_at lists slot x) slot ≡ held lists slot ++ x ∷ [])
    × (held (drop_at lists slot) slot ≡ drop 1 (held lists slot))
    × (held (clear_at lists slot) slot ≡ [])

-- every other list stays as it is
abbrev pub LeavesOthers : Type 0 → Type 0
LeavesOthers X =
    (lists : List (List X)) (slot other : ℕ) (x : X) → other ≢ slot →
    (held (put_at lists slot x) other ≡ held lists other)
    × (held (drop_at lists slot) other ≡ held lists other)
    × (held (clear_at lists slot) other ≡ held lists other)

-- the number of slots never changes
abbrev pub KeepsSlots : Type 0 → Type 0
KeepsSlots X =
    (lists : List (List X)) (slot : ℕ) (x : X) →
    (length (put_at lists slot x) ≡ length lists)
    × (length (drop_at lists slot) ≡ length lists)
    × (length (clear_at lists slot) ≡ length lists)

-- where there is no such slot, drop and clear change nothing
abbrev pub NoSuchSlot : Type 0 → Type 0
NoSuchSlot X =
    (lists : List (List X)) (slot : ℕ) → length lists ≤ slot →
    (drop_at lists slot ≡ lists) × (clear_at lists slot ≡ lists)

-- a slot is full exactly where it is missing, or holds the reserve or more while the spare in use is all of the spare
abbrev pub Refuses : Type 0 → Type 0
Refuses X =
    (r v : ℕ) (lists : List (List X)) (slot : ℕ) →
    (full r v lists slot ≡ true → (length lists ≤ slot) ⊎ ((r ≤ length (held lists slot)) × (in_use r lists ≡ v)))
    × (length lists ≤ slot → full r v lists slot ≡ true)
    × (r ≤ length (held lists slot) → in_use r lists ≡ v → full r v lists slot ≡ true)

-- the spare in use never comes to be over the spare
abbrev pub StaysWithin : Type 0 → Type 0
StaysWithin X =
    (r v : ℕ) (lists : List (List X)) (slot : ℕ) (x : X) → in_use r lists ≤ v →
    (full r v lists slot ≡ false → in_use r (put_at lists slot x) ≤ v)
    × (in_use r (drop_at lists slot) ≤ v)
    × (in_use r (clear_at lists slot) ≤ v)

abbrev pub StoreLaws : Type 0 → Type 0
StoreLaws X = Changes X × LeavesOthers X × KeepsSlots X × NoSuchSlot X × Refuses X × StaysWithin X
