-- What a shelf means. It stands over another store and holds entries, each a notice with the slot that it waits for, in the order in which they came.
use Rattle.std.specs.Prelude.{◌≡◌, ℕ, ◌-◌, ◌<◌, min, Bool, true, not, ◌&&◌, List, ◌++◌, map, length, filter, All, ◌==◌}
use Rattle.std.specs.List.{remove, range_with_len, position_or_len}
use Rattle.notice.specs.declared.event.Notice.{Notice}
use Rattle.store.specs.Meaning.{held, full}
use Rattle.shelf.specs.declared.entry.Entry.{Entry}

-- whether an entry is for a slot
abbrev pub is_for : ℕ → Entry → Bool
is_for slot e = e.slot == slot

-- the notices that wait for a slot, the oldest first
abbrev pub waiting : List Entry → ℕ → List Notice
waiting entries slot = map (λ (e : Entry). e.notice) (filter (is_for slot) entries)

-- where the first entry of a slot stands; the number of entries where the slot has none
abbrev pub first_of : List Entry → ℕ → ℕ
first_of entries slot = position_or_len (is_for slot) entries

-- the entries without the oldest of a slot, if it has one
abbrev pub without_oldest : List Entry → ℕ → List Entry
without_oldest entries slot = remove entries (first_of entries slot)

-- the entries that are for other slots
abbrev pub others : List Entry → ℕ → List Entry
others entries slot = filter (λ e. not (is_for slot e)) entries

-- every entry is for a slot that is there
abbrev pub Placed : List (List Notice) → List Entry → Type 0
Placed lists entries = All (λ e. e.slot < length lists) entries

-- each slot's list, followed by what waits for the slot
abbrev pub extended : List (List Notice) → List Entry → List (List Notice)
extended lists entries = map (λ slot. held lists slot ++ waiting entries slot) (range_with_len 0 (length lists))

-- how many notices a shelf may hold: the size that it is made with, cut so that it brings the spare of the store below to 65535 at most
abbrev pub places : ℕ → ℕ → ℕ
places size spare = min size (65535 - spare)

-- In what follows r and v are the reserve and the spare of the store below.

-- whether a notice for a slot goes into the store below at once: none waits for the slot, which is not full there
abbrev pub goes_below : ℕ → ℕ → List (List Notice) → List Entry → ℕ → Bool
goes_below r v lists entries slot = length (waiting entries slot) == 0 && not (full r v lists slot)

-- no entry may leave: the slot of each is full in the store below
abbrev pub Stuck : ℕ → ℕ → List (List Notice) → List Entry → Type 0
Stuck r v lists entries = All (λ e. full r v lists e.slot ≡ true) entries
