-- The sizes that a store can be made with. A size out of its range is made the nearest in it.
use Rattle.std.specs.Prelude.{ℕ, min, max}
use Rattle.store.specs.declared.sizes.Size.{Size}
use Rattle.store.specs.declared.sizes.Size.TheVariants.{Slots, Reserve, Spare, Shelf}

-- the number from low to high that is nearest to n
abbrev pub nearest : ℕ → ℕ → ℕ → ℕ
nearest low high n = max low (min high n)

-- the least and the most of each size; the spare is that of chains, and a shelf's size the notices that it holds itself
abbrev pub size_range : Size → ℕ × ℕ
size_range Slots = (1, 64)
size_range Reserve = (1, 9)
size_range Spare = (0, 32)
size_range Shelf = (1, 16)

abbrev pub size_made : Size → ℕ → ℕ
size_made s n = nearest (size_range s).0 (size_range s).1 n

abbrev pub slots_made : ℕ → ℕ
slots_made n = size_made Slots n

abbrev pub reserve_made : ℕ → ℕ
reserve_made n = size_made Reserve n

abbrev pub spare_made : ℕ → ℕ
spare_made n = size_made Spare n

abbrev pub shelf_made : ℕ → ℕ
shelf_made n = size_made Shelf n
