-- What the stores of a group show of a script.
use Rattle.std.specs.Prelude.{◌≡◌, ℕ, ◌+◌, ◌-◌, ◌*◌, ◌/◌, List, [], ◌∷◌, length, map, replicate, vec_items}
use Rattle.store.specs.Sizes.{slots_made, reserve_made, spare_made, shelf_made}
use Rattle.script.specs.declared.steps.Step.{Step}
use Rattle.script.specs.Script.{Contents, seen_all}
use Rattle.store.specs.declared.sizes.Sizes.{Sizes}
use Rattle.stores.specs.declared.groups.Report.{Report}

-- what is reported of a store that has these contents at the start
abbrev pub Shows : Report → Contents → List Step → Type 0
Shows w c steps =
    (w.sizes.slots ≡ length c.lists) × (w.sizes.reserve ≡ c.reserve) × (w.sizes.spare ≡ c.spare) × (vec_items w.seen ≡ seen_all c steps)

-- the same of the stores of a group, each of them with contents of its own
abbrev pub ShowEach : List Report → List Contents → List Step → Type 0
ShowEach [] [] steps = Unit {0}
ShowEach [] (c ∷ cs) steps = ⊥
ShowEach (w ∷ ws) [] steps = ⊥
ShowEach (w ∷ ws) (c ∷ cs) steps = Shows w c steps × ShowEach ws cs steps

-- the names by which the stores of a group are told
abbrev pub names_in : List Report → List (List ℕ)
names_in = map (λ (w : Report). w.name.now)

-- a store with the spare v that is made with these slots and this reserve, and holds nothing
abbrev pub empty_store : Sizes → ℕ → Contents
empty_store sizes v = record { reserve = reserve_made sizes.reserve; spare = v; lists = replicate (slots_made sizes.slots) [] }

-- the spare of a shelf over chains, where a half goes to the shelf
abbrev pub over_chains : ℕ → ℕ
over_chains n = spare_made (n - n / 2) + shelf_made (n / 2)

-- and of a shelf over a shelf over chains, where a third goes to each shelf
abbrev pub over_shelf : ℕ → ℕ
over_shelf n = spare_made (n - 2 * (n / 3)) + shelf_made (n / 3) + shelf_made (n / 3)

-- the spares of chains, a shelf over lanes, a shelf over chains and a shelf over a shelf over chains
abbrev pub spares_of : ℕ → List ℕ
spares_of n = spare_made n ∷ shelf_made n ∷ over_chains n ∷ over_shelf n ∷ []
