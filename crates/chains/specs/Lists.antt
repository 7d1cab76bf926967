-- What a store of chains holds.
use Rattle.std.specs.Prelude.{List, vec_items}
use Rattle.notice.specs.declared.event.Notice.{Notice}
use Rattle.chains.specs.declared.chains.Chains.{Chains}
use Rattle.chains.specs.Held.{chain_lists}

-- the lists of the slots
abbrev pub slot_lists : Chains → List (List Notice)
slot_lists s = chain_lists (vec_items s.places) (vec_items s.chains)
