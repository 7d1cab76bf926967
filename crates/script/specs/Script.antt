-- What is seen of a store at the steps of a script. It depends on the contents of the store alone.
use Rattle.std.specs.Prelude.{ℕ, cond, List, [], ◌∷◌, length}
use Rattle.std.specs.List.{slice_get}
use Rattle.notice.specs.declared.event.Notice.{Notice}
use Rattle.store.specs.Meaning.{held, full, put_at, drop_at, clear_at}
use Rattle.store.specs.declared.interface.NoticeStore as store
use Rattle.script.specs.declared.steps.Step.{Step}
use Rattle.script.specs.declared.steps.Step.TheVariants.{Put, DropOldest, Clear, Len, At}
use Rattle.script.specs.declared.steps.Seen.{Seen}
use Rattle.script.specs.declared.steps.Seen.TheVariants.{Taken, Refused, Done, Length, Found}

-- a reserve, a spare and for each slot its notices, the oldest first
pub record Contents : Type 0 where
  pub reserve : ℕ
  pub spare : ℕ
  pub lists : List (List Notice)

-- the contents of a store s, where m has the ghost members of its type
abbrev pub contents : {S : Type 0} → store.Ghosts S → S → Contents
contents m s = record { reserve = m.reserve s; spare = m.spare s; lists = m.lists s }

-- what a step answers
abbrev pub seen_at : Contents → Step → Seen
seen_at c (Put slot notice) = cond (full c.reserve c.spare c.lists slot) Refused Taken
seen_at c (DropOldest slot) = Done
seen_at c (Clear slot) = Done
seen_at c (Len slot) = Length (length (held c.lists slot))
seen_at c (At slot place) = Found (slice_get (held c.lists slot) place)

-- the lists after a step
abbrev pub lists_after : Contents → Step → List (List Notice)
lists_after c (Put slot notice) = cond (full c.reserve c.spare c.lists slot) c.lists (put_at c.lists slot notice)
lists_after c (DropOldest slot) = drop_at c.lists slot
lists_after c (Clear slot) = clear_at c.lists slot
lists_after c (Len slot) = c.lists
lists_after c (At slot place) = c.lists

-- a step changes the lists, and neither the reserve nor the spare
abbrev pub after : Contents → Step → Contents
after c step = record c { lists = lists_after c step }

-- what the steps of a script answer, one after another
abbrev pub seen_all : Contents → List Step → List Seen
seen_all c [] = []
seen_all c (step ∷ steps) = seen_at c step ∷ seen_all (after c step) steps

-- the lists after all steps of a script
abbrev pub lists_after_all : Contents → List Step → List (List Notice)
lists_after_all c [] = c.lists
lists_after_all c (step ∷ steps) = lists_after_all (after c step) steps

-- the contents after all of them: neither the reserve nor the spare changes
abbrev pub after_all : Contents → List Step → Contents
after_all c steps = record c { lists = lists_after_all c steps }
