use Rattle.notice.specs.declared.event.Notice.{Notice}
use Rattle.store.proofs.Follows.{changes, leaves_others, keeps_slots, no_such_slot, refuses, stays_within}
use Rattle.store.proofs.meaning.meaning_stands.Goals as goal

pub returns : goal.returns
returns c = (changes Notice, leaves_others Notice, keeps_slots Notice, no_such_slot Notice, refuses Notice, stays_within Notice)
