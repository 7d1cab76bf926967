-- Steps, and what is seen at them, as they are written.
use Rattle.std.specs.Prelude.{ℕ, List, ◌++◌, Some, None, codes}
use Rattle.std.specs.Fmt.{decimal}
use Rattle.notice.specs.declared.event.Event.{Event}
use Rattle.notice.specs.declared.event.Event.TheVariants.{Printer, Job}
use Rattle.notice.specs.declared.event.Notice.{Notice}
use Rattle.script.specs.declared.steps.Step.{Step}
use Rattle.script.specs.declared.steps.Step.TheVariants.{Put, DropOldest, Clear, Len, At}
use Rattle.script.specs.declared.steps.Seen.{Seen}
use Rattle.script.specs.declared.steps.Seen.TheVariants.{Taken, Refused, Done, Length, Found}

abbrev pub put_text : ℕ → Event → List ℕ
put_text slot (Printer e) = codes "put " ++ decimal slot
put_text slot (Job e) = codes "put " ++ decimal slot ++ codes " " ++ decimal e.job

abbrev pub step_text : Step → List ℕ
step_text (Put slot notice) = put_text slot notice.event
step_text (DropOldest slot) = codes "drop " ++ decimal slot
step_text (Clear slot) = codes "clear " ++ decimal slot
step_text (Len slot) = codes "len " ++ decimal slot
step_text (At slot place) = codes "at " ++ decimal slot ++ codes " " ++ decimal place

abbrev pub event_text : Event → List ℕ
event_text (Printer e) = codes "printer"
event_text (Job e) = codes "job " ++ decimal e.job

abbrev pub notice_text : Notice → List ℕ
notice_text n = codes "notice " ++ decimal n.number ++ codes ", second " ++ decimal n.second ++ codes ", " ++ event_text n.event

abbrev pub seen_text : Seen → List ℕ
seen_text Taken = codes "taken"
seen_text Refused = codes "refused"
seen_text Done = codes "done"
seen_text (Length n) = decimal n
seen_text (Found None) = codes "none"
seen_text (Found (Some notice)) = notice_text notice
