-- The states of a job and of the printer. Assumes nothing.
use Rattle.std.specs.Prelude.{ℕ, List, [], ◌∷◌, codes, Option}
use Rattle.notice.specs.declared.states.JobState.{JobState}
use Rattle.notice.specs.declared.states.JobState.TheVariants as job
use Rattle.notice.specs.declared.states.PrinterState.{PrinterState}
use Rattle.notice.specs.declared.states.PrinterState.TheVariants as printer
use Rattle.notice.specs.Tables.{numbered, TwoWays}

abbrev pub job_state_number : JobState → ℕ
job_state_number job.Pending = 3
job_state_number job.PendingHeld = 4
job_state_number job.Processing = 5
job_state_number job.ProcessingStopped = 6
job_state_number job.Canceled = 7
job_state_number job.Aborted = 8
job_state_number job.Completed = 9

abbrev pub job_state_of_number : ℕ → Option JobState
job_state_of_number = numbered job_state_number
    (job.Pending ∷ job.PendingHeld ∷ job.Processing ∷ job.ProcessingStopped ∷ job.Canceled ∷ job.Aborted ∷ job.Completed ∷ [])

abbrev pub job_state_keyword : JobState → List ℕ
job_state_keyword job.Pending = codes "pending"
job_state_keyword job.PendingHeld = codes "pending-held"
job_state_keyword job.Processing = codes "processing"
job_state_keyword job.ProcessingStopped = codes "processing-stopped"
job_state_keyword job.Canceled = codes "canceled"
job_state_keyword job.Aborted = codes "aborted"
job_state_keyword job.Completed = codes "completed"

abbrev pub printer_state_number : PrinterState → ℕ
printer_state_number printer.Idle = 3
printer_state_number printer.Processing = 4
printer_state_number printer.Stopped = 5

abbrev pub printer_state_of_number : ℕ → Option PrinterState
printer_state_of_number = numbered printer_state_number (printer.Idle ∷ printer.Processing ∷ printer.Stopped ∷ [])

abbrev pub printer_state_keyword : PrinterState → List ℕ
printer_state_keyword printer.Idle = codes "idle"
printer_state_keyword printer.Processing = codes "processing"
printer_state_keyword printer.Stopped = codes "stopped"

abbrev pub StateNumbers : Type 0
StateNumbers = TwoWays job_state_number job_state_of_number × TwoWays printer_state_number printer_state_of_number
