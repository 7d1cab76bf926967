-- The reasons of a state. Assumes nothing.
use Rattle.std.specs.Prelude.{ℕ, List, [], ◌∷◌, codes, Option}
use Rattle.notice.specs.declared.reasons.JobReason.{JobReason}
use Rattle.notice.specs.declared.reasons.JobReason.TheVariants as job
use Rattle.notice.specs.declared.reasons.PrinterReason.{PrinterReason}
use Rattle.notice.specs.declared.reasons.PrinterReason.TheVariants as printer
use Rattle.notice.specs.Tables.{numbered, TwoWays}

abbrev pub job_reason_number : JobReason → ℕ
job_reason_number job.None = 0
job_reason_number job.Incoming = 1
job_reason_number job.Printing = 2
job_reason_number job.CompletedSuccessfully = 3
job_reason_number job.CanceledByUser = 4
job_reason_number job.AbortedBySystem = 5

abbrev pub job_reason_of_number : ℕ → Option JobReason
job_reason_of_number = numbered job_reason_number
    (job.None ∷ job.Incoming ∷ job.Printing ∷ job.CompletedSuccessfully ∷ job.CanceledByUser ∷ job.AbortedBySystem ∷ [])

abbrev pub job_reason_keyword : JobReason → List ℕ
job_reason_keyword job.None = codes "none"
job_reason_keyword job.Incoming = codes "job-incoming"
job_reason_keyword job.Printing = codes "job-printing"
job_reason_keyword job.CompletedSuccessfully = codes "job-completed-successfully"
job_reason_keyword job.CanceledByUser = codes "job-canceled-by-user"
job_reason_keyword job.AbortedBySystem = codes "aborted-by-system"

abbrev pub printer_reason_number : PrinterReason → ℕ
printer_reason_number printer.None = 0
printer_reason_number printer.Paused = 1
printer_reason_number printer.MediaEmpty = 2
printer_reason_number printer.MediaJam = 3
printer_reason_number printer.DoorOpen = 4
printer_reason_number printer.TonerEmpty = 5

abbrev pub printer_reason_of_number : ℕ → Option PrinterReason
printer_reason_of_number = numbered printer_reason_number
    (printer.None ∷ printer.Paused ∷ printer.MediaEmpty ∷ printer.MediaJam ∷ printer.DoorOpen ∷ printer.TonerEmpty ∷ [])

abbrev pub printer_reason_keyword : PrinterReason → List ℕ
printer_reason_keyword printer.None = codes "none"
printer_reason_keyword printer.Paused = codes "paused"
printer_reason_keyword printer.MediaEmpty = codes "media-empty"
printer_reason_keyword printer.MediaJam = codes "media-jam"
printer_reason_keyword printer.DoorOpen = codes "door-open"
printer_reason_keyword printer.TonerEmpty = codes "toner-empty"

abbrev pub ReasonNumbers : Type 0
ReasonNumbers = TwoWays job_reason_number job_reason_of_number × TwoWays printer_reason_number printer_reason_of_number
