-- The kinds of event. Assumes nothing.
use Rattle.std.specs.Prelude.{ℕ, Bool, true, false, List, [], ◌∷◌, Some, None, codes, Option}
use Rattle.notice.specs.declared.kinds.PrinterKind.{PrinterKind}
use Rattle.notice.specs.declared.kinds.PrinterKind.TheVariants as printer
use Rattle.notice.specs.declared.kinds.JobKind.{JobKind}
use Rattle.notice.specs.declared.kinds.JobKind.TheVariants as job
use Rattle.notice.specs.declared.kinds.Kind.{Kind}
use Rattle.notice.specs.declared.kinds.Kind.TheVariants.{Printer, Job}
use Rattle.notice.specs.Tables.{numbered, TwoWays}

abbrev pub kind_number : Kind → ℕ
kind_number (Printer printer.StateChanged) = 1
kind_number (Printer printer.Stopped) = 2
kind_number (Printer printer.ConfigChanged) = 3
kind_number (Job job.StateChanged) = 4
kind_number (Job job.Created) = 5
kind_number (Job job.Completed) = 6
kind_number (Job job.Stopped) = 7
kind_number (Job job.Progress) = 8

abbrev pub job_kinds : List Kind
job_kinds = Job job.StateChanged ∷ Job job.Created ∷ Job job.Completed ∷ Job job.Stopped ∷ Job job.Progress ∷ []

abbrev pub all_kinds : List Kind
all_kinds = Printer printer.StateChanged ∷ Printer printer.Stopped ∷ Printer printer.ConfigChanged ∷ job_kinds

abbrev pub kind_of_number : ℕ → Option Kind
kind_of_number = numbered kind_number all_kinds

abbrev pub printer_kind_keyword : PrinterKind → List ℕ
printer_kind_keyword printer.StateChanged = codes "printer-state-changed"
printer_kind_keyword printer.Stopped = codes "printer-stopped"
printer_kind_keyword printer.ConfigChanged = codes "printer-config-changed"

abbrev pub job_kind_keyword : JobKind → List ℕ
job_kind_keyword job.StateChanged = codes "job-state-changed"
job_kind_keyword job.Created = codes "job-created"
job_kind_keyword job.Completed = codes "job-completed"
job_kind_keyword job.Stopped = codes "job-stopped"
job_kind_keyword job.Progress = codes "job-progress"

abbrev pub kind_keyword : Kind → List ℕ
kind_keyword (Printer k) = printer_kind_keyword k
kind_keyword (Job k) = job_kind_keyword k

-- the kind of which this one is a special case
abbrev pub kind_broader : Kind → Option Kind
kind_broader (Printer printer.StateChanged) = None
kind_broader (Printer printer.Stopped) = Some (Printer printer.StateChanged)
kind_broader (Printer printer.ConfigChanged) = None
kind_broader (Job job.StateChanged) = None
kind_broader (Job job.Created) = Some (Job job.StateChanged)
kind_broader (Job job.Completed) = Some (Job job.StateChanged)
kind_broader (Job job.Stopped) = Some (Job job.StateChanged)
kind_broader (Job job.Progress) = None

abbrev pub of_job : Kind → Bool
of_job (Printer k) = false
of_job (Job k) = true

abbrev pub KindNumbers : Type 0
KindNumbers = TwoWays kind_number kind_of_number
