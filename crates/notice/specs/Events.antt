-- Events by their numbers. Assumes nothing.
use Rattle.std.specs.Prelude.{◌≡◌, ℕ, Bool, true, cond, ◌&&◌, Some, None, Ok, Err, Option, Result, ◌==◌, nat_le}
use Rattle.notice.specs.declared.kinds.PrinterKind.{PrinterKind}
use Rattle.notice.specs.declared.kinds.PrinterKind.TheVariants as printer-kind
use Rattle.notice.specs.declared.kinds.JobKind.{JobKind}
use Rattle.notice.specs.declared.kinds.JobKind.TheVariants as job-kind
use Rattle.notice.specs.declared.kinds.Kind.{Kind}
use Rattle.notice.specs.declared.kinds.Kind.TheVariants as kind
use Rattle.notice.specs.declared.states.PrinterState.{PrinterState}
use Rattle.notice.specs.declared.states.PrinterState.TheVariants as printer-state
use Rattle.notice.specs.declared.states.JobState.{JobState}
use Rattle.notice.specs.declared.states.JobState.TheVariants as job-state
use Rattle.notice.specs.declared.reasons.PrinterReason.{PrinterReason}
use Rattle.notice.specs.declared.reasons.PrinterReason.TheVariants as printer-reason
use Rattle.notice.specs.declared.reasons.JobReason.{JobReason}
use Rattle.notice.specs.declared.reasons.JobReason.TheVariants as job-reason
use Rattle.notice.specs.declared.decline.Decline.{Decline}
use Rattle.notice.specs.declared.decline.Decline.TheVariants.{UnknownKind, EventDetail}
use Rattle.notice.specs.declared.event.Event.{Event}
use Rattle.notice.specs.declared.event.Event.TheVariants.{Printer, Job}
use Rattle.notice.specs.Kinds.{kind_of_number}
use Rattle.notice.specs.States.{printer_state_of_number, job_state_of_number}
use Rattle.notice.specs.Reasons.{printer_reason_of_number, job_reason_of_number}

abbrev pub event_kind : Event → Kind
event_kind (Printer e) = kind.Printer e.kind
event_kind (Job e) = kind.Job e.kind

-- a printer event names no job and no count, and says whether the printer accepts jobs
abbrev pub printer_figures_fit : ℕ → ℕ → ℕ → Bool
printer_figures_fit job count accepting = job == 0 && count == 0 && nat_le accepting 1

abbrev pub printer_told : PrinterKind → Bool → Option PrinterState → Option PrinterReason → Result Event Decline
printer_told k a (Some s) (Some r) = Ok (Printer (record { kind = k; state = s; reason = r; accepting = a }))
printer_told k a (Some s) None = Err EventDetail
printer_told k a None r = Err EventDetail

abbrev pub printer_event_of : PrinterKind → ℕ → ℕ → ℕ → ℕ → ℕ → Result Event Decline
printer_event_of k job state reason count accepting =
    cond (printer_figures_fit job count accepting)
    (printer_told k (accepting == 1) (printer_state_of_number state) (printer_reason_of_number reason))
    (Err EventDetail)

-- a job event names its job and a count, and says nothing of accepting
abbrev pub job_figures_fit : ℕ → ℕ → ℕ → Bool
job_figures_fit job count accepting = nat_le 1 job && nat_le job 2147483647 && nat_le count 2147483647 && accepting == 0

-- a job that is completed is canceled, aborted or completed
abbrev pub job_state_fits : JobKind → ℕ → Bool
job_state_fits job-kind.StateChanged state = true
job_state_fits job-kind.Created state = true
job_state_fits job-kind.Completed state = nat_le 7 state
job_state_fits job-kind.Stopped state = true
job_state_fits job-kind.Progress state = true

abbrev pub job_told : JobKind → ℕ → ℕ → Option JobState → Option JobReason → Result Event Decline
job_told k j c (Some s) (Some r) = Ok (Job (record { kind = k; job = j; state = s; reason = r; count = c }))
job_told k j c (Some s) None = Err EventDetail
job_told k j c None r = Err EventDetail

abbrev pub job_event_of : JobKind → ℕ → ℕ → ℕ → ℕ → ℕ → Result Event Decline
job_event_of k job state reason count accepting =
    cond (job_figures_fit job count accepting && job_state_fits k state)
    (job_told k job count (job_state_of_number state) (job_reason_of_number reason))
    (Err EventDetail)

abbrev pub event_at : Option Kind → ℕ → ℕ → ℕ → ℕ → ℕ → Result Event Decline
event_at None job state reason count accepting = Err UnknownKind
event_at (Some (kind.Printer k)) job state reason count accepting = printer_event_of k job state reason count accepting
event_at (Some (kind.Job k)) job state reason count accepting = job_event_of k job state reason count accepting

-- the event that the numbers of a kind, a job, a state, a reason, a count and accepting tell of
abbrev pub event_of : ℕ → ℕ → ℕ → ℕ → ℕ → ℕ → Result Event Decline
event_of n = event_at (kind_of_number n)

-- on the bounds: what is taken just inside, and the decline just outside
pub record EventExamples : Type 0 where
  pub done : event_of 6 2147483647 7 4 2147483647 0 ≡ Ok (Job (record { kind = job-kind.Completed; job = 2147483647; state = job-state.Canceled; reason = job-reason.CanceledByUser; count = 2147483647 }))
  pub idle : event_of 1 0 3 0 0 1 ≡ Ok (Printer (record { kind = printer-kind.StateChanged; state = printer-state.Idle; reason = printer-reason.None; accepting = true }))
  pub not_done : event_of 6 1 6 4 0 0 ≡ Err EventDetail
  pub no_job : event_of 4 0 5 2 0 0 ≡ Err EventDetail
  pub late_job : event_of 4 2147483648 5 2 0 0 ≡ Err EventDetail
  pub many : event_of 4 1 5 2 2147483648 0 ≡ Err EventDetail
  pub job_accepts : event_of 4 1 5 2 0 1 ≡ Err EventDetail
  pub state_ten : event_of 4 1 10 2 0 0 ≡ Err EventDetail
  pub printer_job : event_of 1 1 3 0 0 1 ≡ Err EventDetail
  pub accepts_two : event_of 1 0 3 0 0 2 ≡ Err EventDetail
  pub printer_six : event_of 1 0 6 0 0 1 ≡ Err EventDetail
  pub reason_six : event_of 1 0 3 6 0 1 ≡ Err EventDetail
  pub kind_nine : event_of 9 1 5 2 0 0 ≡ Err UnknownKind
  pub kind_zero : event_of 0 1 5 2 0 0 ≡ Err UnknownKind
