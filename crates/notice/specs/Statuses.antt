-- The IPP status codes that the hub answers with. Assumes nothing.
use Rattle.std.specs.Prelude.{ℕ, List, [], ◌∷◌, codes, Option}
use Rattle.notice.specs.declared.status.Status.{Status}
use Rattle.notice.specs.declared.status.Status.TheVariants.{
  Successful,
  EventsComplete,
  BadRequest,
  NotFound,
  NotSupported,
  CharsetNotSupported,
  OperationNotSupported,
  VersionNotSupported,
  Busy,
}
use Rattle.notice.specs.Tables.{numbered, TwoWays}

abbrev pub status_code : Status → ℕ
status_code Successful = 0x0000
status_code EventsComplete = 0x0007
status_code BadRequest = 0x0400
status_code NotFound = 0x0406
status_code NotSupported = 0x040b
status_code CharsetNotSupported = 0x040d
status_code OperationNotSupported = 0x0501
status_code VersionNotSupported = 0x0503
status_code Busy = 0x0507

abbrev pub status_of_code : ℕ → Option Status
status_of_code = numbered status_code
    (Successful ∷ EventsComplete ∷ BadRequest ∷ NotFound ∷ NotSupported ∷ CharsetNotSupported ∷ OperationNotSupported ∷ VersionNotSupported ∷ Busy ∷ [])

abbrev pub status_keyword : Status → List ℕ
status_keyword Successful = codes "successful-ok"
status_keyword EventsComplete = codes "successful-ok-events-complete"
status_keyword BadRequest = codes "client-error-bad-request"
status_keyword NotFound = codes "client-error-not-found"
status_keyword NotSupported = codes "client-error-attributes-or-values-not-supported"
status_keyword CharsetNotSupported = codes "client-error-charset-not-supported"
status_keyword OperationNotSupported = codes "server-error-operation-not-supported"
status_keyword VersionNotSupported = codes "server-error-version-not-supported"
status_keyword Busy = codes "server-error-busy"

abbrev pub StatusCodes : Type 0
StatusCodes = TwoWays status_code status_of_code
