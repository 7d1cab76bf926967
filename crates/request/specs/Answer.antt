-- The status that a refused request is answered with. Assumes nothing.
use Rattle.std.specs.Prelude.{ℕ, List, Ok, Err, Result}
use Rattle.notice.specs.declared.status.Status.{Status}
use Rattle.notice.specs.declared.status.Status.TheVariants.{BadRequest, CharsetNotSupported, NotSupported, OperationNotSupported, VersionNotSupported}
use Rattle.request.specs.declared.Fault.{Fault}
use Rattle.request.specs.declared.Fault.TheVariants.{
  Bytes,
  Attributes,
  Version,
  Operation,
  RequestId,
  End,
  OperationGroup,
  NameTwice,
  FirstTwo,
  PrinterUri,
  SubscriptionIds,
  SequenceNumbers,
  Wait,
  FurtherValues,
  Charset,
  TooManyIds,
}
use Rattle.request.specs.declared.Request.{Request}
use Rattle.request.specs.Request.{Wish, request_of, wish_in}

abbrev pub status_of : Fault → Status
status_of Version = VersionNotSupported
status_of Operation = OperationNotSupported
status_of (Bytes e) = BadRequest
status_of (Attributes e) = BadRequest
status_of RequestId = BadRequest
status_of End = BadRequest
status_of OperationGroup = BadRequest
status_of NameTwice = BadRequest
status_of FirstTwo = BadRequest
status_of PrinterUri = BadRequest
status_of SubscriptionIds = BadRequest
status_of SequenceNumbers = BadRequest
status_of Wait = BadRequest
status_of FurtherValues = BadRequest
status_of Charset = CharsetNotSupported
status_of TooManyIds = NotSupported

abbrev pub answered : Result Wish Fault → Result Wish Status
answered (Ok w) = Ok w
answered (Err e) = Err (status_of e)

-- what any bytes ask for as a request, or the status that refuses them
abbrev pub answer_of : List ℕ → Result Wish Status
answer_of xs = answered (request_of xs)

abbrev pub said : Result Request Status → Result Wish Status
said (Ok r) = Ok (wish_in r)
said (Err s) = Err s
