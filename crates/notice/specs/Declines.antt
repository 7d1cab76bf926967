-- The numbers that a refused call answers. Assumes nothing.
use Rattle.std.specs.Prelude.{ℕ, List, [], ◌∷◌, Option}
use Rattle.notice.specs.declared.decline.Decline.{Decline}
use Rattle.notice.specs.declared.decline.Decline.TheVariants.{
  Figures,
  Interval,
  Uri,
  StoreSize,
  Reading,
  Account,
  Kinds,
  LeaseOrJob,
  JobKinds,
  TooMany,
  NoIdLeft,
  NoSubscription,
  JobLease,
  UnknownKind,
  EventDetail,
  EventsTaken,
  RequestSize,
  ReplyRoom,
}
use Rattle.notice.specs.Tables.{numbered, TwoWays}

abbrev pub decline_number : Decline → ℕ
decline_number Figures = 11
decline_number Interval = 12
decline_number Uri = 13
decline_number StoreSize = 14
decline_number Reading = 21
decline_number Account = 22
decline_number Kinds = 23
decline_number LeaseOrJob = 24
decline_number JobKinds = 25
decline_number TooMany = 26
decline_number NoIdLeft = 27
decline_number NoSubscription = 28
decline_number JobLease = 29
decline_number UnknownKind = 31
decline_number EventDetail = 32
decline_number EventsTaken = 33
decline_number RequestSize = 41
decline_number ReplyRoom = 42

abbrev pub all_declines : List Decline
all_declines =
    Figures ∷ Interval ∷ Uri ∷ StoreSize ∷ Reading ∷ Account ∷ Kinds ∷ LeaseOrJob ∷ JobKinds ∷ TooMany ∷ NoIdLeft ∷ NoSubscription ∷ JobLease
    ∷ UnknownKind ∷ EventDetail ∷ EventsTaken ∷ RequestSize ∷ ReplyRoom ∷ []

abbrev pub decline_of_number : ℕ → Option Decline
decline_of_number = numbered decline_number all_declines

abbrev pub DeclineNumbers : Type 0
DeclineNumbers = TwoWays decline_number decline_of_number
