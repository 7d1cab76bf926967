-- Worked examples: requests as bytes, and what they come to. Assumes nothing.
use Rattle.std.specs.Prelude.{◌≡◌, ℕ, ◌/◌, ◌%◌, false, List, [], ◌∷◌, ◌++◌, length, take, Ok, Err, codes, Result}
use Prim.Native.String.{String}
use Rattle.notice.specs.declared.status.Status.{Status}
use Rattle.notice.specs.declared.status.Status.TheVariants.{BadRequest, CharsetNotSupported, NotSupported, OperationNotSupported, VersionNotSupported}
use Rattle.request.specs.declared.Fault.TheVariants.{FurtherValues, NameTwice}
use Rattle.request.specs.declared.wanted.Asked.{Asked}
use Rattle.request.specs.Answer.{answer_of}
use Rattle.request.specs.Request.{Wish, request_of}

-- an attribute of one value, and one more value, of less than 256 bytes each
abbrev pub attribute : ℕ → String → List ℕ → List ℕ
attribute tag name v = tag ∷ 0 ∷ length (codes name) ∷ (codes name ++ 0 ∷ length v ∷ v)

abbrev pub further : ℕ → List ℕ → List ℕ
further tag v = tag ∷ 0 ∷ 0 ∷ 0 ∷ length v ∷ v

-- version 1.1, Get-Notifications, a request-id below 256
abbrev pub header : ℕ → List ℕ
header id = 1 ∷ 1 ∷ 0 ∷ 0x1C ∷ 0 ∷ 0 ∷ 0 ∷ id ∷ []

abbrev pub opening : String → List ℕ
opening charset = 0x01 ∷ (attribute 0x47 "attributes-charset" (codes charset) ++ attribute 0x48 "attributes-natural-language" (codes "en"))

abbrev pub uri : List ℕ
uri = attribute 0x45 "printer-uri" (codes "ipp://hub.example/p1")

abbrev pub ids : List ℕ → List ℕ
ids = attribute 0x21 "notify-subscription-ids"

abbrev pub integer : ℕ → List ℕ
integer n = 0 ∷ 0 ∷ n / 256 ∷ n % 256 ∷ []

abbrev pub common : List ℕ
common = header 1 ++ opening "utf-8" ++ uri

-- the request for subscription 100
abbrev pub plain : List ℕ
plain = common ++ ids (integer 100) ++ 0x03 ∷ []

abbrev pub asks : List Asked → Result Wish Status
asks l = Ok (record { header = record { major = 1; minor = 1; operation = 0x001C; id = 1 }; asked = l; wait = false })

pub record Examples : Type 0 where
  pub one : answer_of plain ≡ asks (record { id = 100; lowest = 1 } ∷ [])
  pub long : length plain ≡ 140
  pub two : answer_of (common ++ ids (integer 100) ++ further 0x21 (integer 101) ++ attribute 0x21 "notify-sequence-numbers" (integer 7) ++ 0x03 ∷ []) ≡ asks (record { id = 100; lowest = 7 } ∷ record { id = 101; lowest = 1 } ∷ [])
  pub passed_over : answer_of (common ++ attribute 0x42 "requesting-user-name" (codes "seller") ++ ids (integer 100) ++ 0x02 ∷ ids [] ++ 0x03 ∷ []) ≡ asks (record { id = 100; lowest = 1 } ∷ [])
  pub twice : answer_of (common ++ ids (integer 5) ++ further 0x21 (integer 5) ++ 0x03 ∷ []) ≡ Err BadRequest
  pub negative : answer_of (common ++ ids (0x80 ∷ 0 ∷ 0 ∷ 0 ∷ []) ++ 0x03 ∷ []) ≡ Err BadRequest
  pub no_end : answer_of (take 139 plain) ≡ Err BadRequest
  pub cut : answer_of (take 100 plain) ≡ Err BadRequest
  pub behind_end : answer_of (plain ++ 0x03 ∷ []) ≡ Err BadRequest
  pub no_id : answer_of (header 0 ++ opening "utf-8" ++ uri ++ ids (integer 100) ++ 0x03 ∷ []) ≡ Err BadRequest
  pub no_uri : answer_of (header 1 ++ opening "utf-8" ++ ids (integer 100) ++ 0x03 ∷ []) ≡ Err BadRequest
  pub ascii : answer_of (header 1 ++ opening "us-ascii" ++ uri ++ ids (integer 100) ++ 0x03 ∷ []) ≡ Err CharsetNotSupported
  pub nine : answer_of (common ++ ids (integer 1) ++ further 0x21 (integer 2) ++ further 0x21 (integer 3) ++ further 0x21 (integer 4) ++ further 0x21 (integer 5) ++ further 0x21 (integer 6) ++ further 0x21 (integer 7) ++ further 0x21 (integer 8) ++ further 0x21 (integer 9) ++ 0x03 ∷ []) ≡ Err NotSupported
  pub version : answer_of (3 ∷ 0 ∷ 0 ∷ 0 ∷ 0 ∷ 0 ∷ 0 ∷ 0 ∷ []) ≡ Err VersionNotSupported
  pub operation : answer_of (1 ∷ 1 ∷ 0 ∷ 0x1B ∷ 0 ∷ 0 ∷ 0 ∷ 1 ∷ []) ≡ Err OperationNotSupported
  -- the fault that is named first: a further id by its tag only at the last condition; a name twice before an id 0
  pub other_tag : request_of (common ++ ids (integer 5) ++ further 0x23 (integer 6) ++ 0x03 ∷ []) ≡ Err FurtherValues
  pub two_faults : request_of (common ++ ids (integer 0) ++ uri ++ 0x03 ∷ []) ≡ Err NameTwice
