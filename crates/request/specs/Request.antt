-- What a request asks for, or the first rule that it breaks. Assumes nothing.
use Rattle.std.specs.Prelude.{ℕ, ◌+◌, ◌*◌, Bool, false, cond, not, ◌&&◌, ◌||◌, List, [], ◌∷◌, length, Ok, Err, codes, Result, ◌==◌, nat_le, slice_index}
use Rattle.std.specs.Str.{bytes_eq}
use Rattle.ipp.specs.declared.bytes.Fault as low
use Rattle.ipp.specs.declared.bytes.Fault.TheVariants as lows
use Rattle.ipp.specs.declared.attributes.Attributes as code
use Rattle.ipp.specs.declared.attributes.Fault as mid
use Rattle.request.specs.declared.Fault.{Fault}
use Rattle.request.specs.declared.Fault.TheVariants.{Bytes, Attributes, Version, Operation, RequestId, End, OperationGroup, Charset, TooManyIds}
use Rattle.request.specs.declared.Header.{Header}
use Rattle.request.specs.declared.Request.{Request}
use Rattle.request.specs.declared.wanted.Asked.{Asked}
use Rattle.request.specs.declared.wanted.Wanted.{Wanted}
use Rattle.ipp.specs.Attributes.{Tagged, Named, attributes, attributes_in, any_mark, is_mark}
use Rattle.ipp.specs.Bytes.{two_at}
use Rattle.ipp.specs.Conditions.{number_in}
use Rattle.ipp.specs.Items.{Piece, then}
use Rattle.request.specs.Rules.{Operands, checked, unless}
use Rattle.ipp.specs.Values.{boolean_of}
use Rattle.ipp.specs.Walk.{end_from, items_from}
use Rattle.request.specs.Wanted.{asked_in}

-- version, operation and request-id, in the first eight bytes
abbrev pub header_of : List ℕ → Result Header low.Fault
header_of xs =
    cond (nat_le 8 (length xs))
    (Ok (record {
      major = slice_index xs 0;
      minor = slice_index xs 1;
      operation = two_at xs 2;
      id = slice_index xs 4 * 16777216 + slice_index xs 5 * 65536 + slice_index xs 6 * 256 + slice_index xs 7;
    }))
    (Err lows.CutShort)

-- version 1 or 2, Get-Notifications, request-id from 1 on
abbrev pub header_checked : Header → Result Header Fault
header_checked h =
    unless (h.major == 1 || h.major == 2) Version
    (unless (h.operation == 0x001C) Operation
    (unless (nat_le 1 h.id && nat_le h.id 0x7FFFFFFF) RequestId
    (Ok h)))

-- the attributes of the operation group, if that group is the first and stands once
abbrev pub operation_group : List Piece → Result (List Named) Fault
operation_group [] = Err OperationGroup
operation_group (i ∷ is) = unless (is_mark 0x01 i && not (any_mark 0x01 is)) OperationGroup (Ok (attributes is))

abbrev pub rest : {X : Type 0} → List X → List X
rest [] = []
rest (x ∷ xs) = xs

abbrev pub lowest_of : List Tagged → ℕ
lowest_of [] = 1
lowest_of (n ∷ ns) = number_in n.1

-- the nth sequence number is the lowest wanted of the nth id; missing ones are 1, extra ones unused
abbrev pub asks : List Tagged → List Tagged → List Asked
asks [] ns = []
asks (v ∷ vs) ns = record { id = number_in v.1; lowest = lowest_of ns } ∷ asks vs (rest ns)

abbrev pub asked_of : List Tagged → List Tagged → Result (List Asked) Fault
asked_of ids ns = unless (nat_le (length ids) 8) TooManyIds (Ok (asks ids ns))

abbrev pub utf_8 : List Tagged → Bool
utf_8 [] = false
utf_8 (v ∷ vs) = bytes_eq v.1 (codes "utf-8")

abbrev pub is_true : Result Bool mid.Fault → Bool
is_true (Ok b) = b
is_true (Err e) = false

abbrev pub waiting : List Tagged → Bool
waiting [] = false
waiting (v ∷ vs) = is_true (boolean_of v.1)

-- what is asked: ids with their lowest wanted numbers, in order, and whether to wait
pub record Wish : Type 0 where
  pub header : Header
  pub asked : List Asked
  pub wait : Bool

abbrev pub kept : Fault → Fault
kept e = e

abbrev pub wish_of : Header → Operands → Result Wish Fault
wish_of h o =
    unless (utf_8 o.charset) Charset
    (then kept (asked_of o.ids o.numbers) (λ l. Ok (record { header = h; asked = l; wait = waiting o.wait })))

abbrev pub group_asks : Header → List Named → Result Wish Fault
group_asks h ats = then kept (checked ats) (wish_of h)

abbrev pub items_ask : List ℕ → Header → Result Wish Fault
items_ask xs h =
    then Attributes (end_from xs (false, 8)) (λ end. unless (end == length xs) End
    (then kept (operation_group (items_from xs 8)) (group_asks h)))

-- the rules in their order, the first that does not hold deciding
abbrev pub request_of : List ℕ → Result Wish Fault
request_of xs = then Bytes (header_of xs) (λ h. then kept (header_checked h) (items_ask xs))

-- the results of the code, with lists in the place of iterators and tables
abbrev pub group_in : Result code.Attributes Fault → Result (List Named) Fault
group_in (Ok a) = Ok (attributes_in a)
group_in (Err e) = Err e

abbrev pub asked_at : Result Wanted Fault → Result (List Asked) Fault
asked_at (Ok w) = Ok (asked_in w)
asked_at (Err e) = Err e

abbrev pub wish_in : Request → Wish
wish_in r = record { header = r.header; asked = asked_in r.wanted; wait = r.wait }

abbrev pub told : Result Request Fault → Result Wish Fault
told (Ok r) = Ok (wish_in r)
told (Err e) = Err e
