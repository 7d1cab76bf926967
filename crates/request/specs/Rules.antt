-- The rules on the attributes of the operation group. Assumes nothing.
use Rattle.std.specs.Prelude.{ℕ, Bool, true, false, cond, ◌&&◌, List, [], ◌∷◌, is_ok, Ok, Err, codes, Result, ◌==◌, nat_eq}
use Rattle.std.specs.Str.{bytes_eq}
use Rattle.std.specs.List.{list_all}
use Rattle.request.specs.declared.Fault.{Fault}
use Rattle.request.specs.declared.Fault.TheVariants.{NameTwice, FirstTwo, PrinterUri, SubscriptionIds, SequenceNumbers, Wait, FurtherValues}
use Rattle.request.specs.declared.Operands as code
use Rattle.ipp.specs.Attributes.{Tagged, Named, values_of, values_in, none, distinct_names}
use Rattle.ipp.specs.Conditions.{distinct_numbers}
use Rattle.ipp.specs.Values.{boolean_of, positive_of}

-- the values of the attributes that the rules name
pub record Operands : Type 0 where
  pub charset : List Tagged
  pub language : List Tagged
  pub uri : List Tagged
  pub ids : List Tagged
  pub numbers : List Tagged
  pub wait : List Tagged

abbrev pub operands_of : List Named → Operands
operands_of ats = record {
  charset = values_of (codes "attributes-charset") ats;
  language = values_of (codes "attributes-natural-language") ats;
  uri = values_of (codes "printer-uri") ats;
  ids = values_of (codes "notify-subscription-ids") ats;
  numbers = values_of (codes "notify-sequence-numbers") ats;
  wait = values_of (codes "notify-wait") ats;
}

-- the first value has that tag
abbrev pub starts : ℕ → List Tagged → Bool
starts tag [] = false
starts tag (v ∷ vs) = v.0 == tag

abbrev pub is_named : List ℕ → ℕ → Named → Bool
is_named name tag a = bytes_eq a.name name && starts tag a.values

-- the charset first, the natural language second
abbrev pub leading : List Named → Bool
leading [] = false
leading (a ∷ []) = false
leading (a ∷ b ∷ rest) = is_named (codes "attributes-charset") 0x47 a && is_named (codes "attributes-natural-language") 0x48 b

abbrev pub all_from_one : List Tagged → Bool
all_from_one = list_all (λ v. is_ok (positive_of v.1))

abbrev pub all_tagged : ℕ → List Tagged → Bool
all_tagged tag = list_all (λ v. nat_eq v.0 tag)

-- integers from 1 on, none twice
abbrev pub good_ids : List Tagged → Bool
good_ids vs = starts 0x21 vs && all_from_one vs && distinct_numbers vs

-- if any, integers from 1 on
abbrev pub good_numbers : List Tagged → Bool
good_numbers [] = true
good_numbers (v ∷ vs) = v.0 == 0x21 && all_from_one (v ∷ vs)

-- if there, a boolean
abbrev pub good_wait : List Tagged → Bool
good_wait [] = true
good_wait (v ∷ vs) = v.0 == 0x22 && is_ok (boolean_of v.1)

-- at most one value
abbrev pub single : List Tagged → Bool
single [] = true
single (v ∷ vs) = none vs

-- further values only of the ids and the sequence numbers, each an integer by its tag
abbrev pub only_plural : Operands → Bool
only_plural o = single o.charset && single o.language && single o.uri && single o.wait && all_tagged 0x21 o.ids && all_tagged 0x21 o.numbers

-- the rest, if the condition holds; else the fault
abbrev pub unless : {A : Type 0} → Bool → Fault → Result A Fault → Result A Fault
unless b e r = cond b r (Err e)

abbrev pub all_named : Operands → Result Operands Fault
all_named o =
    unless (starts 0x45 o.uri) PrinterUri
    (unless (good_ids o.ids) SubscriptionIds
    (unless (good_numbers o.numbers) SequenceNumbers
    (unless (good_wait o.wait) Wait
    (unless (only_plural o) FurtherValues
    (Ok o)))))

-- the values of the operation group's attributes that the rules name, if all rules on them hold; else the first that does not
abbrev pub checked : List Named → Result Operands Fault
checked ats = unless (distinct_names ats) NameTwice (unless (leading ats) FirstTwo (all_named (operands_of ats)))

-- the results of the code, with lists in the place of iterators
abbrev pub operands_in : code.Operands → Operands
operands_in o = record {
  charset = values_in o.charset;
  language = values_in o.language;
  uri = values_in o.uri;
  ids = values_in o.ids;
  numbers = values_in o.numbers;
  wait = values_in o.wait;
}

abbrev pub outcome_in : Result code.Operands Fault → Result Operands Fault
outcome_in (Ok o) = Ok (operands_in o)
outcome_in (Err e) = Err e
