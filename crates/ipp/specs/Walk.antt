-- The items of a request, one after another. Assumes nothing.
use Rattle.std.specs.Prelude.{ℕ, zero, suc, ◌-◌, Bool, true, false, cond, List, [], ◌∷◌, length, Ok, Err, Result}
use Rattle.ipp.specs.declared.bytes.Fault.TheVariants as lows
use Rattle.ipp.specs.declared.attributes.Fault.{Fault}
use Rattle.ipp.specs.declared.attributes.Fault.TheVariants.{Bytes, StrayValue}
use Rattle.ipp.specs.declared.items.Items.{Items}
use Rattle.ipp.specs.Items.{Piece, mark, attribute, further, end, next_item}
use Rattle.ipp.specs.Turns.{Next, on, done, run}

-- whether an attribute of the group stands before the next item; a further value must have one
abbrev pub opened : Bool → Piece → Result Bool Fault
opened before (mark m) = Ok false
opened before (attribute tag n v) = Ok true
opened before (further tag v) = cond before (Ok true) (Err StrayValue)
opened before end = Ok before

-- the walk over all items: whether an attribute is open, and the place that it has come to
abbrev pub State : Type 0
State = Bool × ℕ

abbrev pub moved : ℕ → Result Bool Fault → Next State (Result ℕ Fault)
moved n (Ok b) = on (b, n)
moved n (Err e) = done (Err e)

abbrev pub turned : Bool → Piece → ℕ → Next State (Result ℕ Fault)
turned b (mark m) n = moved n (opened b (mark m))
turned b (attribute tag m v) n = moved n (opened b (attribute tag m v))
turned b (further tag v) n = moved n (opened b (further tag v))
turned b end n = done (Ok n)

abbrev pub stepped : Bool → Result (Piece × ℕ) Fault → Next State (Result ℕ Fault)
stepped b (Ok q) = turned b q.0 q.1
stepped b (Err e) = done (Err e)

abbrev pub step : List ℕ → State → Next State (Result ℕ Fault)
step xs s = stepped s.0 (next_item xs s.1)

-- the place past the first end item, if each item up to it is well-formed; else the first fault
unfoldable pub end_from : List ℕ → State → Result ℕ Fault
end_from xs = run (step xs) (Err (Bytes lows.CutShort)) (λ s. length xs - s.1)

-- an item before others; the end has none behind it
abbrev pub linked : Piece → List Piece → List Piece
linked (mark m) is = mark m ∷ is
linked (attribute tag n v) is = attribute tag n v ∷ is
linked (further tag v) is = further tag v ∷ is
linked end is = []

abbrev pub gathered : (ℕ → List Piece) → Result (Piece × ℕ) Fault → List Piece
gathered rest (Ok q) = linked q.0 (rest q.1)
gathered rest (Err e) = []

abbrev pub at_most : List ℕ → ℕ → ℕ → List Piece
at_most xs zero at = []
at_most xs (suc n) at = gathered (at_most xs n) (next_item xs at)

-- the items from a place on, up to the end or to where none can be read
unfoldable pub items_from : List ℕ → ℕ → List Piece
items_from xs at = at_most xs (suc (length xs - at)) at

-- what is left of the items
abbrev pub items_in : Items → List Piece
items_in i = items_from i.src.now i.at
