-- Attributes and their values, as the items of a group give them. Assumes nothing.
use Rattle.std.specs.Prelude.{ℕ, Bool, true, false, cond, ◌&&◌, List, [], ◌∷◌, Some, None, Option, ◌==◌}
use Rattle.std.specs.List.{list_any}
use Rattle.std.specs.Str.{bytes_eq}
use Rattle.ipp.specs.declared.items.Items.{Items}
use Rattle.ipp.specs.declared.values.Value.{Value}
use Rattle.ipp.specs.declared.values.Values.{Values}
use Rattle.ipp.specs.declared.attributes.Attribute.{Attribute}
use Rattle.ipp.specs.declared.attributes.Attributes.{Attributes}
use Rattle.ipp.specs.Items.{Piece, mark, attribute, further, end}
use Rattle.ipp.specs.Walk.{items_in}

-- a value's tag and bytes
abbrev pub Tagged : Type 0
Tagged = ℕ × List ℕ

-- an attribute's name and its values
pub record Named : Type 0 where
  pub name : List ℕ
  pub values : List Tagged

-- the further values that items begin with
abbrev pub furthers : List Piece → List Tagged
furthers [] = []
furthers (mark m ∷ is) = []
furthers (attribute tag n v ∷ is) = []
furthers (further tag v ∷ is) = (tag, v.bytes) ∷ furthers is
furthers (end ∷ is) = []

-- the attributes up to the next group mark, each with the further values behind it
abbrev pub attributes : List Piece → List Named
attributes [] = []
attributes (mark m ∷ is) = []
attributes (attribute tag n v ∷ is) = record { name = n.bytes; values = (tag, v.bytes) ∷ furthers is } ∷ attributes is
attributes (further tag v ∷ is) = attributes is
attributes (end ∷ is) = []

-- the values of the first attribute of that name; none where there is no such attribute
abbrev pub values_of : List ℕ → List Named → List Tagged
values_of name [] = []
values_of name (a ∷ rest) = cond (bytes_eq a.name name) a.values (values_of name rest)

abbrev pub none : List Tagged → Bool
none [] = true
none (v ∷ vs) = false

-- no name stands twice
abbrev pub distinct_names : List Named → Bool
distinct_names [] = true
distinct_names (a ∷ rest) = none (values_of a.name rest) && distinct_names rest

abbrev pub is_mark : ℕ → Piece → Bool
is_mark g (mark m) = m == g
is_mark g (attribute tag n v) = false
is_mark g (further tag v) = false
is_mark g end = false

abbrev pub any_mark : ℕ → List Piece → Bool
any_mark g = list_any (is_mark g)

-- what the code's values and attributes stand for: a value, the values that are left, an attribute, the attributes that are left
abbrev pub tagged : Value → Tagged
tagged v = (v.tag, v.bytes.now)

abbrev pub values_from : Option (Value × Items) → List Tagged
values_from None = []
values_from (Some p) = tagged p.0 ∷ furthers (items_in p.1)

abbrev pub values_in : Values → List Tagged
values_in v = values_from v.next

abbrev pub named_of : Attribute → Named
named_of a = record { name = a.name.now; values = values_in a.values }

abbrev pub attributes_from : Option (Attribute × Items) → List Named
attributes_from None = []
attributes_from (Some p) = named_of p.0 ∷ attributes (items_in p.1)

abbrev pub attributes_in : Attributes → List Named
attributes_in a = attributes (items_in a.items)
