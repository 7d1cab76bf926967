-- The grammar of a request's items, written down apart from the reader; the reader accepts it, and nothing else. Assumes nothing.
use Rattle.std.specs.Prelude.{◌≡◌, ℕ, ◌/◌, ◌%◌, ◌<◌, ◌≤◌, Bool, true, false, List, [], ◌∷◌, ◌++◌, map, length, take, Ok, ◌≢◌, slice_index, refl}
use Rattle.std.specs.List.{AllByRecursion}
use Rattle.ipp.specs.Items.{Piece, mark, attribute, further, end}
use Rattle.ipp.specs.Walk.{end_from, items_from}

-- an item as it is written: a group's mark, an attribute with its first value (tag, name, value), or one more value (tag, value)
pub data Written : Type 0 where
  group : ℕ → Written
  named : ℕ → List ℕ → List ℕ → Written
  more : ℕ → List ℕ → Written

-- bytes behind two bytes of their length, the higher first
abbrev pub counted : List ℕ → List ℕ
counted bs = length bs / 256 ∷ length bs % 256 ∷ bs

-- the bytes of an item; one more value has an empty name
abbrev pub spelled : Written → List ℕ
spelled (group m) = m ∷ []
spelled (named tag n v) = tag ∷ (counted n ++ counted v)
spelled (more tag v) = tag ∷ (counted [] ++ counted v)

-- a mark is below 0x10, and neither 0x00 nor the end's 0x03; a tag is at least 0x10; a length has two bytes
abbrev pub WellFormed : Written → Type 0
WellFormed (group m) = (1 ≤ m) × (m < 0x10) × (m ≢ 3)
WellFormed (named tag n v) = (0x10 ≤ tag) × (1 ≤ length n) × (length n < 65536) × (length v < 65536)
WellFormed (more tag v) = (0x10 ≤ tag) × (length v < 65536)

-- each further value has an attribute before it in its group; the flag says whether one stands before the first item
abbrev pub InPlace : Bool → List Written → Type 0
InPlace before [] = Unit {0}
InPlace before (group m ∷ ws) = InPlace false ws
InPlace before (named tag n v ∷ ws) = InPlace true ws
InPlace before (more tag v ∷ ws) = (before ≡ true) × InPlace true ws

-- the bytes of all items, and the end
abbrev pub text : List Written → List ℕ
text [] = 0x03 ∷ []
text (w ∷ ws) = spelled w ++ text ws

-- an item that was read, without its places; the end is never among the items that are listed
abbrev pub plain : Piece → Written
plain (mark m) = group m
plain (attribute tag n v) = named tag n.bytes v.bytes
plain (further tag v) = more tag v.bytes
plain end = group 0x03

-- the items that the reader finds from a place on, without their places
abbrev pub found : List ℕ → ℕ → List Written
found xs at = map plain (items_from xs at)

-- what is written by the grammar behind the 8 bytes of the head is accepted to its last byte, and read back
abbrev pub Reads : Type 0
Reads =
    (head : List ℕ) (ws : List Written) → length head ≡ 8 → AllByRecursion WellFormed ws → InPlace false ws
    → (end_from (head ++ text ws) (false, 8) ≡ Ok (length (head ++ text ws))) × (found (head ++ text ws) 8 ≡ ws)

-- and bytes that are accepted to the last one are a head and what is written by the grammar
abbrev pub Only : Type 0
Only =
    (xs : List ℕ) → ((i : ℕ) → slice_index xs i < 256) → end_from xs (false, 8) ≡ Ok (length xs)
    → (xs ≡ take 8 xs ++ text (found xs 8)) × AllByRecursion WellFormed (found xs 8) × InPlace false (found xs 8)

-- a tag 0x47, the name "hi", the value 7
example : spelled (named 0x47 (104 ∷ 105 ∷ []) (7 ∷ [])) ≡ 0x47 ∷ 0 ∷ 2 ∷ 104 ∷ 105 ∷ 0 ∷ 1 ∷ 7 ∷ []
example = refl

-- a group's mark, the name "h" with the value 7, an empty value more, and the end
example_text : text (group 1 ∷ named 0x47 (104 ∷ []) (7 ∷ []) ∷ more 0x47 [] ∷ []) ≡ 1 ∷ 0x47 ∷ 0 ∷ 1 ∷ 104 ∷ 0 ∷ 1 ∷ 7 ∷ 0x47 ∷ 0 ∷ 0 ∷ 0 ∷ 0 ∷ 3 ∷ []
example_text = refl
