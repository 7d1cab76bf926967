-- What stands at a place of a request. Assumes nothing.
use Rattle.std.specs.Prelude.{◌≡◌, ℕ, ◌+◌, cond, List, [], ◌∷◌, length, Ok, Err, Result, ◌==◌, nat_le, nat_lt, slice_index, refl}
use Rattle.ipp.specs.declared.bytes.Fault.TheVariants as lows
use Rattle.ipp.specs.declared.attributes.Fault.{Fault}
use Rattle.ipp.specs.declared.attributes.Fault.TheVariants.{Bytes, ZeroTag}
use Rattle.ipp.specs.declared.items.Item.{Item}
use Rattle.ipp.specs.declared.items.Item.TheVariants.{Mark, Attribute, Further, End}
use Rattle.ipp.specs.Bytes.{Run, run_of, counted_at}

-- an item, with bytes in the place of references to them
pub data Piece : Type 0 where
  mark : ℕ → Piece
  attribute : ℕ → Run → Run → Piece
  further : ℕ → Run → Piece
  end : Piece

-- `x?`, with the error turned by g
abbrev pub then : {A B E F : Type 0} → (E → F) → Result A E → (A → Result B F) → Result B F
then g (Ok x) f = f x
then g (Err e) f = Err (g e)

-- with an empty name it is a further value
abbrev pub valued : ℕ → Run × ℕ → Run × ℕ → Result (Piece × ℕ) Fault
valued tag n v = cond (length n.0.bytes == 0) (Ok (further tag v.0, v.1)) (Ok (attribute tag n.0 v.0, v.1))

-- the item at a place, with the place past it: 0x03 is the end, 0x01 to 0x0F else are marks, and from 0x10 on tags
-- of values, each with a counted name and a counted value behind it
abbrev pub next_item : List ℕ → ℕ → Result (Piece × ℕ) Fault
next_item xs at =
    cond (nat_le (length xs) at) (Err (Bytes lows.CutShort))
    (cond (slice_index xs at == 0x00) (Err ZeroTag)
    (cond (slice_index xs at == 0x03) (Ok (end, at + 1))
    (cond (nat_lt (slice_index xs at) 0x10) (Ok (mark (slice_index xs at), at + 1))
    (then Bytes (counted_at xs (at + 1)) (λ n. then Bytes (counted_at xs n.1) (valued (slice_index xs at) n))))))

abbrev pub piece_of : Item → Piece
piece_of (Mark m) = mark m
piece_of (Attribute tag n v) = attribute tag (run_of n) (run_of v)
piece_of (Further tag v) = further tag (run_of v)
piece_of End = end

abbrev pub shown : Result (Item × ℕ) Fault → Result (Piece × ℕ) Fault
shown (Ok p) = Ok (piece_of p.0, p.1)
shown (Err e) = Err e

-- a tag 0x47, the name "hi" at place 3, the value 7 at place 7
example : next_item (0x47 ∷ 0 ∷ 2 ∷ 104 ∷ 105 ∷ 0 ∷ 1 ∷ 7 ∷ []) 0 ≡ Ok (attribute 0x47 (record { bytes = 104 ∷ 105 ∷ []; place = 3 }) (record { bytes = 7 ∷ []; place = 7 }), 8)
example = refl
