-- Numbers and counted runs in a request's bytes, the highest byte first. Assumes nothing.
use Rattle.std.specs.Prelude.{ℕ, ◌+◌, ◌*◌, cond, List, length, take, drop, Ok, Err, Result, nat_le, slice_index}
use Rattle.ipp.specs.declared.bytes.Fault.{Fault}
use Rattle.ipp.specs.declared.bytes.Fault.TheVariants.{CutShort}
use Rattle.ipp.specs.declared.bytes.Part.{Part}

-- bytes of the request, and the place of the first of them
pub record Run : Type 0 where
  pub bytes : List ℕ
  pub place : ℕ

-- the number in the two bytes at a place
abbrev pub two_at : List ℕ → ℕ → ℕ
two_at xs i = slice_index xs i * 256 + slice_index xs (i + 1)

-- two bytes of length at a place, and then so many bytes; with the place past them
abbrev pub counted_at : List ℕ → ℕ → Result (Run × ℕ) Fault
counted_at xs at =
    cond (nat_le (at + 2) (length xs))
    (cond (nat_le (at + 2 + two_at xs at) (length xs))
    (Ok (record { bytes = take (two_at xs at) (drop (at + 2) xs); place = at + 2 }, at + 2 + two_at xs at))
    (Err CutShort))
    (Err CutShort)

-- a part of the request as its bytes, in the place of a reference to them
abbrev pub run_of : Part → Run
run_of p = record { bytes = p.bytes.now; place = p.place }

abbrev pub part_of : Result (Part × ℕ) Fault → Result (Run × ℕ) Fault
part_of (Ok p) = Ok (run_of p.0, p.1)
part_of (Err e) = Err e
