use Rattle.std.proofs.Common.{◌≡◌, drop, vec_items}
use Rattle.hex_text.specs.Hex.{bytes_of}
use Rattle.hex_text.proofs.Reading.{after, pairs_of}
use Rattle.hex_text.proofs.decode.Given as goal

abbrev pub invariant-loop-high : goal.invariant-loop-high
invariant-loop-high l = after (vec_items l.bytes) (pairs_of (drop l.high-index l.pairs) l.rest) ≡ bytes_of l.text
