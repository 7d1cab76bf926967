use Rattle.std.proofs.Common.{◌≡◌, ◌++◌, drop, string_bytes}
use Rattle.hex_text.specs.Hex.{text_of}
use Rattle.hex_text.proofs.encode.Given as goal

abbrev pub invariant-loop-b : goal.invariant-loop-b
invariant-loop-b l = string_bytes l.text ++ text_of (drop l.b-index l.bytes) ≡ text_of l.bytes
