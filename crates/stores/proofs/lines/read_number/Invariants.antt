use Rattle.std.proofs.Common.{◌≡◌, drop}
use Rattle.stores.specs.Lines.{number_after, number_of}
use Rattle.stores.proofs.lines.read_number.Given as goal

-- what is left, after the number so far, gives the answer
abbrev pub invariant-loop-c : goal.invariant-loop-c
invariant-loop-c l = number_after l.n (drop l.c-index l.word) ≡ number_of l.word
