use Rattle.grammar.proofs.Reading.{reads, only}
use Rattle.grammar.proofs.grammar_stands.Goals as goal

pub returns : goal.returns
returns c = record { reads = reads; only = only }
