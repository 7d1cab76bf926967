use Rattle.std.proofs.Common.{rules}
use Rattle.hex_text.proofs.Reading.{text_left, text_done}
use Rattle.hex_text.proofs.encode.Goals as goal

pub loop-b-preserved : goal.loop-b-preserved
loop-b-preserved c = search (rules, text_left)

pub returns : goal.returns
returns c = search (rules, text_done)
