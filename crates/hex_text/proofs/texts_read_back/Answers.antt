use Rattle.hex_text.proofs.Reading.{reads_back}
use Rattle.hex_text.proofs.texts_read_back.Goals as goal

pub returns : goal.returns
returns c = reads_back
