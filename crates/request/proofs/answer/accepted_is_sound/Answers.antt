use Rattle.request.proofs.Soundness.{accepted_is_sound}
use Rattle.request.proofs.answer.accepted_is_sound.Goals as goal

pub returns : goal.returns
returns c = accepted_is_sound
