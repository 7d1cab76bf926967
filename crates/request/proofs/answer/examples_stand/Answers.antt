use Rattle.std.proofs.Common.{refl}
use Rattle.ipp.specs.Turns.{run}
use Rattle.ipp.specs.Walk.{end_from, items_from}
use Rattle.request.proofs.answer.examples_stand.Goals as goal

pub returns : goal.returns
unfolding end_from items_from run
returns c = record {
  one = refl;
  long = refl;
  two = refl;
  passed_over = refl;
  twice = refl;
  negative = refl;
  no_end = refl;
  cut = refl;
  behind_end = refl;
  no_id = refl;
  no_uri = refl;
  ascii = refl;
  nine = refl;
  version = refl;
  operation = refl;
  other_tag = refl;
  two_faults = refl;
}
