use Rattle.std.proofs.Common.{arith}
use Rattle.notice.specs.Declines.{decline_number, all_declines}
use Rattle.notice.proofs.Tables.{numbered_has}
use Rattle.notice.proofs.decline.decline_numbers_stand.Goals as goal

pub returns : goal.returns
returns c = (λ x. grind arith, numbered_has decline_number all_declines)
