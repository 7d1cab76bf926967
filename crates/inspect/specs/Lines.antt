-- What a line of the input comes to. Assumes nothing.
use Rattle.std.specs.Prelude.{◌≡◌, ℕ, cond, ◌||◌, List, [], ◌∷◌, length, Some, None, Ok, Err, Option, Result, IfSome, ◌==◌, nat_lt}
use Rattle.hex_text.specs.declared.HexFault.{HexFault}
use Rattle.hex_text.specs.declared.HexFault.TheVariants.{Digit, Odd, Memory}
use Rattle.hex_text.specs.Hex.{bytes_of}
use Rattle.notice.specs.declared.status.Status.{Status}
use Rattle.request.specs.Answer.{answer_of}
use Rattle.request.specs.Request.{Wish, wish_in}
use Rattle.request.specs.declared.Request.{Request}
use Rattle.inspect.specs.declared.lines.LineFault.{LineFault}
use Rattle.inspect.specs.declared.lines.LineFault.TheVariants as code

-- an outcome, with what a request asks for as a list
pub data OutcomeSaid : Type 0 where
  passed : OutcomeSaid
  not_hex : OutcomeSaid
  odd_digits : OutcomeSaid
  size : OutcomeSaid
  refused : Status → OutcomeSaid
  asks : Wish → OutcomeSaid

abbrev pub answered : Result Wish Status → OutcomeSaid
answered (Ok w) = asks w
answered (Err s) = refused s

-- a request has 8 to 16,384 bytes; else fetch declines it
abbrev pub request_outcome : List ℕ → OutcomeSaid
request_outcome bs = cond (nat_lt (length bs) 8 || nat_lt 16384 (length bs)) size (answered (answer_of bs))

abbrev pub decoded : Result (List ℕ) HexFault → OutcomeSaid
decoded (Ok bs) = request_outcome bs
decoded (Err Digit) = not_hex
decoded (Err Odd) = odd_digits
decoded (Err Memory) = not_hex

-- an empty line and a comment are passed over, any other is hexadecimal text; `#` has the code 35
abbrev pub outcome_of : List ℕ → OutcomeSaid
outcome_of [] = passed
outcome_of (c ∷ cs) = cond (c == 35) passed (decoded (bytes_of (c ∷ cs)))

-- why a line gives no request; of a want of memory nothing is said
abbrev pub fault_said : LineFault → Option OutcomeSaid
fault_said (code.Hex Digit) = Some not_hex
fault_said (code.Hex Odd) = Some odd_digits
fault_said (code.Hex Memory) = None
fault_said code.Size = Some size
fault_said (code.Refused s) = Some (refused s)

abbrev pub shown : Result (Option Request) LineFault → Option OutcomeSaid
shown (Ok None) = Some passed
shown (Ok (Some r)) = Some (asks (wish_in r))
shown (Err f) = fault_said f

-- r is that outcome, but for a want of memory
abbrev pub ComesTo : OutcomeSaid → Result (Option Request) LineFault → Type 0
ComesTo o r = IfSome (shown r) (λ s. s ≡ o)
