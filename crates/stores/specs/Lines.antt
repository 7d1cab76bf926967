-- What a line of a script says.
use Rattle.std.specs.Prelude.{ℕ, ◌+◌, ◌-◌, ◌*◌, min, Bool, true, false, cond, not, ◌&&◌, ◌||◌, List, [], ◌∷◌, take, drop, Some, None, Ok, Err, codes, Option, Result, ◌==◌, nat_le, option_map, option_and_then}
use Rattle.std.specs.List.{prefix_len}
use Rattle.std.specs.Str.{bytes_eq}
use Rattle.notice.specs.declared.decline.Decline.{Decline}
use Rattle.notice.specs.declared.event.Event.{Event}
use Rattle.notice.specs.declared.kinds.JobKind.TheVariants.{Completed}
use Rattle.notice.specs.declared.kinds.Kind.TheVariants.{Job}
use Rattle.notice.specs.Events.{event_of}
use Rattle.script.specs.declared.steps.Step.{Step}
use Rattle.script.specs.declared.steps.Step.TheVariants.{Put, DropOldest, Clear, Len, At}
use Rattle.stores.specs.declared.lines.Figures.{Figures}
use Rattle.stores.specs.declared.lines.Figures.TheVariants.{One, Two, Three}
use Rattle.stores.specs.declared.lines.Verb.{Verb}
use Rattle.stores.specs.declared.lines.Verb.TheVariants as verb
use Rattle.stores.specs.declared.lines.NoStep.{NoStep}
use Rattle.stores.specs.declared.lines.Order.{Order}
use Rattle.stores.specs.declared.lines.Order.TheVariants.{Make, Take}

-- a blank or a tab
abbrev pub space : ℕ → Bool
space c = c == 32 || c == 9

-- a text from its first word on
abbrev pub from_word : List ℕ → List ℕ
from_word bs = drop (prefix_len space bs) bs

-- a word ends at a space or with the text; where there is none it is empty
abbrev pub word_end : List ℕ → ℕ
word_end bs = prefix_len (λ c. not (space c)) bs

abbrev pub first_word : List ℕ → List ℕ
first_word bs = take (word_end (from_word bs)) (from_word bs)

abbrev pub after_word : List ℕ → List ℕ
after_word bs = drop (word_end (from_word bs)) (from_word bs)

abbrev pub no_word : List ℕ → Bool
no_word [] = true
no_word (c ∷ cs) = false

abbrev pub digit : ℕ → Bool
digit c = nat_le 48 c && nat_le c 57

-- a number with one digit more; no number is over 2,147,483,647
abbrev pub with_digit : ℕ → ℕ → Option ℕ
with_digit n c = cond (digit c && nat_le (n * 10 + (c - 48)) 2147483647) (Some (n * 10 + (c - 48))) None

abbrev pub number_after : ℕ → List ℕ → Option ℕ
number_after n [] = Some n
number_after n (c ∷ cs) = option_and_then (λ m. number_after m cs) (with_digit n c)

-- a number of decimal digits
abbrev pub number_of : List ℕ → Option ℕ
number_of [] = None
number_of (c ∷ cs) = number_after 0 (c ∷ cs)

-- three words as numbers, and whether there is no second, no third and no fourth word
abbrev pub figures_in : Option ℕ → Option ℕ → Option ℕ → Bool → Bool → Bool → Option Figures
figures_in (Some a) (Some b) (Some c) x y z = cond z (Some (Three a b c)) None
figures_in (Some a) (Some b) None x y z = cond y (Some (Two a b)) None
figures_in (Some a) None (Some c) x y z = None
figures_in (Some a) None None x y z = cond x (Some (One a)) None
figures_in None b c x y z = None

abbrev pub figures_by : List ℕ → List ℕ → List ℕ → List ℕ → Option Figures
figures_by first second third more = figures_in (number_of first) (number_of second) (number_of third) (no_word second) (no_word third) (no_word more)

abbrev pub figures_of : List ℕ → Option Figures
figures_of bs = figures_by (first_word bs) (first_word (after_word bs)) (first_word (after_word (after_word bs))) (first_word (after_word (after_word (after_word bs))))

-- a job that is completed: the kind 6, the state 9, the reason 3
abbrev pub put_of : ℕ → ℕ → ℕ → Result Event Decline → Option Step
put_of slot number second (Ok e) = Some (Put slot (record { number = number; second = second; subscribed = Job Completed; event = e }))
put_of slot number second (Err d) = None

abbrev pub put_said : ℕ → ℕ → ℕ → ℕ → Option Step
put_said slot job number second = put_of slot number second (event_of 6 job 9 3 0 0)

abbrev pub sizes_said : Figures → Option Order
sizes_said (One a) = None
sizes_said (Two a b) = None
sizes_said (Three a b c) = Some (Make (record { slots = a; reserve = b; spare = c }))

abbrev pub one_said : (ℕ → Option Step) → Figures → Option Order
one_said f (One a) = option_map Take (f a)
one_said f (Two a b) = None
one_said f (Three a b c) = None

abbrev pub two_said : (ℕ → ℕ → Option Step) → Figures → Option Order
two_said f (One a) = None
two_said f (Two a b) = option_map Take (f a b)
two_said f (Three a b c) = None

abbrev pub verb_of : List ℕ → Option Verb
verb_of w =
    cond (bytes_eq w (codes "sizes")) (Some verb.Sizes)
    (cond (bytes_eq w (codes "put")) (Some verb.Put)
    (cond (bytes_eq w (codes "drop")) (Some verb.Drop)
    (cond (bytes_eq w (codes "clear")) (Some verb.Clear)
    (cond (bytes_eq w (codes "len")) (Some verb.Len)
    (cond (bytes_eq w (codes "at")) (Some verb.At)
    None)))))

abbrev pub said_by : Verb → Figures → ℕ → ℕ → Option Order
said_by verb.Sizes fs number second = sizes_said fs
said_by verb.Put fs number second = two_said (λ slot job. put_said slot job number second) fs
said_by verb.Drop fs number second = one_said (λ slot. Some (DropOldest slot)) fs
said_by verb.Clear fs number second = one_said (λ slot. Some (Clear slot)) fs
said_by verb.Len fs number second = one_said (λ slot. Some (Len slot)) fs
said_by verb.At fs number second = two_said (λ slot place. Some (At slot place)) fs

abbrev pub order_of : Option Verb → Option Figures → ℕ → ℕ → Option Order
order_of None fs number second = None
order_of (Some v) None number second = None
order_of (Some v) (Some fs) number second = said_by v fs number second

-- a blank line, and one that begins with `#`, are passed over
abbrev pub passed_over : List ℕ → Bool
passed_over [] = true
passed_over (c ∷ cs) = c == 35

-- a line that asks for nothing that there is, is an error
abbrev pub asked : Option Order → Result (Option Order) NoStep
asked (Some order) = Ok (Some order)
asked None = Err (record {})

abbrev pub line_of : List ℕ → ℕ → ℕ → Result (Option Order) NoStep
line_of bs number second = cond (passed_over (first_word bs)) (Ok None) (asked (order_of (verb_of (first_word bs)) (figures_of (after_word bs)) number second))

-- the number of puts after a step; it stays within 32 bits
abbrev pub puts_after : ℕ → Step → ℕ
puts_after n (Put slot notice) = min 4294967295 (n + 1)
puts_after n (DropOldest slot) = n
puts_after n (Clear slot) = n
puts_after n (Len slot) = n
puts_after n (At slot place) = n
