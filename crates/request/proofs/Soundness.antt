-- What holds of every request that is accepted: the rules that it passed, peeled off one by one. Assumes nothing.
use Rattle.std.proofs.Common.{◌≡◌, ℕ, suc, ◌≤◌, Bool, true, false, not, ◌&&◌, ◌||◌, eqb, leb, ◌≢◌, List, [], ◌∷◌, map, length, is_ok, Ok, Err, Result, sym, refl, ap, ◌∙◌, subst, arith}
use Rattle.std.proofs.lemmas.Bool.{and_parts, leb-true}
use Rattle.std.proofs.lemmas.Bool.Decides.{nat_tests}
use Rattle.std.specs.List.{AllByRecursion, list_all}
use Rattle.ipp.specs.declared.attributes.Fault as mid
use Rattle.ipp.specs.Attributes.{Tagged, Named, distinct_names}
use Rattle.ipp.specs.Conditions.{distinct_numbers, number_in, or_zero}
use Rattle.ipp.specs.Items.{then}
use Rattle.ipp.specs.Values.{from_one, number_of, positive_of}
use Rattle.ipp.specs.Walk.{end_from, items_from}
use Rattle.request.specs.declared.Fault.{Fault}
use Rattle.request.specs.declared.Fault.TheVariants.{Bytes, Attributes, Version, Operation, RequestId, End, NameTwice, FirstTwo, PrinterUri, SubscriptionIds, SequenceNumbers, Wait, FurtherValues, Charset, TooManyIds}
use Rattle.request.specs.declared.Header.{Header}
use Rattle.request.specs.declared.wanted.Asked.{Asked}
use Rattle.request.specs.Answer.{answered}
use Rattle.request.specs.Request.{Wish, asks, asked_of, group_asks, header_checked, header_of, items_ask, kept, lowest_of, operation_group, request_of, rest, utf_8, waiting, wish_of}
use Rattle.request.specs.Rules.{Operands, all_from_one, all_named, checked, good_ids, good_numbers, good_wait, leading, only_plural, operands_of, starts, unless}
use Rattle.request.specs.Sound.{AcceptedIsSound, Distinct, Positive, Sound}

no_ok : {A E : Type 0} (e : E) (x : A) → ◌≡◌ {A = Result A E} (Err e) (Ok x) → ⊥
no_ok e x h = let z : ◌≡◌ {A = ℕ} 0 1 = cc in omega arith

-- what comes after a rule comes only where the rule holds
unless_ok : {A : Type 0} (b : Bool) (e : Fault) (r : Result A Fault) (x : A) → unless b e r ≡ Ok x → (b ≡ true) × (r ≡ Ok x)
unless_ok true e r x h = (refl, h)
unless_ok false e r x h = absurd (no_ok e x h)

then_ok : {A B E F : Type 0} (g : E → F) (r : Result A E) (f : A → Result B F) (y : B) → then g r f ≡ Ok y → (x : A) × (r ≡ Ok x) × (f x ≡ Ok y)
then_ok g (Ok x) f y h = (x, refl, h)
then_ok g (Err e) f y h = absurd (no_ok (g e) y h)

answered_ok : (r : Result Wish Fault) (w : Wish) → answered r ≡ Ok w → r ≡ Ok w
answered_ok (Ok v) w h = cc
answered_ok (Err e) w h = absurd (no_ok _ w h)

-- integers from 1 on
bounded : (n : ℕ) → (leb 1 n && leb n 0x7FFFFFFF) ≡ true → Positive n
bounded n h =
    let p = and_parts (leb 1 n) (leb n 0x7FFFFFFF) h in
    (leb-true _ _ p.0, leb-true _ _ p.1)

positive_by : (r : Result ℕ mid.Fault) → is_ok (from_one r) ≡ true → Positive (or_zero (from_one r))
positive_by (Ok n) h = grind (arith, nat_tests, bounded)
positive_by (Err e) h = let z : ◌≡◌ {A = ℕ} 0 1 = cc in absurd (omega arith)

positive_number : (bs : List ℕ) → is_ok (positive_of bs) ≡ true → Positive (number_in bs)
positive_number bs h = positive_by (number_of bs) h

asks_length : (vs ns : List Tagged) → length (asks vs ns) ≡ length vs
asks_length [] ns = refl
asks_length (v ∷ vs) ns = ap suc (asks_length vs (rest ns))

ids_positive : (vs ns : List Tagged) → all_from_one vs ≡ true → AllByRecursion (λ (a : Asked). Positive a.id) (asks vs ns)
ids_positive [] ns h = tt
ids_positive (v ∷ vs) ns h =
    let p = and_parts _ _ h in
    (positive_number v.1 p.0, ids_positive vs (rest ns) p.1)

rest_from_one : (ns : List Tagged) → all_from_one ns ≡ true → all_from_one (rest ns) ≡ true
rest_from_one [] h = refl
rest_from_one (n ∷ ns) h = (and_parts _ _ h).1

lowest_positive : (ns : List Tagged) → all_from_one ns ≡ true → Positive (lowest_of ns)
lowest_positive [] h = (omega arith, omega arith)
lowest_positive (n ∷ ns) h = positive_number n.1 (and_parts _ _ h).0

lows_positive : (vs ns : List Tagged) → all_from_one ns ≡ true → AllByRecursion (λ (a : Asked). Positive a.lowest) (asks vs ns)
lows_positive [] ns h = tt
lows_positive (v ∷ vs) ns h = (lowest_positive ns h, lows_positive vs (rest ns) (rest_from_one ns h))

differs : (m n : ℕ) → not (eqb m n) ≡ true → m ≢ n
differs m n h e = grind (arith, nat_tests)

others : (n : ℕ) (vs ns : List Tagged) → list_all (λ w. not (eqb (number_in w.1) n)) vs ≡ true → AllByRecursion (λ m. m ≢ n) (map (λ (a : Asked). a.id) (asks vs ns))
others n [] ns h = tt
others n (v ∷ vs) ns h =
    let p = and_parts _ _ h in
    (differs (number_in v.1) n p.0, others n vs (rest ns) p.1)

ids_distinct : (vs ns : List Tagged) → distinct_numbers vs ≡ true → Distinct (map (λ (a : Asked). a.id) (asks vs ns))
ids_distinct [] ns h = tt
ids_distinct (v ∷ vs) ns h =
    let p = and_parts _ _ h in
    (others (number_in v.1) vs (rest ns) p.0, ids_distinct vs (rest ns) p.1)

numbers_from_one : (ns : List Tagged) → good_numbers ns ≡ true → all_from_one ns ≡ true
numbers_from_one [] h = refl
numbers_from_one (n ∷ ns) h = (and_parts _ _ h).1

some_there : (vs : List Tagged) → good_ids vs ≡ true → 1 ≤ length vs
some_there [] h = let z : ◌≡◌ {A = ℕ} 0 1 = cc in absurd (omega arith)
some_there (v ∷ vs) h = omega arith

same_ok : {A : Type 0} (x y : A) → ◌≡◌ {A = Result A Fault} (Ok x) (Ok y) → x ≡ y
same_ok x y h = cc

-- the header that was passed
header_sound : (h k : Header) → header_checked h ≡ Ok k → Positive k.id
header_sound h k e =
    let good : Bool = leb 1 h.id && leb h.id 0x7FFFFFFF in
    let last : Result Header Fault = unless good RequestId (Ok h) in
    let next : Result Header Fault = unless (eqb h.operation 0x001C) Operation last in
    let a = unless_ok (eqb h.major 1 || eqb h.major 2) Version next k e in
    let b = unless_ok (eqb h.operation 0x001C) Operation last k a.1 in
    let c = unless_ok good RequestId (Ok h) k b.1 in
    subst (λ (x : Header). Positive x.id) (same_ok h k c.1) (bounded h.id c.0)

-- the ids and the sequence numbers that were passed
Good : Operands → Type 0
Good o = (good_ids o.ids ≡ true) × (good_numbers o.numbers ≡ true)

named_good : (o p : Operands) → all_named o ≡ Ok p → Good p
unfolding Good
named_good o p e =
    let last : Result Operands Fault = unless (only_plural o) FurtherValues (Ok o) in
    let waits : Result Operands Fault = unless (good_wait o.wait) Wait last in
    let numbers : Result Operands Fault = unless (good_numbers o.numbers) SequenceNumbers waits in
    let ids : Result Operands Fault = unless (good_ids o.ids) SubscriptionIds numbers in
    let a = unless_ok (starts 0x45 o.uri) PrinterUri ids p e in
    let b = unless_ok (good_ids o.ids) SubscriptionIds numbers p a.1 in
    let c = unless_ok (good_numbers o.numbers) SequenceNumbers waits p b.1 in
    let d = unless_ok (good_wait o.wait) Wait last p c.1 in
    let f = unless_ok (only_plural o) FurtherValues (Ok o) p d.1 in
    subst (λ (x : Operands). (good_ids x.ids ≡ true) × (good_numbers x.numbers ≡ true)) (same_ok o p f.1) (b.0, c.0)

checked_good : (ats : List Named) (p : Operands) → checked ats ≡ Ok p → Good p
checked_good ats p e =
    let values : Result Operands Fault = all_named (operands_of ats) in
    let a = unless_ok (distinct_names ats) NameTwice (unless (leading ats) FirstTwo values) p e in
    let b = unless_ok (leading ats) FirstTwo values p a.1 in
    named_good (operands_of ats) p b.1

asked_sound : (h : Header) (w : Bool) (vs ns : List Tagged) → Positive h.id → leb (length vs) 8 ≡ true → good_ids vs ≡ true → good_numbers ns ≡ true → Sound (record { header = h; asked = asks vs ns; wait = w })
asked_sound h w vs ns i l g n =
    let p = and_parts (starts 0x21 vs && all_from_one vs) (distinct_numbers vs) g in
    let q = and_parts (starts 0x21 vs) (all_from_one vs) p.0 in
    let few : length vs ≤ 8 = leb-true _ _ l in
    record {
      some = subst (λ k. 1 ≤ k) (sym (asks_length vs ns)) (some_there vs g);
      few = subst (λ k. k ≤ 8) (sym (asks_length vs ns)) few;
      ids = ids_positive vs ns q.1;
      lows = lows_positive vs ns (numbers_from_one ns n);
      distinct = ids_distinct vs ns p.1;
      id = i;
    }

wish_sound : (h : Header) (o : Operands) (w : Wish) → Positive h.id → Good o → wish_of h o ≡ Ok w → Sound w
unfolding Good
wish_sound h o w i g e =
    let made : List Asked → Result Wish Fault = λ l. Ok (record { header = h; asked = l; wait = waiting o.wait }) in
    let a = unless_ok (utf_8 o.charset) Charset (then kept (asked_of o.ids o.numbers) made) w e in
    let l = then_ok kept (asked_of o.ids o.numbers) made w a.1 in
    let m = unless_ok (leb (length o.ids) 8) TooManyIds (Ok (asks o.ids o.numbers)) l.0 l.1 in
    let all-Asked = same_ok (asks o.ids o.numbers) l.0 m.1 in
    subst Sound (same_ok _ w (ap made all-Asked ∙ l.2)) (asked_sound h (waiting o.wait) o.ids o.numbers i m.0 g.0 g.1)

pub accepted_is_sound : AcceptedIsSound
accepted_is_sound xs w e =
    let q = answered_ok (request_of xs) w e in
    let h = then_ok Bytes (header_of xs) (λ h. then kept (header_checked h) (items_ask xs)) w q in
    let k = then_ok kept (header_checked h.0) (items_ask xs) w h.2 in
    let n = then_ok Attributes (end_from xs (false, 8)) (λ end. unless (eqb end (length xs)) End (then kept (operation_group (items_from xs 8)) (group_asks k.0))) w k.2 in
    let items : Result Wish Fault = then kept (operation_group (items_from xs 8)) (group_asks k.0) in
    let u = unless_ok (eqb n.0 (length xs)) End items w n.2 in
    let o = then_ok kept (operation_group (items_from xs 8)) (group_asks k.0) w u.1 in
    let c = then_ok kept (checked o.0) (wish_of k.0) w o.2 in
    wish_sound k.0 c.0 w (header_sound h.0 k.0 k.1) (checked_good o.0 c.0 c.1) c.2
