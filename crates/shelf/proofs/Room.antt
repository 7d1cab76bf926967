-- When a slot of a shelf is full, and which entry leaves.
use Rattle.std.proofs.Common.{◌≡◌, ℕ, ◌+◌, ◌<◌, ◌≤◌, Bool, true, false, not, eqb, List, [], length, get_or, take, sym, ap, ◌∙◌, inl, inr, arith}
use Rattle.std.specs.List.{remove}
use Rattle.std.proofs.lemmas.List.Elements.{All-more, All-same, All-weaker}
use Rattle.std.proofs.lemmas.List.{get_or_default, length-append, nil_from_length}
use Rattle.std.proofs.lemmas.Bool.{and_cases, and_parts, both_ways, cases_lt, eqb-false, eqb-true, not-false, not-true}
use Rattle.notice.specs.declared.event.Notice.{Notice}
use Rattle.store.specs.Meaning.{held, in_use, full, put_at}
use Rattle.store.proofs.Room.{no_slot, no_spare, in_reserve, in_spare, full_there, room_so}
use Rattle.store.proofs.Follows.{same_store}
use Rattle.shelf.specs.declared.entry.Entry.{Entry}
use Rattle.shelf.specs.Shelf.{waiting, extended, goes_below, Placed, Stuck}
use Rattle.shelf.specs.Extended.{length_extended, held_within, in_use_most}
use Rattle.shelf.proofs.Waiting.{none_waits, all_that_wait}
use Rattle.shelf.proofs.Changes.{extended_move, extended_push, extended_put, in_use_all}

-- a store that holds the same
pub full_alike : (r v s w : ℕ) (ls ks : List (List Notice)) (i : ℕ) (b : Bool) → s ≡ r → w ≡ v → ks ≡ ls → full s w ks i ≡ b → full r v ls i ≡ b
full_alike r v s w ls ks i b p q e t = sym (same_store (λ r v ls. full r v ls i) s r w v ks ls p q e) ∙ t

pub stuck_alike : (r v s w : ℕ) (ls ks : List (List Notice)) (es fs : List Entry) → s ≡ r → w ≡ v → ks ≡ ls → fs ≡ es → Stuck s w ks fs → Stuck r v ls es
stuck_alike r v s w ls ks es fs p q k l f =
    All-same (λ e. full r v ls e.slot ≡ true) es fs (sym l)
    (All-weaker (λ e. full s w ks e.slot ≡ true) (λ e. full r v ls e.slot ≡ true) (λ e t. full_alike r v s w ls ks e.slot true p q k t) fs f)

-- one entry more that may not leave
pub stuck_more : (r v s w : ℕ) (ls ks : List (List Notice)) (es xs : List Entry) (j : ℕ) (d : Entry) → s ≡ r → w ≡ v → ks ≡ ls → xs ≡ es → j < length xs → Stuck r v ls (take j es) → full s w ks (get_or xs j d).slot ≡ true → Stuck r v ls (take (j + 1) es)
stuck_more r v s w ls ks es xs j d p q k same h f t =
    All-more (λ e. full r v ls e.slot ≡ true) es j d (omega (arith, h, ap (λ (ys : List Entry). length ys) same)) f
    (full_alike r v s w ls ks (get_or es j d).slot true p q k (ap (λ (ys : List Entry). full s w ks (get_or ys j d).slot) (sym same) ∙ t))

-- the first entry that may leave does: the slot of each entry before it is full below, so it is not the same
pub moved : (r v : ℕ) (ls : List (List Notice)) (es : List Entry) (j : ℕ) (d : Entry) → j < length es → Stuck r v ls (take j es) → full r v ls (get_or es j d).slot ≡ false → extended (put_at ls (get_or es j d).slot (get_or es j d).notice) (remove es j) ≡ extended ls es
moved r v ls es j d h f room =
    let e = get_or es j d in
    extended_move ls es j e h (get_or_default es j d e h)
    (none_waits (take j es) e.slot
    (All-weaker (λ x. full r v ls x.slot ≡ true) (λ x. x.slot ≡ e.slot → ⊥) (λ x a b. both_ways (full r v ls x.slot) (ap (λ (i : ℕ). full r v ls i) b ∙ room) a) (take j es) f))

-- a notice goes below at once: nothing waits for its slot, which has room
pub none_overtaken : (r v : ℕ) (ls : List (List Notice)) (es : List Entry) (i : ℕ) → goes_below r v ls es i ≡ true → waiting es i ≡ []
none_overtaken r v ls es i t = nil_from_length (waiting es i) (eqb-true (length (waiting es i)) 0 (and_parts (eqb (length (waiting es i)) 0) (not (full r v ls i)) t).0)

pub room_below : (r v p : ℕ) (ls : List (List Notice)) (es : List Entry) (i : ℕ) → length es ≤ p → in_use r ls ≤ v → goes_below r v ls es i ≡ true → full r (v + p) (extended ls es) i ≡ false
room_below r v p ls es i l u t =
    let s = room_so r v ls i (not-true (full r v ls i) (and_parts (eqb (length (waiting es i)) 0) (not (full r v ls i)) t).1) in
    let there : i < length (extended ls es) = omega (arith, length_extended ls es) in
    elim s.1 [
      | inl a ↦
          in_reserve r (v + p) (extended ls es) i there
          (omega (arith, ap (λ (ns : List Notice). length ns) (held_within ls es i s.0), length-append (held ls i) (waiting es i), ap (λ (ns : List Notice). length ns) (none_overtaken r v ls es i t)))
      | inr a ↦
          elim (cases_lt (in_use r ls) v) [
            | inl b ↦ in_spare r (v + p) (extended ls es) i there (omega (arith, in_use_most r ls es))
            | inr b ↦ absurd (a (omega arith))
          ]
    ]

-- fewer entries stand than may, after a change of no list: every slot has room
pub room_on_shelf : (r v p : ℕ) (ls ms : List (List Notice)) (es fs : List Entry) (i : ℕ) → i < length ls → in_use r ms ≤ v → extended ms fs ≡ extended ls es → length fs < p → full r (v + p) (extended ls es) i ≡ false
room_on_shelf r v p ls ms es fs i h u e l =
    in_spare r (v + p) (extended ls es) i (omega (arith, length_extended ls es)) (omega (arith, in_use_most r ms fs, ap (λ (ks : List (List Notice)). in_use r ks) e))

-- where no entry may leave, a slot whose notices do not go below at once is full there
full_below : (r v : ℕ) (ls : List (List Notice)) (es : List Entry) (i : ℕ) → Stuck r v ls es → goes_below r v ls es i ≡ false → full r v ls i ≡ true
full_below r v ls es i f t =
    elim (and_cases (eqb (length (waiting es i)) 0) (not (full r v ls i)) t) [
      | inl a ↦
          elim (cases_lt 0 (length (waiting es i))) [
            | inl w ↦ all_that_wait (λ k. full r v ls k ≡ true) es i f w
            | inr w ↦ absurd (eqb-false (length (waiting es i)) 0 a (omega arith))
          ]
      | inr a ↦ not-false (full r v ls i) a
    ]

-- as many entries stand as may, none may leave, and a notice did not go below: its slot is full
pub room_nowhere : (r v p : ℕ) (ls : List (List Notice)) (es : List Entry) (i : ℕ) → i < length ls → Placed ls es → length es ≡ p → Stuck r v ls es → goes_below r v ls es i ≡ false → full r (v + p) (extended ls es) i ≡ true
room_nowhere r v p ls es i h k l f t =
    let here = full_there r v ls i h (full_below r v ls es i f t) in
    let uses = in_use_all r ls es (λ j d a. (k j d a, (full_there r v ls _ (k j d a) (f j d a)).0)) in
    no_spare r (v + p) (extended ls es) i
    (omega (arith, ap (λ (ns : List Notice). length ns) (held_within ls es i h), length-append (held ls i) (waiting es i), here.0))
    (omega (arith, here.1))

-- what a put goes by
pub ruleset puts = (no_slot, length_extended, room_below, none_overtaken, room_on_shelf, extended_put, extended_push)
