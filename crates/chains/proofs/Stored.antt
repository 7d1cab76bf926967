-- The lists of a store, by its places and chains, and what a move keeps of the whole store.
use Rattle.std.specs.Prelude.{◌≡◌, ℕ, suc, ◌+◌, ◌-◌, ◌*◌, ◌<◌, ◌≤◌, false, List, [], length, get_or, drop, set, Option, Some, None, IfSome, IfNone, MatchOption, vec_items, vec_len, ◌≢◌, slice_index_or, slice_set, refl}
use Rattle.std.proofs.Common.{sym, ap, subst, ◌∙◌, inl, inr, arith}
use Rattle.std.specs.List.{slice_get}
use Rattle.std.specs.Borrow.{Bor}
use Rattle.std.proofs.lemmas.List.{get_or_past, get_or-map, get_or_read_under, get_or_default, length-drop, length-map, map-set, with_items_is}
use Rattle.std.proofs.lemmas.Option.{slice_get_read}
use Rattle.std.proofs.lemmas.Bool.{cases_lt}
use Rattle.std.proofs.Math.Seq.{map-set_same}
use Rattle.std.specs.Vec.{with_items}
use Rattle.std.specs.declared.alloc.Global.{Global}
use Rattle.std.specs.declared.vec.Vec.{Vec}
use Rattle.notice.specs.declared.event.Notice.{Notice}
use Rattle.store.specs.Meaning.{held, in_use, full, put_at, drop_at}
use Rattle.store.proofs.Room.{room_so}
use Rattle.chains.specs.declared.chain.Chain.{Chain}
use Rattle.chains.specs.declared.chains.Chains.{Chains}
use Rattle.chains.specs.declared.place.Place.{Place}
use Rattle.chains.specs.Links.{step, chain_at, no_chain, Inside, Apart, Once, Ends, moved_links, moved_chains}
use Rattle.chains.specs.Lists.{slot_lists}
use Rattle.chains.specs.Held.{blank, links_of, notices_of, walk, rows, chain_lists}
use Rattle.chains.proofs.Moved.{Ready, moved_long, moved_inside, moved_apart, moved_once, moved_ends}
use Rattle.chains.proofs.Walks.{rows_long, slot_at, walk_long, walk_at, moved_put, moved_drop}
use Rattle.chains.proofs.Counts.{sum, moved_sum, in_use_lists, free_some}

abbrev pub links : Chains → List ℕ
links s = links_of (vec_items s.places)

abbrev pub chains : Chains → List Chain
chains s = vec_items s.chains

pub lists_long : (ps : List Place) (cs : List Chain) → length (chain_lists ps cs) ≡ length cs - 1
lists_long ps cs = length-drop 1 (rows (links_of ps) (notices_of ps) cs) ∙ ap (λ (n : ℕ). n - 1) (rows_long (links_of ps) (notices_of ps) cs)

module _ (s : Chains) where
  pub links_count : vec_len s.places ≡ length (links s)
  links_count = s.places.ok.0 ∙ sym (length-map (vec_items s.places) (λ (p : Place). p.next))

  pub lists_count : length (slot_lists s) ≡ vec_len s.chains - 1
  lists_count = omega (arith, s.counted)

  held_is : (i : ℕ) → held (slot_lists s) i ≡ walk (links s) (notices_of (vec_items s.places)) (chain_at (chains s) (i + 1)).first (chain_at (chains s) (i + 1)).count
  held_is i =
      let z : suc i ≡ i + 1 = omega arith in
      slot_at (links s) (notices_of (vec_items s.places)) (chains s) i
      ∙ ap (λ (j : ℕ). walk (links s) (notices_of (vec_items s.places)) (chain_at (chains s) j).first (chain_at (chains s) j).count) z

  pub held_count : (i : ℕ) → length (held (slot_lists s) i) ≡ (chain_at (chains s) (i + 1)).count
  held_count i =
      ap (λ (l : List Notice). length l) (held_is i)
      ∙ walk_long (links s) (notices_of (vec_items s.places)) (chain_at (chains s) (i + 1)).first (chain_at (chains s) (i + 1)).count

  -- the length of what a slot holds, by what `get` finds
  pub found_count : (i : ℕ) (r : Option (Bor Chain)) → IfSome r (λ (c : Bor Chain). c.now ≡ chain_at (chains s) (i + 1)) → IfNone r (length (slot_lists s) ≤ i) → MatchOption r (length (held (slot_lists s) i) ≡ 0) (λ (c : Bor Chain). c.now.count ≡ length (held (slot_lists s) i))
  found_count i None h k = ap (λ (l : List Notice). length l) (get_or_past (slot_lists s) i [] k)
  found_count i (Some c) h k = ap (λ (c : Chain). c.count) h ∙ sym (held_count i)

  pub held_in : (i : ℕ) → 0 < length (held (slot_lists s) i) → i < length (slot_lists s)
  held_in i h =
      elim (cases_lt i (length (slot_lists s))) [
        | inl a ↦ a
        | inr a ↦ absurd (omega (arith, ap (λ (l : List Notice). length l) (get_or_past (slot_lists s) i [] a)))
      ]

  pub place_in : (i k : ℕ) → k < (chain_at (chains s) i).count → step (links s) (chain_at (chains s) i).first k < vec_len s.places
  place_in i k h = omega (arith, s.inside i k h, links_count)

  -- the notice on a place of a slot's chain, as `places[p]` reads it
  pub at_is : (i k p : ℕ) (q : Place) → k < (chain_at (chains s) (i + 1)).count → p ≡ step (links s) (chain_at (chains s) (i + 1)).first k → q ≡ slice_index_or (vec_items s.places) p q → Some q.notice ≡ slice_get (held (slot_lists s) i) k
  at_is i k p q h e g =
      let ps = vec_items s.places in
      let ts = notices_of ps in
      let c = chain_at (chains s) (i + 1) in
      let lt : k < length (held (slot_lists s) i) = omega (arith, held_count i) in
      let pin : p < length ps = omega (arith, e, place_in (i + 1) k h, s.places.ok.0) in
      let a : q.notice ≡ get_or ts p blank = ap (λ (q : Place). q.notice) g ∙ sym (get_or-map (λ (q : Place). q.notice) ps p q blank pin) in
      let b : q.notice ≡ get_or (held (slot_lists s) i) k blank =
      a ∙ ap (λ (p : ℕ). get_or ts p blank) e ∙ sym (walk_at (links s) ts c.first c.count k h) ∙ ap (λ (l : List Notice). get_or l k blank) (sym (held_is i)) in
      sym (slice_get_read (held (slot_lists s) i) (length (held (slot_lists s) i)) k q.notice refl lt (b ∙ get_or_default (held (slot_lists s) i) k blank q.notice lt))

  -- a move is ready: to a slot that has room, and from one that holds something
  ready : (f t : ℕ) → (f ≢ t) → f < length (chains s) → t < length (chains s) → 0 < (chain_at (chains s) f).count → Ready (links s) (chains s) f t
  ready f t ne hf ht p = record { differ = ne; from_in = hf; to_in = ht; some = p; inside = s.inside; apart = s.apart; once = s.once; ends = s.ends }

  pub put_ready : (i j : ℕ) → j ≡ suc i → full s.reserve s.spare (slot_lists s) i ≡ false → Ready (links s) (chains s) 0 j
  put_ready i j e w =
      let p = room_so s.reserve s.spare (slot_lists s) i w in
      let lt : suc i < length (chains s) = omega (arith, p.0, lists_count, s.chains.ok.0) in
      let z : vec_len s.places ≡ (length (chains s) - 1) * s.reserve + s.spare = s.sized ∙ ap (λ (n : ℕ). (n - 1) * s.reserve + s.spare) s.chains.ok.0 in
      let o : i + 1 ≡ suc i = omega arith in
      let u = in_use_lists s.reserve (links s) (notices_of (vec_items s.places)) (chains s) in
      let c = held_count i ∙ ap (λ (m : ℕ). (chain_at (chains s) m).count) o in
      let free : 0 < (chain_at (chains s) 0).count =
      free_some s.reserve s.spare (vec_len s.places) (chains s) i lt s.whole z
      (elim p.1 [
        | inl a ↦ omega (arith, u, c, s.tally, s.within)
        | inr a ↦ elim (cases_lt (in_use s.reserve (slot_lists s)) s.spare) [ inl b ↦ omega (arith, u) | inr b ↦ absurd (a (omega (arith, s.tally, s.within))) ]
      ]) in
      ready 0 j (λ q. absurd (omega (arith, q))) (omega arith) (omega arith) free

  pub drop_ready : (i j : ℕ) → j ≡ i + 1 → 0 < length (held (slot_lists s) i) → Ready (links s) (chains s) j 0
  drop_ready i j e h =
      let lt : j < length (chains s) = omega (arith, held_in i h, lists_count, s.chains.ok.0) in
      ready j 0 (λ q. absurd (omega (arith, q))) lt (omega arith) (omega (arith, held_count i, ap (λ (m : ℕ). (chain_at (chains s) m).count) e))

-- the first place of a chain is one of the table
pub first_in : (s : Chains) (f : ℕ) (ps : List Place) (cs : List Chain) → 0 < (chain_at (chains s) f).count → length ps ≡ vec_len s.places → cs ≡ chains s → (chain_at cs f).first < length ps
first_in s f ps cs h l e = omega (arith, ap (λ (cs : List Chain). (chain_at cs f).first) e, place_in s f 0 h, l)

-- what `shift` makes of places and chains
abbrev pub Shifted : List Place → List Chain → ℕ → ℕ → List Place → List Chain → Type 0
Shifted ps cs f t qs ds = record {
  links : links_of qs ≡ moved_links (links_of ps) cs f t;
  notices : notices_of qs ≡ notices_of ps;
  chains : ds ≡ moved_chains (links_of ps) cs f t;
}

-- the same of Vecs that it is passed as slices
pub written : (v : Vec Place Global) (u : Vec Chain Global) (f t : ℕ) (ps qs : List Place) (cs ds : List Chain) → length qs ≡ vec_len v → length ds ≡ vec_len u → Shifted ps cs f t qs ds →
    Shifted ps cs f t (vec_items (with_items v qs)) (vec_items (with_items u ds))
written v u f t ps qs cs ds lp lc w =
    subst (λ (qs : List Place). Shifted ps cs f t qs (vec_items (with_items u ds))) (sym (with_items_is v qs lp)) (subst (λ (ds : List Chain). Shifted ps cs f t qs ds) (sym (with_items_is u ds lc)) w)

-- where it is passed the chains of a store, and places with the links of that store
module _ (s : Chains) (f t : ℕ) (ps qs : List Place) (cs ds : List Chain) (el : links_of ps ≡ links s) (ec : cs ≡ chains s) (w : Shifted ps cs f t qs ds) where
  shifted_links : links_of qs ≡ moved_links (links s) (chains s) f t
  shifted_links = w.links ∙ ap (λ (ls : List ℕ). moved_links ls cs f t) el ∙ ap (λ (es : List Chain). moved_links (links s) es f t) ec

  shifted_chains : ds ≡ moved_chains (links s) (chains s) f t
  shifted_chains = w.chains ∙ ap (λ (ls : List ℕ). moved_chains ls cs f t) el ∙ ap (λ (es : List Chain). moved_chains (links s) es f t) ec

  shifted_lists : (us : List Notice) → notices_of ps ≡ us → chain_lists qs ds ≡ drop 1 (rows (moved_links (links s) (chains s) f t) us (moved_chains (links s) (chains s) f t))
  shifted_lists us e =
      ap (λ (ls : List ℕ). drop 1 (rows ls (notices_of qs) ds)) shifted_links
      ∙ ap (λ (ns : List Notice). drop 1 (rows (moved_links (links s) (chains s) f t) ns ds)) (w.notices ∙ e)
      ∙ ap (λ (es : List Chain). drop 1 (rows (moved_links (links s) (chains s) f t) us es)) shifted_chains

-- what holds of the parts of a store: places ps, n of them, chains cs, k of them, u of the spare v in use, reserve r
abbrev pub Holds : List Place → ℕ → List Chain → ℕ → ℕ → ℕ → ℕ → Type 0
Holds ps n cs k u r v = record {
  inside : Inside (links_of ps) cs;
  apart : Apart (links_of ps) cs;
  once : Once (links_of ps) cs;
  ends : Ends (links_of ps) cs;
  whole : sum cs ≡ n;
  sized : n ≡ (k - 1) * r + v;
  tally : u ≡ in_use r (chain_lists ps cs);
  within : u ≤ v;
  counted : k ≡ length (chain_lists ps cs) + 1;
  few : k ≤ 65;
  small : r ≤ 9;
  scarce : v ≤ 32;
}

over : (P : List ℕ → List Chain → Type 0) (nx ny : List ℕ) (cs ds : List Chain) → ny ≡ nx → ds ≡ cs → P nx cs → P ny ds
over P nx ny cs ds p q h = subst (λ (xs : List ℕ). P xs ds) (sym p) (subst (λ (xs : List Chain). P nx xs) (sym q) h)

-- it leaves what holds of a store
pub moved_holds : (s : Chains) (f t : ℕ) (ps qs : List Place) (cs ds : List Chain) (n k u : ℕ) → Ready (links s) (chains s) f t → links_of ps ≡ links s → cs ≡ chains s → Shifted ps cs f t qs ds →
    n ≡ vec_len s.places → k ≡ vec_len s.chains → u ≡ in_use s.reserve (chain_lists qs ds) → u ≤ s.spare → Holds qs n ds k u s.reserve s.spare
moved_holds s f t ps qs cs ds n k u r el ec w e g v l =
    let nx = links s in
    let es = chains s in
    let p = shifted_links s f t ps qs cs ds el ec w in
    let q = shifted_chains s f t ps qs cs ds el ec w in
    record {
      inside = over Inside (moved_links nx es f t) (links_of qs) (moved_chains nx es f t) ds p q (moved_inside nx es f t r);
      apart = over Apart (moved_links nx es f t) (links_of qs) (moved_chains nx es f t) ds p q (moved_apart nx es f t r);
      once = over Once (moved_links nx es f t) (links_of qs) (moved_chains nx es f t) ds p q (moved_once nx es f t r);
      ends = over Ends (moved_links nx es f t) (links_of qs) (moved_chains nx es f t) ds p q (moved_ends nx es f t r);
      whole = ap sum q ∙ (moved_sum nx es f t r).0 ∙ s.whole ∙ sym e;
      sized = e ∙ s.sized ∙ ap (λ (k : ℕ). (k - 1) * s.reserve + s.spare) (sym g);
      tally = v;
      within = l;
      counted = omega (arith, lists_long qs ds, ap length q, moved_long nx es f t, s.chains.ok.0, s.counted);
      few = omega (arith, s.few);
      small = s.small;
      scarce = s.scarce;
    }

-- a notice written on a place whose link stays
abbrev pub noted : List Place → ℕ → Notice → Place → List Place
noted ps p x q = slice_set ps p (record { notice = x; next = q.next })

-- the first free place, as `append` reads it
module _ (s : Chains) (i : ℕ) (a : Chain) (room : full s.reserve s.spare (slot_lists s) i ≡ false) (ea : a ≡ slice_index_or (chains s) 0 a) where
  free_read : a ≡ chain_at (chains s) 0
  free_read = get_or_read_under (chains s) 0 (vec_len s.chains) a no_chain ea (omega (arith, s.counted)) s.chains.ok.0

  pub free_in : a.first < vec_len s.places
  free_in = omega (arith, ap (λ (c : Chain). c.first) free_read, place_in s 0 0 (put_ready s i (suc i) refl room).some)

-- what `append` leaves
module _ (s : Chains) (i : ℕ) (x : Notice) (a : Chain) (q : Place) (room : full s.reserve s.spare (slot_lists s) i ≡ false) (ea : a ≡ slice_index_or (chains s) 0 a) (eq : q ≡ slice_index_or (vec_items s.places) a.first q) where
  pub noted_links : links_of (noted (vec_items s.places) a.first x q) ≡ links s
  noted_links = map-set_same (λ (p : Place). p.next) (vec_items s.places) a.first (record { notice = x; next = q.next }) q (ap (λ (p : Place). p.next) eq)

  pub append_lists : (ps qs : List Place) (cs ds : List Chain) → ps ≡ noted (vec_items s.places) a.first x q → cs ≡ chains s → Shifted ps cs 0 (i + 1) qs ds → chain_lists qs ds ≡ put_at (slot_lists s) i x
  append_lists ps qs cs ds ep ec w =
      let nx = links s in
      let es = chains s in
      let ts = notices_of (vec_items s.places) in
      let us = set ts (chain_at es 0).first x in
      let z : i + 1 ≡ suc i = omega arith in
      let en = ap notices_of ep ∙ map-set (λ (p : Place). p.notice) (vec_items s.places) a.first (record { notice = x; next = q.next }) ∙ ap (λ (c : Chain). set ts c.first x) (free_read s i a room ea) in
      shifted_lists s 0 (i + 1) ps qs cs ds (ap links_of ep ∙ noted_links) ec w us en
      ∙ ap (λ (j : ℕ). drop 1 (rows (moved_links nx es 0 j) us (moved_chains nx es 0 j))) z
      ∙ moved_put nx ts es i x (length-map (vec_items s.places) (λ (p : Place). p.notice) ∙ sym s.places.ok.0 ∙ links_count s) (put_ready s i (suc i) refl room)

-- what `release` leaves
pub release_lists : (s : Chains) (i : ℕ) → 0 < length (held (slot_lists s) i) → (ps qs : List Place) (cs ds : List Chain) → ps ≡ vec_items s.places → cs ≡ chains s → Shifted ps cs (i + 1) 0 qs ds →
    chain_lists qs ds ≡ drop_at (slot_lists s) i
release_lists s i h ps qs cs ds ep ec w =
    let nx = links s in
    let es = chains s in
    let ts = notices_of (vec_items s.places) in
    let z : i + 1 ≡ suc i = omega arith in
    shifted_lists s (i + 1) 0 ps qs cs ds (ap links_of ep) ec w ts (ap notices_of ep)
    ∙ ap (λ (j : ℕ). drop 1 (rows (moved_links nx es j 0) ts (moved_chains nx es j 0))) z
    ∙ moved_drop nx ts es i (drop_ready s i (suc i) (omega arith) h)
