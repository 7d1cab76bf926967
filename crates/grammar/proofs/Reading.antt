-- The walk over the items of a request reads the grammar, and nothing else. Assumes nothing.
use Rattle.std.proofs.Common.{◌≡◌, ℕ, zero, suc, ◌-◌, ◌<◌, Bool, true, false, cond, List, [], ◌∷◌, ◌++◌, map, length, get_or, take, drop, Ok, Err, Result, sym, refl, ap, ◌∙◌, subst, arith, take-append-drop}
use Rattle.std.proofs.lemmas.List.{drop_at, drop_all}
use Rattle.std.specs.List.{AllByRecursion}
use Rattle.ipp.specs.declared.attributes.Fault.{Fault}
use Rattle.ipp.specs.declared.attributes.Fault.TheVariants.{StrayValue}
use Rattle.ipp.specs.Items.{Piece, mark, attribute, further, end, next_item}
use Rattle.ipp.specs.Turns.{done, after, run}
use Rattle.ipp.specs.Walk.{opened, stepped, end_from, items_from}
use Rattle.ipp.proofs.Walking.{item_falls, items_step, linked_is, walk_more}
use Rattle.grammar.specs.Grammar.{Written, spelled, WellFormed, InPlace, text, plain, found, Reads, Only}
use Rattle.grammar.proofs.Spelling.{stands, end_stands, item_was}

-- where a step is the last one, the walk gives what it gives
walk_done : (xs : List ℕ) (b : Bool) (at : ℕ) (r : Result ℕ Fault) → stepped b (next_item xs at) ≡ done r → end_from xs (b, at) ≡ r
unfolding end_from run
walk_done xs b at r e = ap (after _) e

-- no well-formed item is the end
not_end : (p : Piece) → WellFormed (plain p) → p ≡ end → ⊥
not_end (mark m) h e = grind arith
not_end (attribute tag n v) h e = grind arith
not_end (further tag v) h e = grind arith
not_end end h e = h.2 refl

-- an item in its place is taken by the walk, and leaves those behind it in theirs
opens : (b : Bool) (p : Piece) (ws : List Written) → WellFormed (plain p) → InPlace b (plain p ∷ ws) → (c : Bool) × (opened b p ≡ Ok c) × InPlace c ws
opens b (mark m) ws h i = (false, refl, i)
opens b (attribute tag n v) ws h i = (true, refl, i)
opens b (further tag v) ws h i = (true, ap (λ t. cond t (Ok true) (Err StrayValue)) i.0, i.1)
opens b end ws h i = absurd (h.2 refl)

-- what is found at an item that is not the end
found_more : (xs : List ℕ) (at : ℕ) (p : Piece) (n : ℕ) → next_item xs at ≡ Ok (p, n) → (p ≡ end → ⊥) → found xs at ≡ plain p ∷ found xs n
found_more xs at p n i h = ap (map plain) (items_step xs at _ i ∙ linked_is p (items_from xs n) h)

-- the items of the grammar from a place on
reads_from : (xs : List ℕ) (ws : List Written) (b : Bool) (at : ℕ) → drop at xs ≡ text ws → AllByRecursion WellFormed ws → InPlace b ws → (end_from xs (b, at) ≡ Ok (length xs)) × (found xs at ≡ ws)
reads_from xs [] b at e h i =
    let a = end_stands xs at e in
    (walk_done xs b at _ (ap (stepped b) a.0) ∙ ap Ok a.1, ap (map plain) (items_step xs at _ a.0))
reads_from xs (w ∷ ws) b at e h i =
    let s = stands xs (text ws) at w h.0 e in
    let f : WellFormed (plain s.piece) = subst WellFormed (sym s.same) h.0 in
    let o = opens b s.piece ws f (subst (λ v. InPlace b (v ∷ ws)) (sym s.same) i) in
    let ih = reads_from xs ws o.0 s.next s.left h.1 o.2 in
    let other = not_end s.piece f in
    let m = found_more xs at s.piece s.next s.item other in
    (walk_more xs b at s.piece s.next o.0 s.item other o.1 ∙ ih.0, cc (m, s.same, ih.1))

-- behind a head of 8 bytes
pub reads : Reads
reads head ws l h i = reads_from (head ++ text ws) ws false 8 (drop_at head (text ws) 8 l) h i

-- what stands from a place on is of the grammar
Told : List ℕ → Bool → ℕ → Type 0
Told xs b at = (drop at xs ≡ text (found xs at)) × AllByRecursion WellFormed (found xs at) × InPlace b (found xs at)

module _ (xs : List ℕ) (byte : (i : ℕ) → get_or xs i 0 < 256) where
  -- by the items that are found there
  told_by : (b : Bool) (at : ℕ) (ws : List Written) → found xs at ≡ ws → drop at xs ≡ text ws → AllByRecursion WellFormed ws → InPlace b ws → Told xs b at
  unfolding Told
  told_by b at ws e d h i = subst (λ us. (drop at xs ≡ text us) × AllByRecursion WellFormed us × InPlace b us) (sym e) (d, h, i)

  -- an item before what is of the grammar
  told_more : (b c : Bool) (at : ℕ) (p : Piece) (n : ℕ) → next_item xs at ≡ Ok (p, n) → (p ≡ end → ⊥) → (InPlace c (found xs n) → InPlace b (plain p ∷ found xs n)) → Told xs c n → Told xs b at
  unfolding Told
  told_more b c at p n i other put t =
      let w = item_was xs byte at (p, n) i in
      told_by b at (plain p ∷ found xs n) (found_more xs at p n i other) (w.0 ∙ ap (λ l. spelled (plain p) ++ l) t.0) (w.1 other, t.1) (put t.2)

  -- the end, at the last byte
  told_end : (b : Bool) (at n : ℕ) → next_item xs at ≡ Ok (end, n) → n ≡ length xs → Told xs b at
  told_end b at n i e =
      told_by b at [] (ap (map plain) (items_step xs at _ i)) ((item_was xs byte at (end, n) i).0 ∙ ap (λ l. 3 ∷ l) (drop_all n xs (omega arith))) tt tt

  -- one step of the walk: by the item, and by whether an attribute is open
  told_item : (b : Bool) (at : ℕ) (p : Piece) (n : ℕ) → next_item xs at ≡ Ok (p, n) → end_from xs (b, at) ≡ Ok (length xs) → ((c : Bool) → end_from xs (c, n) ≡ Ok (length xs) → Told xs c n) → Told xs b at
  told_item b at (mark m) n i e ih =
      let other : mark m ≡ end → ⊥ = λ z. grind arith in
      told_more b false at _ n i other (λ h. h) (ih false (sym (walk_more xs b at _ n false i other refl) ∙ e))
  told_item b at (attribute tag m v) n i e ih =
      let other : attribute tag m v ≡ end → ⊥ = λ z. grind arith in
      told_more b true at _ n i other (λ h. h) (ih true (sym (walk_more xs b at _ n true i other refl) ∙ e))
  told_item true at (further tag v) n i e ih =
      let other : further tag v ≡ end → ⊥ = λ z. grind arith in
      told_more true true at _ n i other (λ h. (refl, h)) (ih true (sym (walk_more xs true at _ n true i other refl) ∙ e))
  told_item false at (further tag v) n i e ih =
      let d = walk_done xs false at (Err StrayValue) (ap (stepped false) i) in
      let z : ◌≡◌ {A = ℕ} 0 1 = cc in
      absurd (omega arith)
  told_item b at end n i e ih =
      let d = walk_done xs b at (Ok n) (ap (stepped b) i) in
      told_end b at n i (cc)

  -- the same, by what the reader makes of the place; f is as below
  told_step : (f : ℕ) (b : Bool) (at : ℕ) → ((c : Bool) (n : ℕ) → length xs - n < f → end_from xs (c, n) ≡ Ok (length xs) → Told xs c n) → length xs - at < suc f → end_from xs (b, at) ≡ Ok (length xs) → (r : Result (Piece × ℕ) Fault) → next_item xs at ≡ r → Told xs b at
  told_step f b at ih l e (Ok q) i =
      let k = item_falls xs at q i in
      told_item b at q.0 q.1 i e (λ c. ih c q.1 (omega arith))
  told_step f b at ih l e (Err z) i =
      let d = walk_done xs b at (Err z) (ap (stepped b) i) in
      let c : ◌≡◌ {A = ℕ} 0 1 = cc in
      absurd (omega arith)

  -- each item lies behind the one before it, so f, above the bytes that are left, falls
  told : (f : ℕ) (b : Bool) (at : ℕ) → length xs - at < f → end_from xs (b, at) ≡ Ok (length xs) → Told xs b at
  told zero b at l e = absurd (omega arith)
  told (suc f) b at l e = told_step f b at (told f) l e (next_item xs at) refl

-- from byte 8 on
pub only : Only
unfolding Told
only xs byte e =
    let t = told xs byte (suc (length xs)) false 8 (omega arith) e in
    (sym (take-append-drop 8 xs) ∙ ap (λ r. take 8 xs ++ r) t.0, t.1, t.2)
