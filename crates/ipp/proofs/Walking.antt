-- Each item lies behind the one before it, so a walk over them ends; one step of it. Assumes nothing.
use Rattle.std.proofs.Common.{◌≡◌, ℕ, zero, suc, ◌-◌, ◌<◌, ◌≤◌, Bool, List, ◌∷◌, length, Ok, Err, Result, refl, ap, ◌∙◌, arith}
use Rattle.std.proofs.lemmas.Bool.Decides.{nat_tests}
use Rattle.ipp.specs.declared.attributes.Fault.{Fault}
use Rattle.ipp.specs.declared.items.Item.{Item}
use Rattle.ipp.specs.declared.items.Item.TheVariants.{Mark, Attribute, Further, End}
use Rattle.ipp.specs.Bytes.{Run, counted_at}
use Rattle.ipp.specs.Items.{Piece, mark, attribute, further, end, next_item, piece_of}
use Rattle.ipp.specs.Turns.{on, after, run_on, run_step}
use Rattle.ipp.specs.Walk.{opened, State, moved, turned, stepped, step, end_from, linked, gathered, at_most, items_from}

counted_falls : (xs : List ℕ) (at : ℕ) (q : Run × ℕ) → counted_at xs at ≡ Ok q → (at < q.1) × (q.1 ≤ length xs)
counted_falls xs at q e = grind (arith, nat_tests)

pub item_falls : (xs : List ℕ) (at : ℕ) (q : Piece × ℕ) → next_item xs at ≡ Ok q → (at < q.1) × (q.1 ≤ length xs)
item_falls xs at q e = grind (arith, nat_tests, counted_falls)

moved_falls : (n : ℕ) (r : Result Bool Fault) (t : State) → moved n r ≡ on t → t.1 ≡ n
moved_falls n (Ok b) t e = grind arith
moved_falls n (Err f) t e = grind arith

turned_falls : (b : Bool) (p : Piece) (n : ℕ) (t : State) → turned b p n ≡ on t → t.1 ≡ n
turned_falls b (mark m) n t e = moved_falls n (opened b (mark m)) t e
turned_falls b (attribute k m v) n t e = moved_falls n (opened b (attribute k m v)) t e
turned_falls b (further k v) n t e = moved_falls n (opened b (further k v)) t e
turned_falls b end n t e = grind arith

stepped_falls : (xs : List ℕ) (s t : State) (r : Result (Piece × ℕ) Fault) → next_item xs s.1 ≡ r → stepped s.0 r ≡ on t → length xs - t.1 < length xs - s.1
stepped_falls xs s t (Ok q) i e = omega (arith, item_falls xs s.1 q i, turned_falls s.0 q.0 q.1 t e)
stepped_falls xs s t (Err f) i e = grind arith

step_falls : (xs : List ℕ) (s t : State) → step xs s ≡ on t → length xs - t.1 < length xs - s.1
step_falls xs s t e = stepped_falls xs s t (next_item xs s.1) refl e

-- any other item than the end goes by what `opened` makes of it
turned_is : (b : Bool) (p : Piece) (n : ℕ) → (p ≡ end → ⊥) → turned b p n ≡ moved n (opened b p)
turned_is b (mark k) n h = refl
turned_is b (attribute k m v) n h = refl
turned_is b (further k v) n h = refl
turned_is b end n h = absurd (h refl)

pub walk_more : (xs : List ℕ) (b : Bool) (at : ℕ) (p : Piece) (n : ℕ) (c : Bool) → next_item xs at ≡ Ok (p, n) → (p ≡ end → ⊥) → opened b p ≡ Ok c → end_from xs (b, at) ≡ end_from xs (c, n)
unfolding end_from
walk_more xs b at p n c i h o = run_on (step xs) _ _ (step_falls xs) (b, at) (c, n) (ap (stepped b) i ∙ turned_is b p n h ∙ ap (moved n) o)

-- the law that proofs use: the walk is one step, and the walk from there
pub walk_is : (xs : List ℕ) (b : Bool) (at : ℕ) → end_from xs (b, at) ≡ after (end_from xs) (stepped b (next_item xs at))
unfolding end_from
walk_is xs b at = run_step (step xs) _ _ (step_falls xs) (b, at)

pub not_end : (i : Item) → (i ≡ End → ⊥) → piece_of i ≡ end → ⊥
not_end (Mark t) h e = grind arith
not_end (Attribute t n v) h e = grind arith
not_end (Further t v) h e = grind arith
not_end End h e = h refl

pub linked_is : (p : Piece) (is : List Piece) → (p ≡ end → ⊥) → linked p is ≡ p ∷ is
linked_is (mark m) is h = refl
linked_is (attribute k n v) is h = refl
linked_is (further k v) is h = refl
linked_is end is h = absurd (h refl)

-- more steps than there are bytes left change nothing
module _ (xs : List ℕ) where
  linked_same : (p : Piece) (x y : List Piece) → x ≡ y → linked p x ≡ linked p y
  linked_same p x y e = ap (linked p) e

  gathered_same : (f g at : ℕ) → ((t : ℕ) → length xs - t < f → length xs - t < g → at_most xs f t ≡ at_most xs g t) → length xs - at < suc f → length xs - at < suc g → (r : Result (Piece × ℕ) Fault) → next_item xs at ≡ r → gathered (at_most xs f) r ≡ gathered (at_most xs g) r
  gathered_same f g at ih h k (Ok q) e = let l = item_falls xs at q e in linked_same q.0 _ _ (ih q.1 (omega arith) (omega arith))
  gathered_same f g at ih h k (Err e) i = refl

  enough : (f g at : ℕ) → length xs - at < f → length xs - at < g → at_most xs f at ≡ at_most xs g at
  enough zero g at h k = absurd (omega arith)
  enough (suc f) zero at h k = absurd (omega arith)
  enough (suc f) (suc g) at h k = gathered_same f g at (enough f g) h k (next_item xs at) refl

  items_by : (at : ℕ) (r : Result (Piece × ℕ) Fault) → next_item xs at ≡ r → gathered (at_most xs (length xs - at)) r ≡ gathered (items_from xs) r
  unfolding items_from
  items_by at (Ok q) e = let l = item_falls xs at q e in linked_same q.0 _ _ (enough (length xs - at) (suc (length xs - q.1)) q.1 (omega arith) (omega arith))
  items_by at (Err e) i = refl

  -- the law that proofs use: the items from a place on are the one there, and those behind it
  pub items_step : (at : ℕ) (r : Result (Piece × ℕ) Fault) → next_item xs at ≡ r → items_from xs at ≡ gathered (items_from xs) r
  unfolding items_from
  items_step at r e = ap (gathered (at_most xs (length xs - at))) e ∙ items_by at r e

  -- the same, by what stands there
  pub items_are : (at : ℕ) → items_from xs at ≡ gathered (items_from xs) (next_item xs at)
  items_are at = items_step at (next_item xs at) refl

pub linked_more : (i : Item) (is : List Piece) → (i ≡ End → ⊥) → linked (piece_of i) is ≡ piece_of i ∷ is
linked_more i is h = linked_is (piece_of i) is (not_end i h)

pub turned_more : (b : Bool) (i : Item) (n : ℕ) → (i ≡ End → ⊥) → turned b (piece_of i) n ≡ moved n (opened b (piece_of i))
turned_more b i n h = turned_is b (piece_of i) n (not_end i h)
