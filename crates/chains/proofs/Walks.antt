-- What chains hold, and how that changes when a place moves from one to another.
use Rattle.std.specs.Prelude.{◌≡◌, ℕ, zero, suc, ◌+◌, ◌-◌, ◌<◌, ◌≢◌, List, [], ◌∷◌, ◌++◌, length, get_or, drop, set, slice_index, slice_index_or, slice_set, refl}
use Rattle.std.proofs.Common.{sym, ap, ◌∙◌, inl, inr, arith}
use Rattle.std.proofs.lemmas.List.{get_or-set_same, get_or-set_other, length-set, length-drop, length-map, get_or-map, get_or_past, get_or-drop, ext_get_or}
use Rattle.std.proofs.lemmas.Bool.{cases_lt, cases_eq}
use Rattle.notice.specs.declared.event.Notice.{Notice}
use Rattle.store.specs.Meaning.{held, put_at, drop_at}
use Rattle.chains.specs.declared.chain.Chain.{Chain}
use Rattle.chains.specs.Links.{step, chain_at, no_chain, place_of, moved_links, moved_chains}
use Rattle.chains.specs.Held.{blank, walk, rows}
use Rattle.chains.proofs.Moved.{Ready, moved_long, chain_to, chain_from, chain_other, place_other, place_from, place_to, place_new}

-- equal places hold equal lists
walk_same : (nx ny : List ℕ) (ts us : List Notice) (p q n : ℕ) → ((k : ℕ) → k < n → slice_index_or us (step ny q k) blank ≡ slice_index_or ts (step nx p k) blank) → walk ny us q n ≡ walk nx ts p n
walk_same nx ny ts us p q zero h = refl
walk_same nx ny ts us p q (suc n) h =
    ap (λ (x : Notice). x ∷ walk ny us (slice_index ny q) n) (h 0 (omega arith))
    ∙ ap (λ (xs : List Notice). slice_index_or ts p blank ∷ xs) (walk_same nx ny ts us (slice_index nx p) (slice_index ny q) n (λ k lt. h (suc k) (omega arith)))

walk_more : (nx : List ℕ) (ts : List Notice) (p n : ℕ) → walk nx ts p (suc n) ≡ walk nx ts p n ++ slice_index_or ts (step nx p n) blank ∷ []
walk_more nx ts p zero = refl
walk_more nx ts p (suc n) = ap (λ (xs : List Notice). slice_index_or ts p blank ∷ xs) (walk_more nx ts (slice_index nx p) n)

walk_less : (nx : List ℕ) (ts : List Notice) (p n : ℕ) → 0 < n → walk nx ts (slice_index nx p) (n - 1) ≡ drop 1 (walk nx ts p n)
walk_less nx ts p zero h = absurd (omega arith)
walk_less nx ts p (suc n) h = let z : suc n - 1 ≡ n = omega arith in ap (λ (m : ℕ). walk nx ts (slice_index nx p) m) z

pub walk_long : (nx : List ℕ) (ts : List Notice) (p n : ℕ) → length (walk nx ts p n) ≡ n
walk_long nx ts p zero = refl
walk_long nx ts p (suc n) = ap suc (walk_long nx ts (slice_index nx p) n)

pub walk_at : (nx : List ℕ) (ts : List Notice) (p n k : ℕ) → k < n → slice_index_or (walk nx ts p n) k blank ≡ slice_index_or ts (step nx p k) blank
walk_at nx ts p zero k h = absurd (omega arith)
walk_at nx ts p (suc n) zero h = refl
walk_at nx ts p (suc n) (suc k) h = walk_at nx ts (slice_index nx p) n k (omega arith)

module _ (nx : List ℕ) (ts : List Notice) (cs : List Chain) where
  pub rows_long : length (rows nx ts cs) ≡ length cs
  rows_long = length-map cs (λ (c : Chain). walk nx ts c.first c.count)

  pub row_at : (i : ℕ) → slice_index_or (rows nx ts cs) i [] ≡ walk nx ts (chain_at cs i).first (chain_at cs i).count
  row_at i =
      elim (cases_lt i (length cs)) [
        | inl h ↦ get_or-map (λ (c : Chain). walk nx ts c.first c.count) cs i no_chain [] h
        | inr h ↦
            get_or_past (rows nx ts cs) i [] (omega (arith, rows_long))
            ∙ sym (ap (λ (c : Chain). walk nx ts c.first c.count) (get_or_past cs i no_chain h))
      ]

  -- the list of a slot
  pub slot_at : (i : ℕ) → held (drop 1 (rows nx ts cs)) i ≡ walk nx ts (chain_at cs (suc i)).first (chain_at cs (suc i)).count
  slot_at i =
      let one : 1 + i ≡ suc i = omega arith in
      get_or-drop 1 (rows nx ts cs) i [] ∙ ap (λ (m : ℕ). get_or (rows nx ts cs) m []) one ∙ row_at (suc i)

-- where one row is changed for l, and the first row is left out
one_changed : (rs qs : List (List Notice)) (i : ℕ) (l : List Notice) → length qs ≡ length rs → suc i < length rs → slice_index_or qs (suc i) [] ≡ l → ((j : ℕ) → j ≢ i → slice_index_or qs (suc j) [] ≡ slice_index_or rs (suc j) []) → drop 1 qs ≡ slice_set (drop 1 rs) i l
one_changed rs qs i l n h here others =
    ext_get_or [] (drop 1 qs) (slice_set (drop 1 rs) i l) (length-drop 1 qs ∙ ap (λ (m : ℕ). m - 1) n ∙ sym (length-drop 1 rs) ∙ sym (length-set (drop 1 rs) i l))
    (λ k lt.
    let one : 1 + k ≡ suc k = omega arith in
    let a = get_or-drop 1 qs k [] ∙ ap (λ (m : ℕ). get_or qs m []) one in
    elim (cases_eq k i) [
      | inl e ↦
          a ∙ ap (λ (m : ℕ). get_or qs (suc m) []) e ∙ here
          ∙ sym (ap (λ (m : ℕ). get_or (slice_set (drop 1 rs) i l) m []) e ∙ get_or-set_same (drop 1 rs) i l [] (omega (arith, length-drop 1 rs)))
      | inr ne ↦ a ∙ others k ne ∙ sym (get_or-set_other (drop 1 rs) i k l [] ne ∙ get_or-drop 1 rs k [] ∙ ap (λ (m : ℕ). get_or rs m []) one)
    ])

module _ (nx : List ℕ) (ts us : List Notice) (cs : List Chain) (f t : ℕ) (r : Ready nx cs f t) where
  -- a chain that the move does not touch, and whose notices stay, holds what it held
  row_stays : (i : ℕ) → i ≢ f → i ≢ t → ((k : ℕ) → k < (chain_at cs i).count → slice_index_or us (place_of nx cs i k) blank ≡ slice_index_or ts (place_of nx cs i k) blank) →
      slice_index_or (rows (moved_links nx cs f t) us (moved_chains nx cs f t)) i [] ≡ slice_index_or (rows nx ts cs) i []
  row_stays i nf nt same =
      let ny = moved_links nx cs f t in
      let ds = moved_chains nx cs f t in
      row_at ny us ds i
      ∙ ap (λ (m : ℕ). walk ny us (chain_at ds i).first m) (ap (λ (c : Chain). c.count) (chain_other nx cs f t r i nf nt))
      ∙ walk_same nx ny ts us (chain_at cs i).first (chain_at ds i).first (chain_at cs i).count
      (λ k lt. ap (λ (m : ℕ). get_or us m blank) (place_other nx cs f t r i k nf nt lt) ∙ same k lt)
      ∙ sym (row_at nx ts cs i)

  rows_as_long : length (rows (moved_links nx cs f t) us (moved_chains nx cs f t)) ≡ length (rows nx ts cs)
  rows_as_long = rows_long (moved_links nx cs f t) us (moved_chains nx cs f t) ∙ moved_long nx cs f t ∙ sym (rows_long nx ts cs)

-- a notice written on the first free place, and that place moved to the end of a slot's chain: a put
module _ (nx : List ℕ) (ts : List Notice) (cs : List Chain) (i : ℕ) (n : Notice) (long : length ts ≡ length nx) (r : Ready nx cs 0 (suc i)) where
  -- what stands on the places of another chain stays
  written_elsewhere : (j k : ℕ) → j ≢ 0 → k < (chain_at cs j).count → slice_index_or (slice_set ts (chain_at cs 0).first n) (place_of nx cs j k) blank ≡ slice_index_or ts (place_of nx cs j k) blank
  written_elsewhere j k ne h = get_or-set_other ts (chain_at cs 0).first (place_of nx cs j k) n blank (λ e. ne (r.apart (j, k) (0, 0) (h, r.some, e)))

  pub moved_put : drop 1 (rows (moved_links nx cs 0 (suc i)) (slice_set ts (chain_at cs 0).first n) (moved_chains nx cs 0 (suc i))) ≡ put_at (drop 1 (rows nx ts cs)) i n
  moved_put =
      let x = (chain_at cs 0).first in
      let t = suc i in
      let c = (chain_at cs t).count in
      let us = set ts x n in
      let ny = moved_links nx cs 0 t in
      let ds = moved_chains nx cs 0 t in
      let p = (chain_at ds t).first in
      let z : c + 1 ≡ suc c = omega arith in
      let xin : x < length ts = omega (arith, r.inside 0 0 r.some, long) in
      one_changed (rows nx ts cs) (rows ny us ds) i (held (drop 1 (rows nx ts cs)) i ++ n ∷ []) (rows_as_long nx ts us cs 0 t r) (omega (arith, rows_long nx ts cs, r.to_in))
      (row_at ny us ds t
      ∙ ap (λ (m : ℕ). walk ny us p m) (ap (λ (c : Chain). c.count) (chain_to nx cs 0 t r) ∙ z)
      ∙ walk_more ny us p c
      ∙ ap (λ (xs : List Notice). xs ++ slice_index_or us (step ny p c) blank ∷ [])
      (walk_same nx ny ts us (chain_at cs t).first p c
      (λ k lt. ap (λ (m : ℕ). get_or us m blank) (place_to nx cs 0 t r k lt) ∙ written_elsewhere t k (λ e. absurd (omega arith)) lt)
      ∙ sym (slot_at nx ts cs i))
      ∙ ap (λ (y : Notice). held (drop 1 (rows nx ts cs)) i ++ y ∷ []) (ap (λ (m : ℕ). get_or us m blank) (place_new nx cs 0 t r) ∙ get_or-set_same ts x n blank xin))
      (λ j ne.
      let nf : suc j ≢ 0 = omega arith in
      row_stays nx ts us cs 0 t r (suc j) nf (λ e. ne (omega (arith, e))) (λ k lt. written_elsewhere (suc j) k nf lt))

-- the first place of a slot's chain moved to the end of the free ones: a drop
pub moved_drop : (nx : List ℕ) (ts : List Notice) (cs : List Chain) (i : ℕ) → Ready nx cs (suc i) 0 →
    drop 1 (rows (moved_links nx cs (suc i) 0) ts (moved_chains nx cs (suc i) 0)) ≡ drop_at (drop 1 (rows nx ts cs)) i
moved_drop nx ts cs i r =
    let f = suc i in
    let x = (chain_at cs f).first in
    let ny = moved_links nx cs f 0 in
    let ds = moved_chains nx cs f 0 in
    one_changed (rows nx ts cs) (rows ny ts ds) i (drop 1 (held (drop 1 (rows nx ts cs)) i)) (rows_as_long nx ts ts cs f 0 r) (omega (arith, rows_long nx ts cs, r.from_in))
    (row_at ny ts ds f
    ∙ ap (λ (m : ℕ). walk ny ts (chain_at ds f).first m) (ap (λ (c : Chain). c.count) (chain_from nx cs f 0 r))
    ∙ walk_same nx ny ts ts (slice_index nx x) (chain_at ds f).first ((chain_at cs f).count - 1)
    (λ k lt. ap (λ (m : ℕ). get_or ts m blank) (place_from nx cs f 0 r k (omega arith)))
    ∙ walk_less nx ts x (chain_at cs f).count r.some
    ∙ ap (λ (xs : List Notice). drop 1 xs) (sym (slot_at nx ts cs i)))
    (λ j ne. row_stays nx ts ts cs f 0 r (suc j) (λ e. ne (omega (arith, e))) (omega arith) (λ k lt. refl))
