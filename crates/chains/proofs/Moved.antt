-- The first place of one chain moved to the end of another: where each place was before, and what the move keeps.
use Rattle.std.specs.Prelude.{◌≡◌, ℕ, suc, ◌-◌, ◌<◌, ◌≢◌, ◌⊎◌, List, length, set, slice_index, slice_set}
use Rattle.std.proofs.Math.Path.{refl, sym, ap, subst}
use Rattle.std.proofs.Common.{◌∙◌, arith}
use Rattle.std.proofs.Math.Logic.{inl, inr}
use Rattle.std.proofs.lemmas.List.{get_or-set_same, get_or-set_other, length-set}
use Rattle.std.proofs.lemmas.Bool.{cases_lt, cases_eq}
use Rattle.chains.specs.declared.chain.Chain.{Chain}
use Rattle.chains.specs.Links.{step, chain_at, no_chain, place_of, Inside, Apart, Once, Ends, shorter, longer, moved_links, moved_chains}
use Rattle.chains.proofs.Steps.{step_joined, length_joined, Row, joined_before, joined_last}

-- what a move is given
pub record Ready (nx : List ℕ) (cs : List Chain) (f t : ℕ) : Type 0 where
  pub differ : f ≢ t
  pub from_in : f < length cs
  pub to_in : t < length cs
  pub some : 0 < (chain_at cs f).count
  pub inside : Inside nx cs
  pub apart : Apart nx cs
  pub once : Once nx cs
  pub ends : Ends nx cs

-- where place k of chain i was before a move from f to the end of t, which had c places: place m of chain j
Came : ℕ → ℕ → ℕ → ℕ → ℕ → ℕ → ℕ → Type 0
Came f t c i k j m = ((i ≡ f) × (j ≡ f) × (m ≡ suc k)) ⊎ (((i ≡ t) × (k ≡ c) × (j ≡ f) × (m ≡ 0)) ⊎ ((i ≢ f) × (j ≡ i) × (m ≡ k)))

-- no two places came from one
one_origin : (f t c i k u v j m : ℕ) → Came f t c i k j m → Came f t c u v j m → (i ≡ u) × (k ≡ v)
unfolding Came
one_origin f t c i k u v j m (inl a) (inl b) = (omega arith, omega arith)
one_origin f t c i k u v j m (inl a) (inr (inl b)) = absurd (omega arith)
one_origin f t c i k u v j m (inl a) (inr (inr b)) = absurd (b.0 (omega arith))
one_origin f t c i k u v j m (inr (inl a)) (inl b) = absurd (omega arith)
one_origin f t c i k u v j m (inr (inl a)) (inr (inl b)) = (omega arith, omega arith)
one_origin f t c i k u v j m (inr (inl a)) (inr (inr b)) = absurd (b.0 (omega arith))
one_origin f t c i k u v j m (inr (inr a)) (inl b) = absurd (a.0 (omega arith))
one_origin f t c i k u v j m (inr (inr a)) (inr (inl b)) = absurd (a.0 (omega arith))
one_origin f t c i k u v j m (inr (inr a)) (inr (inr b)) = (omega arith, omega arith)

module _ (nx : List ℕ) (cs : List Chain) (f t : ℕ) where
  pub moved_long : length (moved_chains nx cs f t) ≡ length cs
  moved_long =
      length-set (slice_set cs f (shorter (chain_at cs f) (slice_index nx (chain_at cs f).first))) t (longer (chain_at cs t) (chain_at cs f).first)
      ∙ length-set cs f (shorter (chain_at cs f) (slice_index nx (chain_at cs f).first))

  pub links_long : length (moved_links nx cs f t) ≡ length nx
  links_long = length_joined (chain_at cs t).count nx (chain_at cs t).last (chain_at cs f).first

module _ (nx : List ℕ) (cs : List Chain) (f t : ℕ) (r : Ready nx cs f t) where
  -- the chains after the move
  pub chain_to : chain_at (moved_chains nx cs f t) t ≡ longer (chain_at cs t) (chain_at cs f).first
  chain_to =
      let ds = set cs f (shorter (chain_at cs f) (slice_index nx (chain_at cs f).first)) in
      get_or-set_same ds t (longer (chain_at cs t) (chain_at cs f).first) no_chain
      (omega (arith, length-set cs f (shorter (chain_at cs f) (slice_index nx (chain_at cs f).first)), r.to_in))

  pub chain_from : chain_at (moved_chains nx cs f t) f ≡ shorter (chain_at cs f) (slice_index nx (chain_at cs f).first)
  chain_from =
      let a = shorter (chain_at cs f) (slice_index nx (chain_at cs f).first) in
      get_or-set_other (slice_set cs f a) t f (longer (chain_at cs t) (chain_at cs f).first) no_chain r.differ ∙ get_or-set_same cs f a no_chain r.from_in

  pub chain_other : (i : ℕ) → i ≢ f → i ≢ t → chain_at (moved_chains nx cs f t) i ≡ chain_at cs i
  chain_other i nf nt =
      let a = shorter (chain_at cs f) (slice_index nx (chain_at cs f).first) in
      get_or-set_other (slice_set cs f a) t i (longer (chain_at cs t) (chain_at cs f).first) no_chain nt ∙ get_or-set_other cs f i a no_chain nf

  -- a chain other than t never leaves t's end
  not_end : (i m : ℕ) → i ≢ t → m < (chain_at cs i).count → 0 < (chain_at cs t).count → place_of nx cs i m ≢ (chain_at cs t).last
  not_end i m ne h p e = ne (r.apart (i, m) (t, (chain_at cs t).count - 1) (h, omega arith, e ∙ r.ends t p))

  -- the places after the move
  pub place_other : (i k : ℕ) → i ≢ f → i ≢ t → k < (chain_at cs i).count → place_of (moved_links nx cs f t) (moved_chains nx cs f t) i k ≡ place_of nx cs i k
  place_other i k nf nt h =
      ap (λ (c : Chain). step (moved_links nx cs f t) c.first k) (chain_other i nf nt)
      ∙ step_joined (chain_at cs t).count nx (chain_at cs t).last (chain_at cs f).first (chain_at cs i).first k (λ m lt p e. not_end i m nt (omega arith) p e)

  pub place_from : (k : ℕ) → suc k < (chain_at cs f).count → place_of (moved_links nx cs f t) (moved_chains nx cs f t) f k ≡ place_of nx cs f (suc k)
  place_from k h =
      ap (λ (c : Chain). step (moved_links nx cs f t) c.first k) chain_from
      ∙ step_joined (chain_at cs t).count nx (chain_at cs t).last (chain_at cs f).first (slice_index nx (chain_at cs f).first) k (λ m lt p e. not_end f (suc m) r.differ (omega arith) p e)

  to_row : Row nx (chain_at cs t).first (chain_at cs t).count (chain_at cs t).last
  to_row = record { ends = r.ends t; once = λ k m g h e. r.once t (k, m) (g, h, e) }

  pub place_to : (k : ℕ) → k < (chain_at cs t).count → place_of (moved_links nx cs f t) (moved_chains nx cs f t) t k ≡ place_of nx cs t k
  place_to k h =
      let c = chain_at cs t in
      ap (λ (c : Chain). step (moved_links nx cs f t) c.first k) chain_to
      ∙ joined_before c.count nx c.last (chain_at cs f).first c.first k h to_row

  pub place_new : place_of (moved_links nx cs f t) (moved_chains nx cs f t) t (chain_at cs t).count ≡ (chain_at cs f).first
  place_new =
      let c = chain_at cs t in
      ap (λ (d : Chain). step (moved_links nx cs f t) d.first c.count) chain_to
      ∙ joined_last c.count nx c.last (chain_at cs f).first c.first (λ p. r.inside t (c.count - 1) (omega arith))
      to_row

  -- every place after the move is one that was there before
  was : (i k : ℕ) → k < (chain_at (moved_chains nx cs f t) i).count →
      (j : ℕ) × (m : ℕ) × (m < (chain_at cs j).count) × (place_of (moved_links nx cs f t) (moved_chains nx cs f t) i k ≡ place_of nx cs j m) × Came f t (chain_at cs t).count i k j m
  unfolding Came
  was i k h =
      let at : ℕ → ℕ → ℕ = λ i k. place_of (moved_links nx cs f t) (moved_chains nx cs f t) i k in
      elim (cases_eq i f) [
        | inl e ↦
            let n = ap (λ (i : ℕ). (chain_at (moved_chains nx cs f t) i).count) e ∙ ap (λ (c : Chain). c.count) chain_from in
            let lt : suc k < (chain_at cs f).count = omega (arith, n) in
            (f, suc k, lt, ap (λ (i : ℕ). at i k) e ∙ place_from k lt, inl (e, refl, refl))
        | inr nf ↦
            elim (cases_eq i t) [
              | inl e ↦
                  let n = ap (λ (i : ℕ). (chain_at (moved_chains nx cs f t) i).count) e ∙ ap (λ (c : Chain). c.count) chain_to in
                  elim (cases_lt k (chain_at cs t).count) [
                    | inl lt ↦ (
                      i,
                      k,
                      subst (λ (i : ℕ). k < (chain_at cs i).count) (sym e) lt,
                      ap (λ (i : ℕ). at i k) e ∙ place_to k lt ∙ sym (ap (λ (i : ℕ). place_of nx cs i k) e),
                      inr (inr (nf, refl, refl)),
                    )
                    | inr ge ↦
                        let q : k ≡ (chain_at cs t).count = omega (arith, n) in
                        (f, 0, r.some, ap (λ (i : ℕ). at i k) e ∙ ap (λ (k : ℕ). at t k) q ∙ place_new, inr (inl (e, q, refl, refl)))
                  ]
              | inr nt ↦
                  let n = ap (λ (c : Chain). c.count) (chain_other i nf nt) in
                  let lt : k < (chain_at cs i).count = omega (arith, n) in
                  (i, k, lt, place_other i k nf nt lt, inr (inr (nf, refl, refl)))
            ]
      ]

  -- so one place is no two
  same_place : (i k u v : ℕ) → k < (chain_at (moved_chains nx cs f t) i).count → v < (chain_at (moved_chains nx cs f t) u).count →
      place_of (moved_links nx cs f t) (moved_chains nx cs f t) i k ≡ place_of (moved_links nx cs f t) (moved_chains nx cs f t) u v → (i ≡ u) × (k ≡ v)
  same_place i k u v h g e =
      let a = was i k h in
      let b = was u v g in
      let c = (chain_at cs t).count in
      let p = sym a.3 ∙ e ∙ b.3 in
      let q : b.0 ≡ a.0 = sym (r.apart (a.0, a.1) (b.0, b.1) (a.2, b.2, p)) in
      let lt : b.1 < (chain_at cs a.0).count = subst (λ (j : ℕ). b.1 < (chain_at cs j).count) q b.2 in
      let s : b.1 ≡ a.1 = sym (r.once a.0 (a.1, b.1) (a.2, lt, p ∙ ap (λ (j : ℕ). place_of nx cs j b.1) q)) in
      one_origin f t c i k u v a.0 a.1 a.4
      (subst (λ (m : ℕ). Came f t c u v a.0 m) s (subst (λ (j : ℕ). Came f t c u v j b.1) q b.4))

  pub moved_inside : Inside (moved_links nx cs f t) (moved_chains nx cs f t)
  moved_inside i k h = let a = was i k h in omega (arith, a.3, r.inside a.0 a.1 a.2, links_long nx cs f t)

  pub moved_apart : Apart (moved_links nx cs f t) (moved_chains nx cs f t)
  moved_apart p q w = (same_place p.0 p.1 q.0 q.1 w.0 w.1 w.2).0

  pub moved_once : Once (moved_links nx cs f t) (moved_chains nx cs f t)
  moved_once i q w = (same_place i q.0 i q.1 w.0 w.1 w.2).1

  pub moved_ends : Ends (moved_links nx cs f t) (moved_chains nx cs f t)
  moved_ends i h =
      let ds = moved_chains nx cs f t in
      let at : ℕ → ℕ → ℕ = λ i k. place_of (moved_links nx cs f t) ds i k in
      elim (cases_eq i t) [
        | inl e ↦
            let b = ap (λ (i : ℕ). chain_at ds i) e ∙ chain_to in
            let n : (chain_at ds i).count - 1 ≡ (chain_at cs t).count = omega (arith, ap (λ (c : Chain). c.count) b) in
            ap (λ (c : Chain). c.last) b ∙ sym (ap (λ (k : ℕ). at i k) n ∙ ap (λ (i : ℕ). at i (chain_at cs t).count) e ∙ place_new)
        | inr nt ↦
            elim (cases_eq i f) [
              | inl e ↦
                  let b = ap (λ (i : ℕ). chain_at ds i) e ∙ chain_from in
                  let n : (chain_at ds i).count ≡ (chain_at cs f).count - 1 = ap (λ (c : Chain). c.count) b in
                  let k : suc ((chain_at ds i).count - 1) ≡ (chain_at cs f).count - 1 = omega (arith, n) in
                  ap (λ (c : Chain). c.last) b ∙ r.ends f r.some
                  ∙ sym (ap (λ (j : ℕ). at j ((chain_at ds i).count - 1)) e ∙ place_from ((chain_at ds i).count - 1) (omega (arith, n)) ∙ ap (λ (k : ℕ). place_of nx cs f k) k)
              | inr nf ↦
                  let b = chain_other i nf nt in
                  let n : (chain_at ds i).count ≡ (chain_at cs i).count = ap (λ (c : Chain). c.count) b in
                  ap (λ (c : Chain). c.last) b ∙ r.ends i (omega (arith, n)) ∙ ap (λ (k : ℕ). place_of nx cs i (k - 1)) (sym n)
                  ∙ sym (place_other i ((chain_at ds i).count - 1) nf nt (omega (arith, n)))
            ]
      ]
