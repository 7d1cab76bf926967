-- A loop as a function: one step, taken again until it is done. Assumes nothing.
use Rattle.std.specs.Prelude.{◌≡◌, ℕ, zero, suc, ◌<◌}
use Rattle.std.proofs.Math.Path.{refl}
use Rattle.std.proofs.Common.{ap, ◌∙◌, arith}

-- what a step gives: a state to go on from, or the result
pub data Next (S R : Type 0) : Type 0 where
  on : S → Next S R
  done : R → Next S R

abbrev pub after : {S R : Type 0} → (S → R) → Next S R → R
after k (on s) = k s
after k (done r) = r

-- at most so many steps, and d where those do not suffice
abbrev pub turns : {S R : Type 0} → (S → Next S R) → R → ℕ → S → R
turns step d zero s = d
turns step d (suc n) s = after (turns step d n) (step s)

-- enough steps, by a number that falls with each of them
unfoldable pub run : {S R : Type 0} → (S → Next S R) → R → (S → ℕ) → S → R
run step d μ s = turns step d (suc (μ s)) s

module _ {S R : Type 0} (step : S → Next S R) (d : R) (μ : S → ℕ) (falls : (s t : S) → step s ≡ on t → μ t < μ s) where
  same_after : (f g : ℕ) → ((t : S) → μ t < f → μ t < g → turns step d f t ≡ turns step d g t) → (s : S) → μ s < suc f → μ s < suc g → (n : Next S R) → step s ≡ n → after (turns step d f) n ≡ after (turns step d g) n
  same_after f g ih s h k (on t) e = let l = falls s t e in ih t (omega arith) (omega arith)
  same_after f g ih s h k (done r) e = refl

  enough : (f g : ℕ) (s : S) → μ s < f → μ s < g → turns step d f s ≡ turns step d g s
  enough zero g s h k = absurd (omega arith)
  enough (suc f) zero s h k = absurd (omega arith)
  enough (suc f) (suc g) s h k = same_after f g (enough f g) s h k (step s) refl

  unrolled : (s : S) (n : Next S R) → step s ≡ n → after (turns step d (μ s)) n ≡ after (run step d μ) n
  unfolding run
  unrolled s (on t) e = let l = falls s t e in enough (μ s) (suc (μ t)) t l (omega arith)
  unrolled s (done r) e = refl

  -- the law that proofs use: a run is one step, and then the run from there
  pub run_step : (s : S) → run step d μ s ≡ after (run step d μ) (step s)
  unfolding run
  run_step s = unrolled s (step s) refl

  pub run_on : (s t : S) → step s ≡ on t → run step d μ s ≡ run step d μ t
  run_on s t e = run_step s ∙ ap (after (run step d μ)) e

  pub run_done : (s : S) (r : R) → step s ≡ done r → run step d μ s ≡ r
  run_done s r e = run_step s ∙ ap (after (run step d μ)) e
