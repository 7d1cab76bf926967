-- Paths along links, and a place that is joined to the end of a chain.
use Rattle.std.specs.Prelude.{◌≡◌, ℕ, zero, suc, ◌-◌, ◌<◌, List, length, ◌≢◌, slice_index, slice_set, refl}
use Rattle.std.proofs.Common.{ap, ◌∙◌, sym, arith}
use Rattle.std.proofs.lemmas.List.{get_or-set_same, get_or-set_other, length-set}
use Rattle.chains.specs.Links.{step, joined_links, joined_first}

pub step_more : (nx : List ℕ) (p k : ℕ) → step nx p (suc k) ≡ slice_index nx (step nx p k)
step_more nx p zero = refl
step_more nx p (suc k) = step_more nx (slice_index nx p) k

-- a write at y changes no path that does not leave y
step_set : (nx : List ℕ) (y x p k : ℕ) → ((m : ℕ) → m < k → step nx p m ≢ y) → step (slice_set nx y x) p k ≡ step nx p k
step_set nx y x p zero h = refl
step_set nx y x p (suc k) h =
    ap (λ (q : ℕ). step (slice_set nx y x) q k) (get_or-set_other nx y p x 0 (h 0 (omega arith)))
    ∙ step_set nx y x (slice_index nx p) k (λ m lt. h (suc m) (omega arith))

-- neither does a join, where the path does not leave the end of the chain
pub step_joined : (n : ℕ) (nx : List ℕ) (y x p k : ℕ) → ((m : ℕ) → m < k → 0 < n → step nx p m ≢ y) → step (joined_links n nx y x) p k ≡ step nx p k
step_joined zero nx y x p k h = refl
step_joined (suc n) nx y x p k h = step_set nx y x p k (λ m lt. h m lt (omega arith))

pub length_joined : (n : ℕ) (nx : List ℕ) (y x : ℕ) → length (joined_links n nx y x) ≡ length nx
length_joined zero nx y x = refl
length_joined (suc n) nx y x = length-set nx y x

-- n places from p on, none of them twice, the last of them y
pub record Row (nx : List ℕ) (p n y : ℕ) : Type 0 where
  pub ends : 0 < n → y ≡ step nx p (n - 1)
  pub once : (k m : ℕ) → k < n → m < n → step nx p k ≡ step nx p m → k ≡ m

last_of : (nx : List ℕ) (p n y : ℕ) → Row nx p (suc n) y → y ≡ step nx p n
last_of nx p n y w = let z : suc n - 1 ≡ n = omega arith in w.ends (omega arith) ∙ ap (λ (k : ℕ). step nx p k) z

-- its places after place x is joined to it: those that it had, and then x
pub joined_before : (n : ℕ) (nx : List ℕ) (y x p k : ℕ) → k < n → Row nx p n y → step (joined_links n nx y x) (joined_first n p x) k ≡ step nx p k
joined_before zero nx y x p k h w = absurd (omega arith)
joined_before (suc n) nx y x p k h w =
    step_set nx y x p k (λ m lt f. let z : m ≡ n = w.once m n (omega arith) (omega arith) (f ∙ last_of nx p n y w) in absurd (omega arith))

pub joined_last : (n : ℕ) (nx : List ℕ) (y x p : ℕ) → (0 < n → step nx p (n - 1) < length nx) → Row nx p n y → step (joined_links n nx y x) (joined_first n p x) n ≡ x
joined_last zero nx y x p l w = refl
joined_last (suc n) nx y x p l w =
    let lt : y < length nx = omega (arith, w.ends (omega arith), l (omega arith)) in
    step_more (slice_set nx y x) p n
    ∙ ap (λ (i : ℕ). slice_index (slice_set nx y x) i) (joined_before (suc n) nx y x p n (omega arith) w ∙ sym (last_of nx p n y w))
    ∙ get_or-set_same nx y x 0 lt
