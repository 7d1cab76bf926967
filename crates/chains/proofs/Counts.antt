-- How many places chains have: a move keeps the sum, and where a slot has room, a place is free.
use Rattle.std.specs.Prelude.{◌≡◌, ℕ, zero, suc, ◌+◌, ◌-◌, ◌*◌, ◌<◌, ◌≤◌, List, [], ◌∷◌, length, drop, sum_by, slice_index, slice_index_or, slice_set, refl}
use Rattle.std.proofs.Common.{sym, ap, ◌∙◌, arith, add-mul, one-mul}
use Rattle.std.proofs.lemmas.List.{get_or-set_other, length-set, drop-map}
use Rattle.std.proofs.lemmas.List.Sums.{sum_by-set, sum_by-cons, get_or-le-sum_by}
use Rattle.notice.specs.declared.event.Notice.{Notice}
use Rattle.store.specs.Meaning.{in_use}
use Rattle.chains.specs.declared.chain.Chain.{Chain}
use Rattle.chains.specs.Links.{chain_at, no_chain, shorter, longer, moved_chains}
use Rattle.chains.specs.Held.{walk, rows}
use Rattle.chains.proofs.Moved.{Ready}
use Rattle.chains.proofs.Walks.{walk_long}

-- the number of all places
abbrev pub sum : List Chain → ℕ
sum cs = sum_by (λ (c : Chain). c.count) cs

-- the number of places above r, chain by chain
abbrev pub above : ℕ → List Chain → ℕ
above r cs = sum_by (λ (c : Chain). c.count - r) cs

pub moved_sum : (nx : List ℕ) (cs : List Chain) (f t : ℕ) → Ready nx cs f t → (sum (moved_chains nx cs f t) ≡ sum cs) × ((chain_at cs t).count + 1 ≤ sum cs)
moved_sum nx cs f t r =
    let a = shorter (chain_at cs f) (slice_index nx (chain_at cs f).first) in
    let b = longer (chain_at cs t) (chain_at cs f).first in
    let ds = slice_set cs f a in
    let l = length-set cs f a in
    let s = sum_by-set (λ (c : Chain). c.count) cs f a no_chain r.from_in in
    let u = sum_by-set (λ (c : Chain). c.count) ds t b no_chain (omega (arith, l, r.to_in)) in
    let o = ap (λ (c : Chain). c.count) (get_or-set_other cs f t a no_chain (λ e. r.differ (sym e))) in
    let g = get_or-le-sum_by (λ (c : Chain). c.count) ds t no_chain (omega (arith, l, r.to_in)) in
    (omega (arith, s, u, o, r.some), omega (arith, s, g, o, r.some))

in_use_rows : (r : ℕ) (nx : List ℕ) (ts : List Notice) (cs : List Chain) → in_use r (rows nx ts cs) ≡ above r cs
in_use_rows r nx ts [] = refl
in_use_rows r nx ts (c ∷ cs) =
    let a = sum_by-cons (λ (l : List Notice). length l - r) (walk nx ts c.first c.count) (rows nx ts cs) in
    let b = sum_by-cons (λ (c : Chain). c.count - r) c cs in
    omega (arith, a, b, in_use_rows r nx ts cs, walk_long nx ts c.first c.count)

pub in_use_lists : (r : ℕ) (nx : List ℕ) (ts : List Notice) (cs : List Chain) → in_use r (drop 1 (rows nx ts cs)) ≡ above r (drop 1 cs)
in_use_lists r nx ts cs =
    ap (λ (ls : List (List Notice)). in_use r ls) (drop-map (λ (c : Chain). walk nx ts c.first c.count) 1 cs) ∙ in_use_rows r nx ts (drop 1 cs)

suc_times : (n r : ℕ) → suc n * r ≡ n * r + r
suc_times n r = let z : suc n ≡ n + 1 = omega arith in ap (λ (m : ℕ). m * r) z ∙ add-mul n 1 r ∙ ap (λ (m : ℕ). n * r + m) (one-mul r)

sum_most : (r : ℕ) (ds : List Chain) → sum ds ≤ length ds * r + above r ds
sum_most r [] = omega arith
sum_most r (d ∷ ds) = omega (arith, sum_by-cons (λ (c : Chain). c.count) d ds, sum_by-cons (λ (c : Chain). c.count - r) d ds, suc_times (length ds) r, sum_most r ds)

-- a chain that is short of r leaves that much
sum_short : (r : ℕ) (ds : List Chain) (i : ℕ) → i < length ds → sum ds + (r - (slice_index_or ds i no_chain).count) ≤ length ds * r + above r ds
sum_short r [] i h = absurd (omega arith)
sum_short r (d ∷ ds) zero h = omega (arith, sum_by-cons (λ (c : Chain). c.count) d ds, sum_by-cons (λ (c : Chain). c.count - r) d ds, suc_times (length ds) r, sum_most r ds)
sum_short r (d ∷ ds) (suc i) h =
    omega (arith, sum_by-cons (λ (c : Chain). c.count) d ds, sum_by-cons (λ (c : Chain). c.count - r) d ds, suc_times (length ds) r, sum_short r ds i (omega arith))

pub free_some : (r v n : ℕ) (cs : List Chain) (i : ℕ) → suc i < length cs → sum cs ≡ n → n ≡ (length cs - 1) * r + v → above r (drop 1 cs) < v + (r - (chain_at cs (suc i)).count) → 0 < (chain_at cs 0).count
free_some r v n [] i h w z u = absurd (omega arith)
free_some r v n (c ∷ cs) i h w z u =
    let o : suc (length cs) - 1 ≡ length cs = omega arith in
    omega (arith, ap (λ (m : ℕ). m * r) o, sum_by-cons (λ (c : Chain). c.count) c cs, sum_short r cs i (omega arith))
