-- Chains that have just been made: all places are in the first chain, in a row.
use Rattle.std.proofs.Common.{◌≡◌, ℕ, zero, suc, ◌+◌, ◌-◌, ◌*◌, ◌<◌, ◌≤◌, List, [], ◌∷◌, length, get_or, replicate, sym, refl, ap, ◌∙◌, subst, arith}
use Rattle.std.proofs.lemmas.List.{get_or-map, length-map, length-replicate}
use Rattle.std.proofs.lemmas.List.FromFn.{length-map-range_with_len, get_or-map-range_with_len}
use Rattle.std.proofs.lemmas.List.Sums.{sum_by-cons}
use Rattle.std.proofs.lemmas.List.Folds.{sum_by-replicate}
use Rattle.notice.specs.declared.event.Notice.{Notice}
use Rattle.store.specs.Meaning.{in_use}
use Rattle.chains.specs.declared.chain.Chain.{Chain}
use Rattle.chains.specs.declared.place.Place.{Place}
use Rattle.chains.specs.Links.{step, chain_at, no_chain, place_of}
use Rattle.chains.specs.Held.{blank, fresh_places, links_of, notices_of, rows, chain_lists}
use Rattle.chains.proofs.Steps.{step_more}
use Rattle.chains.proofs.Counts.{sum}
use Rattle.chains.proofs.Stored.{Holds, lists_long}

fresh_long : (n : ℕ) → length (fresh_places n) ≡ n
fresh_long n = length-map-range_with_len (λ (i : ℕ). record { notice = blank; next = i }) 1 n

-- each of them is linked to the one after it
fresh_links : (n k : ℕ) → k < n → get_or (links_of (fresh_places n)) k 0 ≡ k + 1
fresh_links n k h =
    let place : ℕ → Place = λ i. record { notice = blank; next = i } in
    get_or-map (λ (p : Place). p.next) (fresh_places n) k (place 0) 0 (omega (arith, fresh_long n))
    ∙ ap (λ (p : Place). p.next) (get_or-map-range_with_len place 1 n k (k + 1) (place 0) h (omega arith))

none_at : (n i : ℕ) → get_or (replicate n no_chain) i no_chain ≡ no_chain
none_at zero i = refl
none_at (suc n) zero = refl
none_at (suc n) (suc i) = none_at n i

only_first : (f : Chain) (n i k : ℕ) → k < (chain_at (f ∷ replicate n no_chain) i).count → i ≡ 0
only_first f n zero k h = refl
only_first f n (suc i) k h = absurd (omega (arith, ap (λ (c : Chain). c.count) (none_at n i)))

in_row : (nx : List ℕ) (n k : ℕ) → ((k : ℕ) → k < n → get_or nx k 0 ≡ k + 1) → k < n → step nx 0 k ≡ k
in_row nx n zero h lt = refl
in_row nx n (suc k) h lt =
    let e : k + 1 ≡ suc k = omega arith in
    step_more nx 0 k ∙ ap (λ (p : ℕ). get_or nx p 0) (in_row nx n k h (omega arith)) ∙ h k (omega arith) ∙ e

none_sum : (n : ℕ) → sum (replicate n no_chain) ≡ 0
none_sum n = omega (arith, sum_by-replicate (λ (c : Chain). c.count) n no_chain)

none_rows : (nx : List ℕ) (ts : List Notice) (n : ℕ) → rows nx ts (replicate n no_chain) ≡ replicate n []
none_rows nx ts zero = refl
none_rows nx ts (suc n) = ap (λ (ls : List (List Notice)). [] ∷ ls) (none_rows nx ts n)

empty_in_use : (r n : ℕ) → in_use {X = Notice} r (replicate n []) ≡ 0
empty_in_use r n = let z : 0 - r ≡ 0 = omega arith in omega (arith, sum_by-replicate (λ (l : List Notice). length l - r) n [], ap (λ (m : ℕ). n * m) z)

pub fresh_lists : (ps : List Place) (cs : List Chain) (f : Chain) (n : ℕ) → cs ≡ f ∷ replicate n no_chain → chain_lists ps cs ≡ replicate n []
fresh_lists ps cs f n e = ap (λ (cs : List Chain). chain_lists ps cs) e ∙ none_rows (links_of ps) (notices_of ps) n

pub fresh_holds : (ps : List Place) (m : ℕ) (cs : List Chain) (k : ℕ) (f : Chain) (s r v n : ℕ) → f.first ≡ 0 → f.last ≡ n - 1 → f.count ≡ n → ps ≡ fresh_places n → m ≡ length ps →
    cs ≡ f ∷ replicate s no_chain → k ≡ length cs → n ≡ s * r + v → s ≤ 64 → r ≤ 9 → v ≤ 32 → Holds ps m cs k 0 r v
fresh_holds ps m cs k f s r v n ff fl fc ep em e ek en hs hr hv =
    let nx = links_of (fresh_places n) in
    let ds = f ∷ replicate s no_chain in
    let long : length ps ≡ n = ap length ep ∙ fresh_long n in
    let len : length nx ≡ n = length-map (fresh_places n) (λ (p : Place). p.next) ∙ fresh_long n in
    let kk : k ≡ s + 1 = omega (arith, ek, ap length e, length-replicate s no_chain) in
    let count : (i k : ℕ) → k < (chain_at ds i).count → k < n = λ i k lt. omega (arith, ap (λ (i : ℕ). (chain_at ds i).count) (only_first f s i k lt), fc) in
    let at : (i k : ℕ) → k < (chain_at ds i).count → place_of nx ds i k ≡ k =
    λ i k lt. ap (λ (i : ℕ). place_of nx ds i k) (only_first f s i k lt) ∙ ap (λ (p : ℕ). step nx p k) ff ∙ in_row nx n k (fresh_links n) (count i k lt) in
    let z : s + 1 - 1 ≡ s = omega arith in
    let same : m ≡ n = omega arith in
    subst (λ (cs : List Chain). Holds ps m cs k 0 r v) (sym e) (subst (λ (ps : List Place). Holds ps m ds k 0 r v) (sym ep) (record {
      inside = λ i k lt. omega (arith, at i k lt, count i k lt, len);
      apart = λ p q w. only_first f s p.0 p.1 w.0 ∙ sym (only_first f s q.0 q.1 w.1);
      once = λ i q w. sym (at i q.0 w.0) ∙ w.2 ∙ at i q.1 w.1;
      ends = λ i p.
          let b = ap (λ (i : ℕ). chain_at ds i) (only_first f s i 0 p) in
          let c : (chain_at ds i).count ≡ n = ap (λ (c : Chain). c.count) b ∙ fc in
          ap (λ (c : Chain). c.last) b ∙ fl ∙ ap (λ (k : ℕ). k - 1) (sym c) ∙ sym (at i ((chain_at ds i).count - 1) (omega arith));
      whole = omega (arith, sum_by-cons (λ (c : Chain). c.count) f (replicate s no_chain), none_sum s, fc, same);
      sized = same ∙ en ∙ ap (λ (k : ℕ). k * r + v) (sym (ap (λ (k : ℕ). k - 1) kk ∙ z));
      tally = sym (ap (λ (ls : List (List Notice)). in_use r ls) (fresh_lists (fresh_places n) ds f s refl) ∙ empty_in_use r s);
      within = omega arith;
      counted = omega (arith, lists_long (fresh_places n) ds, length-replicate s no_chain);
      few = omega arith;
      small = hr;
      scarce = hv;
    }))
