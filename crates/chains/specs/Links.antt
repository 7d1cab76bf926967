-- Chains of places in a table. The link of a place is the number of the place behind it.
use Rattle.std.specs.Prelude.{◌≡◌, ℕ, zero, suc, ◌+◌, ◌-◌, ◌<◌, List, length, slice_index, slice_index_or, slice_set}
use Rattle.chains.specs.declared.chain.Chain.{Chain}

-- the place that comes k links behind place p
abbrev pub step : List ℕ → ℕ → ℕ → ℕ
step links p zero = p
step links p (suc k) = step links (slice_index links p) k

abbrev pub no_chain : Chain
no_chain = record { first = 0; last = 0; count = 0 }

abbrev pub chain_at : List Chain → ℕ → Chain
chain_at chains i = slice_index_or chains i no_chain

-- the k-th place of chain i, counted from 0
abbrev pub place_of : List ℕ → List Chain → ℕ → ℕ → ℕ
place_of links chains i k = step links (chain_at chains i).first k

-- every place of a chain is one of the table
abbrev pub Inside : List ℕ → List Chain → Type 0
Inside links chains = (i k : ℕ) → k < (chain_at chains i).count → place_of links chains i k < length links

-- no place is in two chains; p and q are each the number of a chain and of a place in it
abbrev pub Apart : List ℕ → List Chain → Type 0
Apart links chains =
    (p q : ℕ × ℕ) →
    (p.1 < (chain_at chains p.0).count)
    × (q.1 < (chain_at chains q.0).count)
    × (place_of links chains p.0 p.1 ≡ place_of links chains q.0 q.1) →
    p.0 ≡ q.0

-- no place is in a chain twice
abbrev pub Once : List ℕ → List Chain → Type 0
Once links chains =
    (i : ℕ) (q : ℕ × ℕ) →
    (q.0 < (chain_at chains i).count)
    × (q.1 < (chain_at chains i).count)
    × (place_of links chains i q.0 ≡ place_of links chains i q.1) →
    q.0 ≡ q.1

-- a chain knows its last place
abbrev pub Ends : List ℕ → List Chain → Type 0
Ends links chains = (i : ℕ) → 0 < (chain_at chains i).count → (chain_at chains i).last ≡ place_of links chains i ((chain_at chains i).count - 1)

-- a chain without its first place, where next is the place behind that
abbrev pub shorter : Chain → ℕ → Chain
shorter c next = record { first = next; last = c.last; count = c.count - 1 }

-- the first place of a chain of n places, the first of them p, to which place x is joined at the end
abbrev pub joined_first : ℕ → ℕ → ℕ → ℕ
joined_first zero p x = x
joined_first (suc n) p x = p

-- a chain with one place more at its end
abbrev pub longer : Chain → ℕ → Chain
longer c x = record { first = joined_first c.count c.first x; last = x; count = c.count + 1 }

-- the links after place x is joined to a chain of n places, the last of them y
abbrev pub joined_links : ℕ → List ℕ → ℕ → ℕ → List ℕ
joined_links zero links y x = links
joined_links (suc n) links y x = slice_set links y x

-- the links and the chains after the first place of chain f has moved to the end of chain t
abbrev pub moved_links : List ℕ → List Chain → ℕ → ℕ → List ℕ
moved_links links chains f t = joined_links (chain_at chains t).count links (chain_at chains t).last (chain_at chains f).first

abbrev pub moved_chains : List ℕ → List Chain → ℕ → ℕ → List Chain
moved_chains links chains f t =
    slice_set (slice_set chains f (shorter (chain_at chains f) (slice_index links (chain_at chains f).first))) t (longer (chain_at chains t) (chain_at chains f).first)
