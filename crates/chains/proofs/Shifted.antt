-- What `shift` writes is what a move of a place is.
use Rattle.std.proofs.Common.{◌≡◌, ℕ, zero, suc, ◌+◌, ◌<◌, List, length, get_or, set, sym, ap, ◌∙◌, arith}
use Rattle.std.proofs.lemmas.List.{get_or-map, map-set}
use Rattle.chains.specs.declared.place.Place.{Place}
use Rattle.chains.specs.Links.{step, joined_links}
use Rattle.chains.specs.Held.{links_of}
use Rattle.chains.proofs.Steps.{step_more}

-- the link of a place, as `places[p].next` reads it
pub link_read : (ps : List Place) (p : ℕ) (d : Place) → p < length ps → (get_or ps p d).next ≡ get_or (links_of ps) p 0
link_read ps p d h = sym (get_or-map (λ (q : Place). q.next) ps p d 0 h)

-- one link further
pub step_read : (ps : List Place) (first k p : ℕ) (d : Place) → p < length ps → p ≡ step (links_of ps) first k → (get_or ps p d).next ≡ step (links_of ps) first (k + 1)
step_read ps first k p d h e =
    let z : k + 1 ≡ suc k = omega arith in
    link_read ps p d h ∙ ap (λ (q : ℕ). get_or (links_of ps) q 0) e ∙ sym (step_more (links_of ps) first k) ∙ ap (λ (k : ℕ). step (links_of ps) first k) (sym z)

-- the links after the last place of a chain of n places is written anew
pub joined_written : (ps : List Place) (n y : ℕ) (q : Place) → 0 < n → links_of (set ps y q) ≡ joined_links n (links_of ps) y q.next
joined_written ps zero y q h = absurd (omega arith)
joined_written ps (suc n) y q h = map-set (λ (q : Place). q.next) ps y q
