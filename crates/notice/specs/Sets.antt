-- Sets of kinds, as numbers. Assumes nothing.
use Rattle.std.specs.Prelude.{◌≡◌, ℕ, ◌+◌, ◌-◌, ◌/◌, ◌%◌, ◌^◌, ◌<◌, Bool, false, cond, ◌&&◌, ◌||◌, List, [], ◌∷◌, Some, None, Option, ◌==◌, nat_le}
use Rattle.notice.specs.declared.kinds.Kind.{Kind}
use Rattle.notice.specs.declared.sets.KindSet.{KindSet}
use Rattle.notice.specs.Kinds.{kind_number, all_kinds, kind_broader}

-- a set is a number from 1 to 255
abbrev pub set_of_number : ℕ → Option KindSet
set_of_number n = cond (nat_le 1 n && nat_le n 255) (Some (record { bits = n })) None

abbrev pub kind_worth : Kind → ℕ
kind_worth k = 2 ^ (kind_number k - 1)

abbrev pub in_set : ℕ → Kind → Bool
in_set n k = n / kind_worth k % 2 == 1

abbrev pub some_in : ℕ → List Kind → Bool
some_in n [] = false
some_in n (k ∷ ks) = in_set n k || some_in n ks

-- the kind under which an event of this kind is told: the kind itself, or else the broader one
abbrev pub broader_in : ℕ → Option Kind → Option Kind
broader_in n None = None
broader_in n (Some b) = cond (in_set n b) (Some b) None

abbrev pub subscribed_in : ℕ → Kind → Option Kind
subscribed_in n k = cond (in_set n k) (Some k) (broader_in n (kind_broader k))

abbrev pub worths_in : ℕ → List Kind → ℕ
worths_in n [] = 0
worths_in n (k ∷ ks) = cond (in_set n k) (kind_worth k) 0 + worths_in n ks

-- the number of a set is the sum of the worths of its kinds
abbrev pub WorthsAddUp : Type 0
WorthsAddUp = (n : ℕ) → n < 256 → worths_in n all_kinds ≡ n
