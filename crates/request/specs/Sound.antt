-- What holds of every request that is accepted. Assumes nothing.
use Rattle.std.specs.Prelude.{◌≡◌, ℕ, ◌≤◌, ◌≢◌, List, [], ◌∷◌, map, length, Ok}
use Rattle.std.specs.List.{AllByRecursion}
use Rattle.request.specs.Answer.{answer_of}
use Rattle.request.specs.Request.{Wish}

-- no two are the same
abbrev pub Distinct : List ℕ → Type 0
Distinct [] = Unit {0}
Distinct (n ∷ ns) = AllByRecursion (λ m. m ≢ n) ns × Distinct ns

-- 1 to 0x7FFFFFFF
abbrev pub Positive : ℕ → Type 0
Positive n = (1 ≤ n) × (n ≤ 0x7FFFFFFF)

pub record Sound (w : Wish) : Type 0 where
  pub some : 1 ≤ length w.asked
  pub few : length w.asked ≤ 8
  pub ids : AllByRecursion (λ a. Positive a.id) w.asked
  pub lows : AllByRecursion (λ a. Positive a.lowest) w.asked
  pub distinct : Distinct (map (λ a. a.id) w.asked)
  pub id : Positive w.header.id

-- a request that is accepted asks for 1 to 8 subscriptions, none twice, each id and each lowest number an integer from 1 on
abbrev pub AcceptedIsSound : Type 0
AcceptedIsSound = (xs : List ℕ) (w : Wish) → answer_of xs ≡ Ok w → Sound w
