-- Rows of costs as plain numbers, one of which stands for none.
use Rattle.std.specs.Prelude.{◌≡◌, ℕ, ◌^◌, ◌<◌, ◌≤◌, cond, List, ℤ, Some, None, Option, nat_lt, slice_index}
use Rattle.model.specs.Trellises.{Diagram}
use Rattle.survivors.specs.Choices.{Costs}
use Rattle.survivors.specs.Survivors.{cost_in, byte_in}

-- the number that stands for no cost, above what any path costs
abbrev pub unreached : ℕ
unreached = 2 ^ 62

-- the cost that a number stands for
abbrev pub as_cost : ℕ → Option ℕ
as_cost v = cond (nat_lt v unreached) (Some v) None

-- what a row of such numbers has for a state
abbrev pub reached_at : List ℕ → ℕ → Option ℕ
reached_at row s = as_cost (slice_index row s)

-- the first n costs and all bytes are those of f
pub record KeptNumbers (n : ℕ) (f : ℕ → Option (ℕ × ℕ)) (row bytes : List ℕ) : Type 0 where
  pub cost : (k : ℕ) → k < n → reached_at row k ≡ cost_in (f k)
  pub byte : (k : ℕ) → slice_index bytes k ≡ byte_in (f k)

-- no number in the first n places of the row is above that for no cost
abbrev pub Capped : ℕ → List ℕ → Type 0
Capped n row = (k : ℕ) → k < n → slice_index row k ≤ unreached

-- the costs after the samples xs
abbrev pub CostedNumbers : Diagram → (ℤ → ℤ → ℕ) → Option ℕ → List ℤ → List ℕ → Type 0
CostedNumbers d cost start xs row = (s : ℕ) → s < d.states → Costs d cost start xs s (reached_at row s)
