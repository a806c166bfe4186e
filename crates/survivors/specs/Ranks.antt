-- How the paths to a state compare, as the code holds it, and as weights of the two pair algebras.
use Rattle.std.specs.Prelude.{◌≡◌, ℕ, ◌+◌, ◌-◌, ◌*◌, ◌%◌, ◌^◌, ◌<◌, ◌≤◌, min, max, cond, List, length, map, drop, replicate, ℤ, Some, Option, nat_lt, slice_index_or}
use Rattle.model.specs.Ranges.{most_cost}
use Rattle.model.specs.Trellises.{Diagram, most_states}
use Rattle.algebras.specs.declared.weights.CostCount.{CostCount}
use Rattle.algebras.specs.declared.weights.TwoCosts.{TwoCosts}
use Rattle.algebras.specs.Numbers.{inf}
use Rattle.algebras.specs.Semirings.{Semiring}
use Rattle.algebras.specs.CostCounts.{cost_count, cheapest_with_count}
use Rattle.algebras.specs.TwoCosts.{pair, two_cheapest}
use Rattle.paths.specs.declared.branch.ListedBranch.{ListedBranch}
use Rattle.paths.specs.Paths.{permits}
use Rattle.paths.specs.Listings.{below}
use Rattle.paths.specs.Sums.{total, path_sum}
use Rattle.paths.specs.FlatRecursion.{branch_brings}
use Rattle.survivors.specs.declared.rank.Rank.{Rank}
use Rattle.survivors.specs.Survivors.{best_of}
use Rattle.survivors.specs.Reaches.{unreached, reached_at, KeptNumbers, CostedNumbers}

-- the number for no cost as the algebras have it
abbrev pub widened : ℕ → ℕ
widened v = cond (nat_lt v unreached) v inf

-- the least cost and how many cost that; the two least costs
abbrev pub tied : Rank → CostCount
tied a = cost_count (widened a.cost) a.count

abbrev pub two : Rank → TwoCosts
two a = pair (widened a.cost) (widened a.second)

-- no path
abbrev pub nowhere : Rank
nowhere = record { cost = unreached; count = 0; second = unreached; spare = 0 }

-- two as one, the second of them after a branch that costs w
abbrev pub joined_rank : Rank → Rank → ℕ → Rank
joined_rank a b w = record {
  cost = min a.cost (b.cost + w);
  count = (cond (nat_lt (b.cost + w) a.cost) 0 a.count + cond (nat_lt a.cost (b.cost + w)) 0 b.count) % 2 ^ 64;
  second = min (max a.cost (b.cost + w)) (min a.second (b.second + w));
  spare = a.spare;
}

-- in order, and with no cost above c
pub record Sound (c : ℕ) (a : Rank) : Type 0 where
  pub sorted : a.cost ≤ a.second
  pub capped : a.second ≤ unreached
  pub low_cost : a.cost < unreached → a.cost ≤ c
  pub low_second : a.second < unreached → a.second ≤ c

-- what stands past the end of a row
abbrev pub past : Rank
past = record { cost = 0; count = 0; second = 0; spare = 0 }

abbrev pub Sounds : ℕ → List Rank → Type 0
Sounds c row = (k : ℕ) → k < most_states → Sound c (slice_index_or row k past)

-- the costs of a row
abbrev pub costs_in : List Rank → List ℕ
costs_in row = map (λ a. a.cost) row

-- at each state the sum of what the branches of a list bring into it, as weights
abbrev pub Brought : {W : Type 0} → Semiring W → (Rank → W) → (ℤ → ℤ → ℕ) → ℤ → List Rank → List ListedBranch → List Rank → Type 0
Brought r g cost x from bs row = (t : ℕ) → t < most_states → g (slice_index_or row t past) ≡ total r (branch_brings cost r x (λ s. g (slice_index_or from s past)) t) bs

-- what one step leaves, if the branches of a list bring it from a row of ranks on the sample x: costs and bytes, and the two kinds of weights
pub record Advanced (cost : ℤ → ℤ → ℕ) (x : ℤ) (from : List Rank) (bs : List ListedBranch) (row : List Rank) (bytes : List ℕ) : Type 0 where
  pub kept : KeptNumbers most_states (best_of cost x (reached_at (costs_in from)) bs) (costs_in row) bytes
  pub tied : Brought cheapest_with_count tied cost x from bs row
  pub two : Brought two_cheapest two cost x from bs row
  pub sounds : (c : ℕ) → Sounds c from → Sounds (c + most_cost) row

-- before any sample
abbrev pub opening_rank : Option ℕ → ℕ → Rank
opening_rank start s = cond (permits start s) (record { cost = 0; count = 1; second = unreached; spare = 0 }) nowhere

-- the same for the first n states, and no path to what is past them
abbrev pub opening_below : ℕ → Option ℕ → ℕ → Rank
opening_below n start s = cond (nat_lt s n) (opening_rank start s) nowhere

-- a row has no path past its first n states
abbrev pub ClearPast : ℕ → List Rank → Type 0
ClearPast n row = drop n row ≡ replicate (most_states - n) nowhere

-- at each state the sum over the paths to it on the samples xs, as weights
abbrev pub Summed : {W : Type 0} → Semiring W → (Rank → W) → Diagram → (ℤ → ℤ → ℕ) → Option ℕ → List ℤ → List Rank → Type 0
Summed r g d cost start xs row = (s : ℕ) → s < d.states → g (slice_index_or row s past) ≡ path_sum d cost r start (Some s) xs

-- what a row of ranks says of the paths on the samples xs
pub record Ranked (d : Diagram) (cost : ℤ → ℤ → ℕ) (start : Option ℕ) (xs : List ℤ) (row : List Rank) : Type 0 where
  pub costs : CostedNumbers d cost start xs (costs_in row)
  pub tied : Summed cheapest_with_count tied d cost start xs row
  pub two : Summed two_cheapest two d cost start xs row
  pub sounds : Sounds (length xs * most_cost) row

-- over the first n states that an end permits, the sum of what a row has, as weights
abbrev pub gathered : {W : Type 0} → Semiring W → (Rank → W) → Option ℕ → List Rank → ℕ → W
gathered r g end row n = total r (λ s. cond (permits end s) (g (slice_index_or row s past)) r.zero) (below n)
