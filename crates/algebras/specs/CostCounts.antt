-- Cheapest with count: what does the cheapest path cost, and how many paths cost that?
use Rattle.std.specs.Prelude.{cond, ℕ, min, ltb}
use Rattle.algebras.specs.declared.weights.CostCount.{CostCount}
use Rattle.algebras.specs.Invariants.{capped_fits, count_fits, count_none}
use Rattle.algebras.specs.Numbers.{inf, capped_sum, count_sum, count_product, count_at}
use Rattle.algebras.specs.Semirings.{Semiring}

-- a cost, at most INF, with a count; INF has the count 0
abbrev pub cost_count : ℕ → ℕ → CostCount
cost_count c n = record { cost = min c inf; count = count_at c n; small = capped_fits c; fits = count_fits c n; none = count_none c n }

-- the one of the smaller cost; equal costs add their counts
abbrev pub cheaper : CostCount → CostCount → CostCount
cheaper x y = cond (ltb x.cost y.cost) x (cond (ltb y.cost x.cost) y (cost_count x.cost (count_sum x.count y.count)))

-- the cheaper over paths; along them costs add, capped, and counts multiply
abbrev pub cheapest_with_count : Semiring CostCount
cheapest_with_count = record {
  zero = cost_count inf 0;
  one = cost_count 0 1;
  plus = cheaper;
  times = λ x y. cost_count (capped_sum x.cost y.cost) (count_product x.count y.count);
  weight = λ c. cost_count c 1;
}
