-- Cheapest: what does the cheapest path cost?
use Rattle.std.specs.Prelude.{ℕ, min}
use Rattle.algebras.specs.declared.weights.Cost.{Cost}
use Rattle.algebras.specs.Invariants.{capped_fits}
use Rattle.algebras.specs.Numbers.{inf, capped_sum}
use Rattle.algebras.specs.Semirings.{Semiring}

-- a number as a cost, at most INF
abbrev pub cost_of : ℕ → Cost
cost_of c = record { value = min c inf; fits = capped_fits c }

-- the smaller cost over paths, and the capped sum along them
abbrev pub cheapest : Semiring Cost
cheapest = record {
  zero = cost_of inf;
  one = cost_of 0;
  plus = λ x y. cost_of (min x.value y.value);
  times = λ x y. cost_of (capped_sum x.value y.value);
  weight = cost_of;
}
