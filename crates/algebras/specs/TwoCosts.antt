-- Two cheapest: what do the two cheapest paths cost?
use Rattle.std.specs.Prelude.{List, [], ◌∷◌, ℕ, min, max}
use Rattle.std.proofs.Common.{lit≤}
use Rattle.algebras.specs.declared.weights.TwoCosts.{TwoCosts}
use Rattle.algebras.specs.Invariants.{second_fits, second_above}
use Rattle.algebras.specs.Numbers.{inf, capped_sum}
use Rattle.algebras.specs.Semirings.{Semiring}

-- the two smallest of two costs and one more
abbrev pub with_cost : ℕ → TwoCosts → TwoCosts
with_cost c w = record { first = min c w.first; second = min (max c w.first) w.second; fits = second_fits c w; sorted = second_above c w }

-- the two smallest of a list of costs, equal ones kept, with INF where there are fewer
abbrev pub two_smallest : List ℕ → TwoCosts
two_smallest [] = record { first = inf; second = inf; fits = lit≤ tt; sorted = lit≤ tt }
two_smallest (c ∷ cs) = with_cost c (two_smallest cs)

-- two costs, the smaller first
abbrev pub pair : ℕ → ℕ → TwoCosts
pair a b = two_smallest (a ∷ b ∷ [])

-- the two smallest of the four over paths, and of the four capped sums along them
abbrev pub two_cheapest : Semiring TwoCosts
two_cheapest = record {
  zero = pair inf inf;
  one = pair 0 inf;
  plus = λ x y. two_smallest (x.first ∷ x.second ∷ y.first ∷ y.second ∷ []);
  times = λ x y. two_smallest (capped_sum x.first y.first ∷ capped_sum x.first y.second ∷ capped_sum x.second y.first ∷ capped_sum x.second y.second ∷ []);
  weight = λ c. pair c inf;
}
