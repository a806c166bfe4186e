-- What the sum over all admissible paths says in the five algebras. A cost of INF or more reads as INF, as no path does.
use Rattle.std.specs.Prelude.{◌≡◌, ℕ, ◌*◌, ◌%◌, ◌^◌, ◌<◌, ◌≤◌, min, List, length, ℤ, Option, nat_lt}
use Rattle.std.specs.Option.{unwrap_or}
use Rattle.std.specs.List.{AllByRecursion}
use Rattle.model.specs.Ranges.{InRange, most_cost}
use Rattle.model.specs.Trellises.{Diagram, Lawful}
use Rattle.algebras.specs.Numbers.{inf}
use Rattle.algebras.specs.Booleans.{boolean}
use Rattle.algebras.specs.Counts.{count_of, counting}
use Rattle.algebras.specs.Costs.{cost_of, cheapest}
use Rattle.algebras.specs.CostCounts.{cost_count, cheapest_with_count}
use Rattle.algebras.specs.TwoCosts.{pair, two_smallest, two_cheapest}
use Rattle.paths.specs.Paths.{Path, PathOn, path_cost}
use Rattle.paths.specs.Listings.{admissible_paths}
use Rattle.paths.specs.Sums.{path_sum}
use Rattle.paths.specs.Cheapest.{least, all_costs, ties, second}
use Rattle.paths.specs.Laws.{First}

-- what holds for every trellis, measure, start, end and samples
abbrev pub OnAll : (Diagram → (ℤ → ℤ → ℕ) → Option ℕ → Option ℕ → List ℤ → Type 0) → Type 0
OnAll P = (d : Diagram) (cost : ℤ → ℤ → ℕ) (start end : Option ℕ) (xs : List ℤ) → P d cost start end xs

-- boolean: whether there is an admissible path
abbrev pub BooleanSays : Type 0
BooleanSays = OnAll (λ d cost start end xs. path_sum d cost boolean start end xs ≡ nat_lt 0 (length (admissible_paths d start end (length xs))))

-- counting: how many there are, modulo 2 ^ 64
abbrev pub CountingSays : Type 0
CountingSays = OnAll (λ d cost start end xs. path_sum d cost counting start end xs ≡ count_of (length (admissible_paths d start end (length xs))))

-- cheapest: the least of their costs
abbrev pub CheapestSays : Type 0
CheapestSays = OnAll (λ d cost start end xs. path_sum d cost cheapest start end xs ≡ cost_of (unwrap_or (least (all_costs d cost start end xs)) inf))

-- cheapest with count: the least of their costs, and how many of them cost that, modulo 2 ^ 64
abbrev pub CheapestWithCountSays : Type 0
CheapestWithCountSays = OnAll (λ d cost start end xs. path_sum d cost cheapest_with_count start end xs ≡ cost_count (unwrap_or (least (all_costs d cost start end xs)) inf) (ties d cost start end xs))

-- two cheapest: the two least of their costs, equal ones kept
abbrev pub TwoCheapestSays : Type 0
TwoCheapestSays = OnAll (λ d cost start end xs. path_sum d cost two_cheapest start end xs ≡ two_smallest (all_costs d cost start end xs))

-- ---- by the first path

-- the sums in the two pair algebras where the first path is p
pub record SaysOfFirst (d : Diagram) (cost : ℤ → ℤ → ℕ) (start end : Option ℕ) (xs : List ℤ) (p : Path) : Type 0 where
  -- what it costs, and how many cost that
  pub tied : path_sum d cost cheapest_with_count start end xs ≡ cost_count (path_cost d cost xs p) (ties d cost start end xs)
  -- what it costs, and the least that another one costs
  pub two : path_sum d cost two_cheapest start end xs ≡ pair (path_cost d cost xs p) (unwrap_or (second d cost start end xs p) inf)

abbrev pub FirstSays : Type 0
FirstSays = (d : Diagram) → Lawful d → (cost : ℤ → ℤ → ℕ) (start end : Option ℕ) (xs : List ℤ) (p : Path) → First d cost start end xs p → SaysOfFirst d cost start end xs p

-- the same in numbers, where the first path costs less than INF
pub record SaysBelowInf (d : Diagram) (cost : ℤ → ℤ → ℕ) (start end : Option ℕ) (xs : List ℤ) (p : Path) : Type 0 where
  pub tied_cost : (path_sum d cost cheapest_with_count start end xs).cost ≡ path_cost d cost xs p
  pub tied_count : (path_sum d cost cheapest_with_count start end xs).count ≡ ties d cost start end xs % 2 ^ 64
  pub first_cost : (path_sum d cost two_cheapest start end xs).first ≡ path_cost d cost xs p
  -- INF where there is no other, or each other costs INF or more
  pub second_cost : (path_sum d cost two_cheapest start end xs).second ≡ min (unwrap_or (second d cost start end xs p) inf) inf

abbrev pub FirstSaysBelowInf : Type 0
FirstSaysBelowInf = (d : Diagram) → Lawful d → (cost : ℤ → ℤ → ℕ) (start end : Option ℕ) (xs : List ℤ) (p : Path) → First d cost start end xs p → path_cost d cost xs p < inf → SaysBelowInf d cost start end xs p

-- ---- how much a path can cost

-- on n samples in range, n times the most that a label costs against a sample
abbrev pub CostsBounded : Type 0
CostsBounded = (d : Diagram) → Lawful d → (cost : ℤ → ℤ → ℕ) → ((label sample : ℤ) → InRange label → InRange sample → cost label sample ≤ most_cost) → (xs : List ℤ) → AllByRecursion InRange xs → (p : Path) → PathOn d (length xs) p → path_cost d cost xs p ≤ length xs * most_cost
