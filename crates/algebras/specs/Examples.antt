-- Worked sums and products.
use Rattle.std.specs.Prelude.{◌≡◌, true, false, ◌^◌, ◌-◌}
use Rattle.algebras.specs.Numbers.{inf}
use Rattle.algebras.specs.Semirings.{Semiring}
use Rattle.algebras.specs.Booleans.{boolean}
use Rattle.algebras.specs.Counts.{count_of, counting}
use Rattle.algebras.specs.Costs.{cost_of, cheapest}
use Rattle.algebras.specs.CostCounts.{cost_count, cheapest_with_count}
use Rattle.algebras.specs.TwoCosts.{pair, two_cheapest}

-- no path weighs another weight than a path without steps
abbrev pub Tells : {W : Type 0} → Semiring W → Type 0
Tells s = s.zero ≡ s.one → ⊥

pub record Examples : Type 0 where
  -- in each of the five the zero is not the one
  pub boolean_tells : Tells boolean
  pub counting_tells : Tells counting
  pub cheapest_tells : Tells cheapest
  pub cheapest_with_count_tells : Tells cheapest_with_count
  pub two_cheapest_tells : Tells two_cheapest
  -- boolean: a path beside none, and a path that goes on with none
  pub either : boolean.plus true false ≡ true
  pub neither : boolean.times true false ≡ false
  -- counting: 2 and 3 paths side by side and one after the other; counts wrap
  pub five : (counting.plus (count_of 2) (count_of 3)).value ≡ 5
  pub six : (counting.times (count_of 2) (count_of 3)).value ≡ 6
  pub wrapped_sum : (counting.plus (count_of (2 ^ 64 - 1)) (count_of 1)).value ≡ 0
  pub wrapped_product : (counting.times (count_of (2 ^ 32)) (count_of (2 ^ 32))).value ≡ 0
  pub counted_cost : (counting.weight 7).value ≡ 1
  -- cheapest: costs of 2 and 3; sums are capped, also below no path
  pub smaller : (cheapest.plus (cost_of 2) (cost_of 3)).value ≡ 2
  pub added : (cheapest.times (cost_of 2) (cost_of 3)).value ≡ 5
  pub capped : (cheapest.times (cost_of (2 ^ 64 - 2)) (cost_of 2)).value ≡ inf
  pub kept : (cheapest.weight 7).value ≡ 7
  -- cheapest with count: 3 paths of cost 2 beside 4 of cost 5, and beside 4 of cost 2
  pub cheaper_cost : (cheapest_with_count.plus (cost_count 2 3) (cost_count 5 4)).cost ≡ 2
  pub cheaper_count : (cheapest_with_count.plus (cost_count 2 3) (cost_count 5 4)).count ≡ 3
  pub dearer_count : (cheapest_with_count.plus (cost_count 5 4) (cost_count 2 3)).count ≡ 3
  pub tied_count : (cheapest_with_count.plus (cost_count 2 3) (cost_count 2 4)).count ≡ 7
  -- one after the other; a cost that is capped has no count
  pub joined_cost : (cheapest_with_count.times (cost_count 2 3) (cost_count 5 4)).cost ≡ 7
  pub joined_count : (cheapest_with_count.times (cost_count 2 3) (cost_count 5 4)).count ≡ 12
  pub capped_cost : (cheapest_with_count.times (cost_count (2 ^ 63) 3) (cost_count (2 ^ 63) 4)).cost ≡ inf
  pub capped_count : (cheapest_with_count.times (cost_count (2 ^ 63) 3) (cost_count (2 ^ 63) 4)).count ≡ 0
  -- a count that wraps to 0 leaves the cost
  pub wrapped_count : (cheapest_with_count.plus (cost_count 0 (2 ^ 63)) (cost_count 0 (2 ^ 63))).count ≡ 0
  pub wrapped_cost : (cheapest_with_count.plus (cost_count 0 (2 ^ 63)) (cost_count 0 (2 ^ 63))).cost ≡ 0
  -- two cheapest: equal costs are kept twice
  pub twice_first : (two_cheapest.plus (pair 1 inf) (pair 1 inf)).first ≡ 1
  pub twice_second : (two_cheapest.plus (pair 1 inf) (pair 1 inf)).second ≡ 1
  -- the two smallest of 1, 5, 2 and 3, and of the sums 3, 4, 7 and 8
  pub sum_first : (two_cheapest.plus (pair 1 5) (pair 2 3)).first ≡ 1
  pub sum_second : (two_cheapest.plus (pair 1 5) (pair 2 3)).second ≡ 2
  pub product_first : (two_cheapest.times (pair 1 5) (pair 2 3)).first ≡ 3
  pub product_second : (two_cheapest.times (pair 1 5) (pair 2 3)).second ≡ 4
  -- a single path after a single path, and a sum that is capped
  pub single_second : (two_cheapest.times (pair 1 inf) (pair 2 inf)).second ≡ inf
  pub capped_second : (two_cheapest.times (pair 1 (2 ^ 64 - 2)) (pair 2 inf)).second ≡ inf
