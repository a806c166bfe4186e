use Rattle.std.proofs.Common.{refl}
use Rattle.paths.specs.Sums.{path_sum}
use Rattle.paths.proofs.examples.examples_stand.Goals as goal

pub returns : goal.returns
unfolding path_sum
returns c = record {
  last_is = refl;
  labels_are = refl;
  costs = refl;
  no_last = refl;
  single = refl;
  single_permitted = refl;
  none_permitted = refl;
  no_such_start = refl;
  six = refl;
  from_to = refl;
  many = refl;
  lower_last = refl;
  lower_before = refl;
  lower_letter = refl;
  from_the_end = refl;
  not_back = refl;
  one_ties = refl;
  one_first = refl;
  one_second = refl;
  two_costs = refl;
  two_first = refl;
  three_costs = refl;
  three_ties = refl;
  three_first = refl;
  three_second = refl;
  no_other = refl;
  no_path = refl;
  no_ties = refl;
  is_some = refl;
  counted = refl;
  least_cost = refl;
  tied_cost = refl;
  tied_count = refl;
  first_cost = refl;
  second_cost = refl;
  is_none = refl;
  none_counted = refl;
  none_cost = refl;
}
