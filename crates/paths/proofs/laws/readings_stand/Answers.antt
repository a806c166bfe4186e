use Rattle.paths.proofs.Sayings.{boolean_says, counting_says, cheapest_says, cheapest_with_count_says, two_cheapest_says, first_says, first_says_below_inf}
use Rattle.paths.proofs.laws.readings_stand.Goals as goal

pub returns : goal.returns
returns c = record {
  boolean = boolean_says;
  counting = counting_says;
  cheapest = cheapest_says;
  cheapest_with_count = cheapest_with_count_says;
  two_cheapest = two_cheapest_says;
  first = first_says;
  first_below = first_says_below_inf;
}
