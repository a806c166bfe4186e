use Rattle.paths.proofs.Firsts.{first_found, one_first, cheapest_listed, second_found}
use Rattle.paths.proofs.Sayings.{costs_bounded}
use Rattle.paths.proofs.laws.cheapest_stand.Goals as goal

pub returns : goal.returns
returns c = record { first = first_found; one = one_first; cheapest = cheapest_listed; second = second_found; bounded = costs_bounded }
