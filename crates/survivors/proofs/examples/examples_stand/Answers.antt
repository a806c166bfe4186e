use Rattle.std.proofs.Common.{refl}
use Rattle.survivors.proofs.examples.examples_stand.Goals as goal

pub returns : goal.returns
returns c = record {
  bytes = refl;
  place_is = refl;
  byte_is = refl;
  one_0 = refl;
  one_1 = refl;
  one_2 = refl;
  one_costs = refl;
  one_none = refl;
  two_0 = refl;
  two_1 = refl;
  two_2 = refl;
  three_1 = refl;
  three_cost = refl;
  three_back = refl;
}
