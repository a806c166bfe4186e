use Rattle.std.proofs.Common.{refl}
use lib.Count.{ones}
use Rattle.paths.specs.Sums.{path_sum}
use Rattle.channels.proofs.Single.{single_reported}
use Rattle.channels.proofs.channels_stand.Goals as goal

pub returns : goal.returns
unfolding ones path_sum
returns c = record {
  three_counted = refl;
  three_samples = record { path = refl; report = refl };
  two_samples = record { path = refl; report = refl };
  no_samples = record { path = refl; report = refl };
  one_erased = record { path = refl; report = refl };
  code_samples = record { path = refl; report = refl };
  limit_one = λ cost x. refl;
  limit_two = λ cost x y. refl;
  limit_three = single_reported;
  over_four = refl;
  over_two = refl;
  ccsds_one = refl;
}
