use Rattle.paths.proofs.Listing.{all_listed, listed_once, admissible_listed, none_listed}
use Rattle.paths.proofs.laws.listing_stands.Goals as goal

pub returns : goal.returns
returns c = record { all = all_listed; once = listed_once; admissible = admissible_listed; none = none_listed }
