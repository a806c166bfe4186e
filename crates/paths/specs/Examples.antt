-- Worked examples, on a trellis of three states and three letters.
use Rattle.std.specs.Prelude.{◌≡◌, ℕ, true, false, List, [], ◌∷◌, length, ℤ, pos, negsuc, ◌-ℤ◌, Some, None, slice_index_or, unsigned_abs}
use Rattle.model.specs.Trellises.{Branch, Diagram}
use Rattle.algebras.specs.Booleans.{boolean}
use Rattle.algebras.specs.Counts.{counting}
use Rattle.algebras.specs.Costs.{cheapest}
use Rattle.algebras.specs.CostCounts.{cheapest_with_count}
use Rattle.algebras.specs.TwoCosts.{two_cheapest}
use Rattle.algebras.specs.Numbers.{inf}
use Rattle.paths.specs.Paths.{Path, last_state, labels, path_cost}
use Rattle.paths.specs.Listings.{all_paths, admissible_paths}
use Rattle.paths.specs.Sums.{path_sum}
use Rattle.paths.specs.Orders.{before}
use Rattle.paths.specs.Cheapest.{all_costs, ties, first_path, second}

-- the branches of each state, by letter: into 0 from 0 by 1 and from 1 by 0, and from 2 into 1 by two letters
abbrev pub branches : List (List Branch)
branches =
    (Some (1, pos 1) ∷ Some (0, pos 1) ∷ None ∷ [])
    ∷ (Some (0, pos 1) ∷ Some (2, negsuc 0) ∷ None ∷ [])
    ∷ (None ∷ Some (1, pos 2) ∷ Some (1, pos 2) ∷ [])
    ∷ []

abbrev pub small : Diagram
small = record { states = 3; letters = 3; branch = λ s a. slice_index_or (slice_index_or branches s []) a None }

-- how far apart a label and a sample are
abbrev pub apart : ℤ → ℤ → ℕ
apart label sample = unsigned_abs (label -ℤ sample)

abbrev path : ℕ → List ℕ → Path
path s w = record { first = s; letters = w }

abbrev one : List ℤ
one = pos 1 ∷ []

abbrev ones : List ℤ
ones = pos 1 ∷ pos 1 ∷ []

abbrev three : List ℤ
three = pos 1 ∷ pos 0 ∷ pos 2 ∷ []

pub record Examples : Type 0 where
  -- from 0 by 0, 1 and 1: to 1, 2 and 1
  pub last_is : last_state small (path 0 (0 ∷ 1 ∷ 1 ∷ [])) ≡ Some 1
  pub labels_are : labels small 0 (0 ∷ 1 ∷ 1 ∷ []) ≡ pos 1 ∷ negsuc 0 ∷ pos 2 ∷ []
  pub costs : path_cost small apart three (path 0 (0 ∷ 1 ∷ 1 ∷ [])) ≡ 1
  -- letter 2 has no branch in 0
  pub no_last : last_state small (path 0 (2 ∷ [])) ≡ None
  -- no samples: the paths are the single states
  pub single : all_paths small 0 ≡ path 0 [] ∷ path 1 [] ∷ path 2 [] ∷ []
  pub single_permitted : admissible_paths small (Some 1) None 0 ≡ path 1 [] ∷ []
  pub none_permitted : admissible_paths small (Some 0) (Some 1) 0 ≡ []
  pub no_such_start : admissible_paths small (Some 3) None 1 ≡ []
  -- one sample, and three
  pub six : all_paths small 1 ≡ path 0 (0 ∷ []) ∷ path 0 (1 ∷ []) ∷ path 1 (0 ∷ []) ∷ path 1 (1 ∷ []) ∷ path 2 (1 ∷ []) ∷ path 2 (2 ∷ []) ∷ []
  pub from_to : admissible_paths small None (Some 0) 1 ≡ path 0 (1 ∷ []) ∷ path 1 (0 ∷ []) ∷ []
  pub many : length (all_paths small 3) ≡ 24
  -- the order: the lower last state, the lower state before it though by the higher letter, then the lower letter
  pub lower_last : before small (path 1 (0 ∷ [])) (path 0 (0 ∷ [])) ≡ true
  pub lower_before : before small (path 0 (1 ∷ [])) (path 1 (0 ∷ [])) ≡ true
  pub lower_letter : before small (path 2 (1 ∷ [])) (path 2 (2 ∷ [])) ≡ true
  -- it is decided from the ends: through 0 to 0 comes before through 1 to 0, though its first letter is higher
  pub from_the_end : before small (path 0 (1 ∷ 1 ∷ [])) (path 0 (0 ∷ 0 ∷ [])) ≡ true
  pub not_back : before small (path 0 (0 ∷ 0 ∷ [])) (path 0 (1 ∷ 1 ∷ [])) ≡ false
  -- the cheapest on one sample: three cost nothing
  pub one_ties : ties small apart None None one ≡ 3
  pub one_first : first_path small apart None None one ≡ Some (path 0 (1 ∷ []))
  pub one_second : second small apart None None one (path 0 (1 ∷ [])) ≡ Some 0
  -- from 0 to 0 on two samples: two that cost nothing
  pub two_costs : all_costs small apart (Some 0) (Some 0) ones ≡ 0 ∷ 0 ∷ []
  pub two_first : first_path small apart (Some 0) (Some 0) ones ≡ Some (path 0 (1 ∷ 1 ∷ []))
  -- from 0 on three samples
  pub three_costs : all_costs small apart (Some 0) None three ≡ 2 ∷ 2 ∷ 1 ∷ 1 ∷ 2 ∷ 4 ∷ 2 ∷ 2 ∷ []
  pub three_ties : ties small apart (Some 0) None three ≡ 2
  pub three_first : first_path small apart (Some 0) None three ≡ Some (path 0 (0 ∷ 1 ∷ 1 ∷ []))
  pub three_second : second small apart (Some 0) None three (path 0 (0 ∷ 1 ∷ 1 ∷ [])) ≡ Some 1
  -- a single path has no other, and where there is none, none is first
  pub no_other : second small apart (Some 0) None [] (path 0 []) ≡ None
  pub no_path : first_path small apart (Some 1) (Some 1) one ≡ None
  pub no_ties : ties small apart (Some 1) (Some 1) one ≡ 0
  -- the sums in the five algebras, over eight paths and over none
  pub is_some : path_sum small apart boolean (Some 0) None three ≡ true
  pub counted : (path_sum small apart counting (Some 0) None three).value ≡ 8
  pub least_cost : (path_sum small apart cheapest (Some 0) None three).value ≡ 1
  pub tied_cost : (path_sum small apart cheapest_with_count (Some 0) None three).cost ≡ 1
  pub tied_count : (path_sum small apart cheapest_with_count (Some 0) None three).count ≡ 2
  pub first_cost : (path_sum small apart two_cheapest (Some 0) None three).first ≡ 1
  pub second_cost : (path_sum small apart two_cheapest (Some 0) None three).second ≡ 1
  pub is_none : path_sum small apart boolean (Some 1) (Some 1) one ≡ false
  pub none_counted : (path_sum small apart counting (Some 1) (Some 1) one).value ≡ 0
  pub none_cost : (path_sum small apart cheapest (Some 1) (Some 1) one).value ≡ inf
