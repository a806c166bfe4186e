-- The cheapest paths, the first among them, and what the others cost.
use Rattle.std.specs.Prelude.{ℕ, min, Bool, true, false, cond, not, ◌&&◌, List, [], ◌∷◌, map, length, ℤ, Some, None, filter, Option, ◌==◌, nat_le}
use Rattle.model.specs.Trellises.{Diagram}
use Rattle.paths.specs.Paths.{Path, path_cost}
use Rattle.paths.specs.Listings.{admissible_paths}
use Rattle.paths.specs.Orders.{before}

-- c is at most each of a list of costs
abbrev pub at_most_each : ℕ → List ℕ → Bool
at_most_each c [] = true
at_most_each c (b ∷ bs) = nat_le c b && at_most_each c bs

-- the paths of a list that none of it is cheaper than
abbrev pub cheapest_of : (Path → ℕ) → List Path → List Path
cheapest_of cost ps = filter (λ p. at_most_each (cost p) (map cost ps)) ps

-- the first of a path and another, if there is another
abbrev pub first_of_two : Diagram → Path → Option Path → Path
first_of_two d p None = p
first_of_two d p (Some q) = cond (before d q p) q p

-- the first path of a list, in the order of paths
abbrev pub first_of : Diagram → List Path → Option Path
first_of d [] = None
first_of d (p ∷ ps) = Some (first_of_two d p (first_of d ps))

-- the same letters, one by one
abbrev pub same_letters : List ℕ → List ℕ → Bool
same_letters [] [] = true
same_letters [] (b ∷ v) = false
same_letters (a ∷ w) [] = false
same_letters (a ∷ w) (b ∷ v) = a == b && same_letters w v

-- the same first state and the same letters; else it is another path
abbrev pub same_path : Path → Path → Bool
same_path p q = p.first == q.first && same_letters p.letters q.letters

-- the lesser of a cost and another, if there is another
abbrev pub lesser : ℕ → Option ℕ → ℕ
lesser c None = c
lesser c (Some b) = min c b

-- the least of a list of costs, if there is one
abbrev pub least : List ℕ → Option ℕ
least [] = None
least (c ∷ cs) = Some (lesser c (least cs))

-- of all admissible paths on the samples xs:
module _ (d : Diagram) (cost : ℤ → ℤ → ℕ) (start end : Option ℕ) (xs : List ℤ) where
  -- what each costs
  abbrev pub all_costs : List ℕ
  all_costs = map (path_cost d cost xs) (admissible_paths d start end (length xs))

  -- the cheapest
  abbrev pub cheapest_paths : List Path
  cheapest_paths = cheapest_of (path_cost d cost xs) (admissible_paths d start end (length xs))

  -- how many they are
  abbrev pub ties : ℕ
  ties = length cheapest_paths

  -- the first of them in the order of paths, if there is one
  abbrev pub first_path : Option Path
  first_path = first_of d cheapest_paths

  -- the least cost among the others than p, if there is another
  abbrev pub second : Path → Option ℕ
  second p = least (map (path_cost d cost xs) (filter (λ q. not (same_path p q)) (admissible_paths d start end (length xs))))
