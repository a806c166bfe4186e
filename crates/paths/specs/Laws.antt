-- What is true of the order of paths, of their list, and of the first of the cheapest.
use Rattle.std.specs.Prelude.{◌≡◌, ℕ, ◌<◌, ◌≤◌, true, ◌⊎◌, List, [], length, ℤ, Some, None, Option, ◌≢◌}
use Rattle.std.specs.List.Sorted.{IsPermutation}
use Rattle.model.specs.Trellises.{Diagram, Lawful}
use Rattle.algebras.specs.Semirings.{Semiring}
use Rattle.paths.specs.Paths.{Path, PathOn, Admissible, path_cost, path_weight}
use Rattle.paths.specs.Lists.{In, NoRepeats}
use Rattle.paths.specs.Listings.{all_paths, admissible_paths}
use Rattle.paths.specs.Sums.{total}
use Rattle.paths.specs.Orders.{before}
use Rattle.paths.specs.Cheapest.{cheapest_paths, first_path, second}

-- ---- the order

-- of two paths on equally many samples that differ, one is before the other
abbrev pub TotalOrder : Type 0
TotalOrder = (d : Diagram) (n : ℕ) (p q : Path) → PathOn d n p → PathOn d n q → (p ≡ q) ⊎ ((before d p q ≡ true) ⊎ (before d q p ≡ true))

-- and not the other before the one, so that no path is before itself
abbrev pub OneWay : Type 0
OneWay = (d : Diagram) (p q : Path) → before d p q ≡ true → before d q p ≢ true

-- what is before a path is before all that this one is before
abbrev pub Transitive : Type 0
Transitive = (d : Diagram) (p q r : Path) → before d p q ≡ true → before d q r ≡ true → before d p r ≡ true

-- ---- the list of all paths

-- each path on n samples is listed, and nothing else
abbrev pub AllListed : Type 0
AllListed = (d : Diagram) → Lawful d → (n : ℕ) (p : Path) → (PathOn d n p → In p (all_paths d n)) × (In p (all_paths d n) → PathOn d n p)

-- and none is listed twice
abbrev pub ListedOnce : Type 0
ListedOnce = (d : Diagram) (n : ℕ) → NoRepeats (all_paths d n)

-- ps has each admissible path on n samples, nothing else, and nothing twice
pub record Lists (d : Diagram) (start end : Option ℕ) (n : ℕ) (ps : List Path) : Type 0 where
  pub each : (p : Path) → Admissible d start end n p → In p ps
  pub only : (p : Path) → In p ps → Admissible d start end n p
  pub once : NoRepeats ps

-- the admissible paths are such a list
abbrev pub AdmissibleListed : Type 0
AdmissibleListed = (d : Diagram) → Lawful d → (start end : Option ℕ) (n : ℕ) → Lists d start end n (admissible_paths d start end n)

-- where there is no admissible path, the list is empty
abbrev pub NoneListed : Type 0
NoneListed = (d : Diagram) → Lawful d → (start end : Option ℕ) (n : ℕ) → ((p : Path) → Admissible d start end n p → ⊥) → admissible_paths d start end n ≡ []

-- ---- the sum, whatever the order

-- sum is the sum of the weights of the admissible paths on the samples xs, in whatever order they are taken
abbrev pub AnyOrder : {W : Type 0} → Diagram → (ℤ → ℤ → ℕ) → Semiring W → Option ℕ → Option ℕ → List ℤ → W → Type 0
AnyOrder d cost r start end xs sum = (ps : List Path) → IsPermutation (admissible_paths d start end (length xs)) ps → sum ≡ total r (path_weight d cost r xs) ps

-- and that over any list which has each of them once
abbrev pub AnyList : {W : Type 0} → Diagram → (ℤ → ℤ → ℕ) → Semiring W → Option ℕ → Option ℕ → List ℤ → W → Type 0
AnyList d cost r start end xs sum = (ps : List Path) → Lists d start end (length xs) ps → sum ≡ total r (path_weight d cost r xs) ps

-- ---- the cheapest paths, and the first among them

-- p is cheaper than q, or equally cheap and before it
abbrev pub Ahead : Diagram → (ℤ → ℤ → ℕ) → List ℤ → Path → Path → Type 0
Ahead d cost xs p q = (path_cost d cost xs p < path_cost d cost xs q) ⊎ ((path_cost d cost xs p ≡ path_cost d cost xs q) × (before d p q ≡ true))

-- p is an admissible path, and ahead of every other
pub record First (d : Diagram) (cost : ℤ → ℤ → ℕ) (start end : Option ℕ) (xs : List ℤ) (p : Path) : Type 0 where
  pub path : Admissible d start end (length xs) p
  pub ahead : (q : Path) → Admissible d start end (length xs) q → (p ≢ q) → Ahead d cost xs p q

-- there is no admissible path on n samples
abbrev pub HasNoPath : Diagram → Option ℕ → Option ℕ → ℕ → Type 0
HasNoPath d start end n = (p : Path) → Admissible d start end n p → ⊥

-- what it means that the first path is found, or that none is
abbrev pub IsFirst : Diagram → (ℤ → ℤ → ℕ) → Option ℕ → Option ℕ → List ℤ → Option Path → Type 0
IsFirst d cost start end xs None = HasNoPath d start end (length xs)
IsFirst d cost start end xs (Some p) = First d cost start end xs p

-- the first path is ahead of every other, and where there is none, there is no admissible path
abbrev pub FirstFound : Type 0
FirstFound = (d : Diagram) → Lawful d → (cost : ℤ → ℤ → ℕ) (start end : Option ℕ) (xs : List ℤ) → IsFirst d cost start end xs (first_path d cost start end xs)

-- and no other path is ahead of every other
abbrev pub OneFirst : Type 0
OneFirst = (d : Diagram) (cost : ℤ → ℤ → ℕ) (start end : Option ℕ) (xs : List ℤ) (p q : Path) → First d cost start end xs p → First d cost start end xs q → p ≡ q

-- ps has each admissible path that no admissible one is cheaper than, nothing else, and nothing twice
pub record ListsCheapest (d : Diagram) (cost : ℤ → ℤ → ℕ) (start end : Option ℕ) (xs : List ℤ) (ps : List Path) : Type 0 where
  pub each : (p : Path) → Admissible d start end (length xs) p → ((q : Path) → Admissible d start end (length xs) q → path_cost d cost xs p ≤ path_cost d cost xs q) → In p ps
  pub only : (p : Path) → In p ps → Admissible d start end (length xs) p × ((q : Path) → Admissible d start end (length xs) q → path_cost d cost xs p ≤ path_cost d cost xs q)
  pub once : NoRepeats ps

-- the cheapest paths are such a list
abbrev pub CheapestListed : Type 0
CheapestListed = (d : Diagram) → Lawful d → (cost : ℤ → ℤ → ℕ) (start end : Option ℕ) (xs : List ℤ) → ListsCheapest d cost start end xs (cheapest_paths d cost start end xs)

-- the least cost of another path than p: such a path costs it, and none costs less; or there is no other
abbrev pub IsSecond : Diagram → (ℤ → ℤ → ℕ) → Option ℕ → Option ℕ → List ℤ → Path → Option ℕ → Type 0
IsSecond d cost start end xs p None = (q : Path) → Admissible d start end (length xs) q → (p ≢ q) → ⊥
IsSecond d cost start end xs p (Some c) =
    ((q : Path) × Admissible d start end (length xs) q × (p ≢ q) × (path_cost d cost xs q ≡ c))
    × ((q : Path) → Admissible d start end (length xs) q → (p ≢ q) → c ≤ path_cost d cost xs q)

-- and so it is found
abbrev pub SecondFound : Type 0
SecondFound = (d : Diagram) → Lawful d → (cost : ℤ → ℤ → ℕ) (start end : Option ℕ) (xs : List ℤ) (p : Path) → IsSecond d cost start end xs p (second d cost start end xs p)
