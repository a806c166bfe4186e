-- What is true of the first of the cheapest paths, step by step.
use Rattle.std.specs.Prelude.{◌≡◌, ℕ, zero, suc, ◌/◌, ◌%◌, ◌<◌, ◌≤◌, true, ◌⊎◌, List, [], ◌∷◌, ◌++◌, length, take, ℤ, Some, Option}
use Rattle.model.specs.Trellises.{Diagram, Lawful, most_letters}
use Rattle.paths.specs.Paths.{Path, reached, permits, path_cost}
use Rattle.paths.specs.Laws.{First}
use Rattle.survivors.specs.Choices.{TableOf, byte_at}

-- a path, and one letter more
abbrev pub push : Path → ℕ → Path
push p a = record { first = p.first; letters = p.letters ++ a ∷ [] }

-- without its last letter, the first of the cheapest paths is the first of the cheapest to the state before its last branch, on the samples but the last
abbrev pub Substructure : Type 0
Substructure = (d : Diagram) → Lawful d → (cost : ℤ → ℤ → ℕ) (start : Option ℕ) (xs : List ℤ) (x : ℤ) (t a : ℕ) (p : Path) →
    First d cost start (Some t) (xs ++ x ∷ []) (push p a) → (s : ℕ) × (reached d p.first p.letters ≡ Some s) × First d cost start (Some s) xs p

-- where the bytes of a table lead from the state t, k steps back: the first state
abbrev pub first_back : (ℕ → ℕ → ℕ) → ℕ → ℕ → ℕ
first_back bytes zero t = t
first_back bytes (suc k) t = first_back bytes k (bytes k t / most_letters)

-- and the letters on the way
abbrev pub letters_back : (ℕ → ℕ → ℕ) → ℕ → ℕ → List ℕ
letters_back bytes zero t = []
letters_back bytes (suc k) t = letters_back bytes k (bytes k t / most_letters) ++ bytes k t % most_letters ∷ []

-- the path that the bytes of a table lead back to from the state t, over k steps
abbrev pub path_back : List ℕ → ℕ → ℕ → Path
path_back table k t = record { first = first_back (byte_at table) k t; letters = letters_back (byte_at table) k t }

-- that is the first of the cheapest paths to t, where there is one
abbrev pub LeadsBack : Type 0
LeadsBack = (d : Diagram) → Lawful d → (cost : ℤ → ℤ → ℕ) (start : Option ℕ) (xs : List ℤ) (table : List ℕ) → TableOf d cost start xs table →
    (k : ℕ) → k ≤ length xs → (t : ℕ) (p : Path) → First d cost start (Some t) (take k xs) p → path_back table k t ≡ p

-- one table at most is filled from a trellis, a measure, a start and samples
abbrev pub OneTable : Type 0
OneTable = (d : Diagram) (cost : ℤ → ℤ → ℕ) (start : Option ℕ) (xs : List ℤ) (table other : List ℕ) → TableOf d cost start xs table → TableOf d cost start xs other → table ≡ other

-- of the first paths to each permitted end, the cheapest one, with the lowest last state among equals, is the first over all permitted ends
abbrev pub OverEnds : Type 0
OverEnds = (d : Diagram) → Lawful d → (cost : ℤ → ℤ → ℕ) (start end : Option ℕ) (xs : List ℤ) (t : ℕ) (p : Path) → First d cost start (Some t) xs p → permits end t ≡ true →
    ((u : ℕ) (q : Path) → permits end u ≡ true → First d cost start (Some u) xs q → (path_cost d cost xs p < path_cost d cost xs q) ⊎ ((path_cost d cost xs p ≡ path_cost d cost xs q) × (t ≤ u))) →
    First d cost start end xs p
