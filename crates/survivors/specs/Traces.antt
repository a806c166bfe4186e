-- What the way back through a table answers, and where the first path over all permitted ends ends.
use Rattle.std.specs.Prelude.{◌≡◌, ℕ, ◌%◌, ◌^◌, Bool, cond, ◌&&◌, List, length, ℤ, Some, None, Option, nat_le, nat_lt}
use Rattle.model.specs.Trellises.{Diagram, Lawful, most_states}
use Rattle.paths.specs.Paths.{Path, path_cost}
use Rattle.paths.specs.Cheapest.{ties, second}
use Rattle.paths.specs.Laws.{First, HasNoPath}
use Rattle.survivors.specs.Choices.{most_samples, TableOf, CostsOf}
use Rattle.survivors.specs.Laws.{path_back}
use Rattle.survivors.specs.declared.ending.Ending.{Ending}
use Rattle.survivors.specs.declared.standing.Standing.{Standing}

-- a table has this state and so many steps
abbrev pub in_table : ℕ → ℕ → Bool
in_table n last = nat_lt last most_states && nat_le n most_samples

-- the first state that the bytes of a table lead back to, n steps from the state last
abbrev pub traced_first : List ℕ → ℕ → ℕ → Option ℕ
traced_first table n last = cond (in_table n last) (Some (path_back table n last).first) None

-- the letters on that way in the place of others; these stay where the table has no such state or steps
abbrev pub traced_letters : List ℕ → ℕ → List ℕ → List ℕ
traced_letters table last old = cond (in_table (length old) last) (path_back table (length old) last).letters old

-- the first state and the letters are those of the first of the cheapest paths to last, whatever the table was filled from, if there is one
abbrev pub Traced : List ℕ → ℕ → List ℕ → Option ℕ → Type 0
Traced table last letters first = (d : Diagram) → Lawful d → (cost : ℤ → ℤ → ℕ) (start : Option ℕ) (xs : List ℤ) → TableOf d cost start xs table → length xs ≡ length letters →
    (p : Path) → First d cost start (Some last) xs p → (first ≡ Some p.first) × (letters ≡ p.letters)

-- an end as a scan over the costs of the states finds it
abbrev pub cost_and_last : Ending → ℕ × ℕ
cost_and_last e = (e.cost, e.last)

-- the last state and the cost of the first path over all permitted ends, nothing where there is no admissible path
abbrev pub EndsAt : Diagram → (ℤ → ℤ → ℕ) → Option ℕ → Option ℕ → List ℤ → Option Ending → Type 0
EndsAt d cost start end xs None = HasNoPath d start end (length xs)
EndsAt d cost start end xs (Some e) = (p : Path) × First d cost start end xs p × First d cost start (Some e.last) xs p × (path_cost d cost xs p ≡ e.cost)

-- that, whatever the row of costs was filled from
abbrev pub Ends : Diagram → Option ℕ → List (Option ℕ) → Option Ending → Type 0
Ends d end row e = (cost : ℤ → ℤ → ℕ) (start : Option ℕ) (xs : List ℤ) → CostsOf d cost start xs row → EndsAt d cost start end xs e

-- the last state and the cost of the first path over all permitted ends, how many admissible paths cost as little, modulo 2 ^ 64, and the least
-- cost of the others, if there are others; nothing where there is no admissible path
abbrev pub StandsAt : Diagram → (ℤ → ℤ → ℕ) → Option ℕ → Option ℕ → List ℤ → Option Standing → Type 0
StandsAt d cost start end xs None = HasNoPath d start end (length xs)
StandsAt d cost start end xs (Some e) = (p : Path) × First d cost start end xs p × First d cost start (Some e.last) xs p × (path_cost d cost xs p ≡ e.cost)
    × (e.ties ≡ ties d cost start end xs % 2 ^ 64) × (e.second ≡ second d cost start end xs p)
