-- The chosen branches: one byte for each step and state.
use Rattle.std.specs.Prelude.{◌≡◌, ℕ, ◌+◌, ◌*◌, ◌<◌, ◌≤◌, List, [], ◌∷◌, length, take, ℤ, Some, None, Option, slice_index, slice_index_or}
use Rattle.model.specs.Trellises.{Diagram, most_states, most_letters}
use Rattle.paths.specs.Paths.{Path, path_cost}
use Rattle.paths.specs.Orders.{steps_back}
use Rattle.paths.specs.Laws.{IsFirst}

-- the most samples that a table has bytes for
abbrev pub most_samples : ℕ
most_samples = 512

-- how many bytes a table has
abbrev pub table_size : ℕ
table_size = most_samples * most_states

-- where in the table the byte of the step k and the state s lies; steps count from 0
abbrev pub place : ℕ → ℕ → ℕ
place k s = k * most_states + s

-- the byte of the step k and the state s
abbrev pub byte_at : List ℕ → ℕ → ℕ → ℕ
byte_at table k s = slice_index table (place k s)

-- a branch as a byte, from the state before it and its letter
abbrev pub byte_of : ℕ → ℕ → ℕ
byte_of s a = s * most_letters + a

-- the byte of the first of some steps, 0 where there is none
abbrev pub leading_byte : List (ℕ × ℕ) → ℕ
leading_byte [] = 0
leading_byte (step ∷ steps) = byte_of step.0 step.1

-- the byte of a path's last branch, 0 where there is no path
abbrev pub last_byte : Diagram → Option Path → ℕ
last_byte d None = 0
last_byte d (Some p) = leading_byte (steps_back d p)

-- what a path costs, nothing where there is no path
abbrev pub cost_of : Diagram → (ℤ → ℤ → ℕ) → List ℤ → Option Path → Option ℕ
cost_of d cost xs None = None
cost_of d cost xs (Some p) = Some (path_cost d cost xs p)

-- the byte is that of the last branch of the path that comes first among the cheapest from a permitted start to s on the samples xs, and 0 where there is no path
abbrev pub Chosen : Diagram → (ℤ → ℤ → ℕ) → Option ℕ → List ℤ → ℕ → ℕ → Type 0
Chosen d cost start xs s byte = (o : Option Path) × IsFirst d cost start (Some s) xs o × (byte ≡ last_byte d o)

-- the cost is that of this path, and nothing where there is no path
abbrev pub Costs : Diagram → (ℤ → ℤ → ℕ) → Option ℕ → List ℤ → ℕ → Option ℕ → Type 0
Costs d cost start xs s c = (o : Option Path) × IsFirst d cost start (Some s) xs o × (c ≡ cost_of d cost xs o)

-- the table has for each step and state the byte chosen on the samples up to that step, and 0 where there is no such sample or state
pub record TableOf (d : Diagram) (cost : ℤ → ℤ → ℕ) (start : Option ℕ) (xs : List ℤ) (table : List ℕ) : Type 0 where
  pub size : length table ≡ table_size
  pub few : length xs ≤ most_samples
  pub chosen : (k s : ℕ) → k < length xs → s < d.states → Chosen d cost start (take (k + 1) xs) s (byte_at table k s)
  pub no_state : (k s : ℕ) → d.states ≤ s → s < most_states → byte_at table k s ≡ 0
  pub no_sample : (k s : ℕ) → length xs ≤ k → byte_at table k s ≡ 0

-- the row has for each state what the first of the cheapest paths to it costs
pub record CostsOf (d : Diagram) (cost : ℤ → ℤ → ℕ) (start : Option ℕ) (xs : List ℤ) (row : List (Option ℕ)) : Type 0 where
  pub size : length row ≡ most_states
  pub costs : (s : ℕ) → s < d.states → Costs d cost start xs s (slice_index_or row s None)
