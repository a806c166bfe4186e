-- Rows of costs and bytes, as the code holds them.
use Rattle.std.specs.Prelude.{◌≡◌, ℕ, ◌+◌, ◌<◌, ◌≤◌, List, take, ℤ, None, Option, slice_index, slice_index_or}
use Rattle.model.specs.Trellises.{Diagram, most_states}
use Rattle.survivors.specs.Choices.{Chosen, byte_at}

-- what a row has for a state, nothing past its end
abbrev pub held : List (Option ℕ) → ℕ → Option ℕ
held row s = slice_index_or row s None

-- every byte is 0
abbrev pub Zeros : List ℕ → Type 0
Zeros bytes = (k : ℕ) → slice_index bytes k ≡ 0

-- the bytes of the first n steps
pub record Tabled (d : Diagram) (cost : ℤ → ℤ → ℕ) (start : Option ℕ) (xs : List ℤ) (n : ℕ) (table : List ℕ) : Type 0 where
  pub chosen : (k s : ℕ) → k < n → s < d.states → Chosen d cost start (take (k + 1) xs) s (byte_at table k s)
  pub no_state : (k s : ℕ) → k < n → d.states ≤ s → s < most_states → byte_at table k s ≡ 0
