-- Rows of weights, one for each state, and what the forward pass leaves in them.
use Rattle.std.specs.Borrow.{MutBor}
use Rattle.std.specs.Prelude.{◌≡◌, ℕ, ◌<◌, Bool, cond, ◌&&◌, List, length, drop, ℤ, Some, None, MatchBool, Option, nat_le, slice_index_or}
use Rattle.model.specs.declared.refusal.Refusal.TheVariants.{RowShort}
use Rattle.model.specs.Refusals.{refusal_number}
use Rattle.model.specs.Trellises.{Diagram}
use Rattle.algebras.specs.Semirings.{Semiring}
use Rattle.paths.specs.Sums.{path_sum}

-- the first n entries are f's, and the later ones are as they were
pub record Entries {W : Type 0} (n : ℕ) (f : ℕ → W) (old new : List W) : Type 0 where
  pub entry : (s : ℕ) (d : W) → s < n → slice_index_or new s d ≡ f s
  pub rest : drop n new ≡ drop n old

-- the first n entries are those of another row, and the later ones are as they were
pub record Copied {W : Type 0} (n : ℕ) (from old new : List W) : Type 0 where
  pub entry : (s : ℕ) (d : W) → s < n → slice_index_or new s d ≡ slice_index_or from s d
  pub rest : drop n new ≡ drop n old

-- a row still has the slice that it was lent
pub record SameSlice {W : Type 0} (old new : MutBor (List W)) : Type 0 where
  pub name : new.ghost_name ≡ old.ghost_name
  pub len : length new.now ≡ length old.now

-- both rows have an entry for each state
abbrev pub long_enough : {W : Type 0} → Diagram → List W → List W → Bool
long_enough d us vs = nat_le d.states (length us) && nat_le d.states (length vs)

-- that, as a check
abbrev pub row_check : {W : Type 0} → Diagram → List W → List W → ℕ
row_check d us vs = cond (long_enough d us vs) 0 (refusal_number RowShort)

-- what a forward pass answers, if the rows are long enough
abbrev pub if_long_enough : {W B : Type 0} → Diagram → List W → List W → B → Option B
if_long_enough d us vs answer = cond (long_enough d us vs) (Some answer) None

-- what the forward pass leaves: in the first row the sums over the paths to each state, in the second zeros;
-- where a row is too short, both as they were
abbrev pub RowsLeft : {W : Type 0} → Diagram → (ℤ → ℤ → ℕ) → Semiring W → Option ℕ → List ℤ → List W → List W → List W → List W → Type 0
RowsLeft d cost r start xs us us' vs vs' = MatchBool (long_enough d us vs)
    (Entries d.states (λ s. path_sum d cost r start (Some s) xs) us us' × Entries d.states (λ s. r.zero) vs vs')
    ((us' ≡ us) × (vs' ≡ vs))
