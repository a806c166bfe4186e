-- The forward recursion, which the code follows. That it sums over all paths is proved of it.
use Rattle.std.specs.Prelude.{ℕ, cond, List, [], ◌∷◌, ℤ, Some, None, Option, ◌==◌, slice_index_or}
use Rattle.model.specs.Trellises.{Branch, Diagram}
use Rattle.algebras.specs.Semirings.{Semiring}
use Rattle.paths.specs.Paths.{permits}
use Rattle.paths.specs.Listings.{below}
use Rattle.paths.specs.Sums.{total}
use Rattle.paths.specs.Rows.{Entries}

-- what a branch brings of the weight v into the state t, on the sample x
abbrev pub brings_into : {W : Type 0} → (ℤ → ℤ → ℕ) → Semiring W → ℤ → ℕ → Branch → W → W
brings_into cost r x t None v = r.zero
brings_into cost r x t (Some b) v = cond (t == b.0) (r.times v (r.weight (cost b.1 x))) r.zero

-- what the branches of the state s bring of v into t
unfoldable pub from_state : {W : Type 0} → Diagram → (ℤ → ℤ → ℕ) → Semiring W → ℤ → ℕ → W → ℕ → W
from_state d cost r x s v t = total r (λ a. brings_into cost r x t (d.branch s a) v) (below d.letters)

-- what all branches bring into t of the weights that a row has
unfoldable pub stepped : {W : Type 0} → Diagram → (ℤ → ℤ → ℕ) → Semiring W → ℤ → (ℕ → W) → ℕ → W
stepped d cost r x row t = total r (λ s. from_state d cost r x s (row s) t) (below d.states)

-- the row after the samples
abbrev pub after : {W : Type 0} → Diagram → (ℤ → ℤ → ℕ) → Semiring W → (ℕ → W) → List ℤ → ℕ → W
after d cost r row [] = row
after d cost r row (x ∷ xs) = after d cost r (stepped d cost r x row) xs

-- the row before any sample
abbrev pub opened : {W : Type 0} → Semiring W → Option ℕ → ℕ → W
opened r start s = cond (permits start s) r.one r.zero

-- the entries, after the samples
abbrev pub Advanced : {W : Type 0} → Diagram → (ℤ → ℤ → ℕ) → Semiring W → List ℤ → List W → List W → Type 0
Advanced d cost r xs old new = Entries d.states (after d cost r (λ s. slice_index_or old s r.zero) xs) old new
