-- Sums over paths.
use Rattle.std.specs.Prelude.{ℕ, List, [], ◌∷◌, length, ℤ, Option}
use Rattle.model.specs.Trellises.{Diagram}
use Rattle.algebras.specs.Semirings.{Semiring}
use Rattle.paths.specs.Paths.{path_weight}
use Rattle.paths.specs.Listings.{admissible_paths}

-- the sum of f over a list, zero where the list is empty
abbrev pub total : {W X : Type 0} → Semiring W → (X → W) → List X → W
total r f [] = r.zero
total r f (x ∷ xs) = r.plus (f x) (total r f xs)

-- the sum of the weights of all admissible paths on the samples xs
unfoldable pub path_sum : {W : Type 0} → Diagram → (ℤ → ℤ → ℕ) → Semiring W → Option ℕ → Option ℕ → List ℤ → W
path_sum d cost r start end xs = total r (path_weight d cost r xs) (admissible_paths d start end (length xs))
