-- The list of all paths.
use Rattle.std.specs.Prelude.{ℕ, zero, suc, List, [], ◌∷◌, ◌++◌, map, is_some, filter, Option}
use Rattle.std.specs.List.{flat_map}
use Rattle.model.specs.Trellises.{Diagram}
use Rattle.paths.specs.Paths.{Path, last_state, admissible}

-- the numbers below n
abbrev pub below : ℕ → List ℕ
below zero = []
below (suc n) = below n ++ n ∷ []

-- every list of n letters, of a letters in all
abbrev pub words : ℕ → ℕ → List (List ℕ)
words a zero = [] ∷ []
words a (suc n) = flat_map (λ x. map (λ w. x ∷ w) (words a n)) (below a)

-- every first state with every list of n letters
abbrev pub candidates : Diagram → ℕ → List Path
candidates d n = flat_map (λ s. map (λ w. record { first = s; letters = w }) (words d.letters n)) (below d.states)

-- all paths on n samples: those in which each letter has a branch
abbrev pub all_paths : Diagram → ℕ → List Path
all_paths d n = filter (λ p. is_some (last_state d p)) (candidates d n)

-- the admissible ones among them
abbrev pub admissible_paths : Diagram → Option ℕ → Option ℕ → ℕ → List Path
admissible_paths d start end n = filter (admissible d start end) (all_paths d n)
