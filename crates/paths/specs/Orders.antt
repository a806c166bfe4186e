-- The order among equally cheap paths: it is decided from their ends.
use Rattle.std.specs.Prelude.{ℕ, Bool, false, ◌&&◌, ◌||◌, List, [], ◌∷◌, reverse, ◌==◌, nat_lt}
use Rattle.std.specs.Option.{unwrap_or}
use Rattle.model.specs.Trellises.{Diagram}
use Rattle.paths.specs.Paths.{Path, along, last_state}

-- the steps that letters make from s, each as the state before it and its letter
abbrev pub steps_from : Diagram → ℕ → List ℕ → List (ℕ × ℕ)
steps_from d s [] = []
steps_from d s (a ∷ w) = along (d.branch s a) [] (λ t label. (s, a) ∷ steps_from d t w)

-- the steps of a path, from last to first
abbrev pub steps_back : Diagram → Path → List (ℕ × ℕ)
steps_back d p = reverse (steps_from d p.first p.letters)

-- i is the lower, or both are alike and the rest decides
abbrev pub lower : ℕ → ℕ → Bool → Bool
lower i j rest = nat_lt i j || (i == j && rest)

-- at the first step that differs the lower state before it, then the lower letter
abbrev pub earlier : List (ℕ × ℕ) → List (ℕ × ℕ) → Bool
earlier [] qs = false
earlier (p ∷ ps) [] = false
earlier (p ∷ ps) (q ∷ qs) = lower p.0 q.0 (lower p.1 q.1 (earlier ps qs))

-- the lower last state first, then at each step from last to first the lower state before it, then the lower letter
abbrev pub before : Diagram → Path → Path → Bool
before d p q = lower (unwrap_or (last_state d p) 0) (unwrap_or (last_state d q) 0) (earlier (steps_back d p) (steps_back d q))
