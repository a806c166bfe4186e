-- Paths through a trellis, their costs and their weights.
use Rattle.std.specs.Prelude.{◌≡◌, ℕ, ◌<◌, Bool, true, false, ◌&&◌, List, [], ◌∷◌, length, ℤ, is_some, Some, None, fold, sum, Option, ◌==◌}
use Rattle.model.specs.Trellises.{Branch, Diagram}
use Rattle.algebras.specs.Semirings.{Semiring}

-- a first state and letters
pub record Path : Type 0 where
  pub first : ℕ
  pub letters : List ℕ

-- what a branch gives, by its next state and its label, or d where there is no branch
abbrev pub along : {B : Type 0} → Branch → B → (ℕ → ℤ → B) → B
along None d f = d
along (Some b) d f = f b.0 b.1

-- the state that letters lead to from s, if each has a branch from the state reached
abbrev pub reached : Diagram → ℕ → List ℕ → Option ℕ
reached d s [] = Some s
reached d s (a ∷ w) = along (d.branch s a) None (λ t label. reached d t w)

-- the labels of these branches
abbrev pub labels : Diagram → ℕ → List ℕ → List ℤ
labels d s [] = []
labels d s (a ∷ w) = along (d.branch s a) [] (λ t label. label ∷ labels d t w)

-- the last state of a path, if each letter has a branch
abbrev pub last_state : Diagram → Path → Option ℕ
last_state d p = reached d p.first p.letters

-- p is a path on n samples: a state, and n letters that each have a branch from the state reached
pub record PathOn (d : Diagram) (n : ℕ) (p : Path) : Type 0 where
  pub state : p.first < d.states
  pub steps : length p.letters ≡ n
  pub branches : is_some (last_state d p) ≡ true

-- one state is permitted, or any where it is left out
abbrev pub permits : Option ℕ → ℕ → Bool
permits None s = true
permits (Some x) s = s == x

-- there is a last state, and it is permitted
abbrev pub permits_last : Option ℕ → Option ℕ → Bool
permits_last end None = false
permits_last end (Some t) = permits end t

-- the start permits the first state, and the end the last
abbrev pub admissible : Diagram → Option ℕ → Option ℕ → Path → Bool
admissible d start end p = permits start p.first && permits_last end (last_state d p)

-- p is an admissible path on n samples
pub record Admissible (d : Diagram) (start end : Option ℕ) (n : ℕ) (p : Path) : Type 0 where
  pub path : PathOn d n p
  pub permitted : admissible d start end p ≡ true

-- what labels cost against samples, in order
abbrev pub costs_against : (ℤ → ℤ → ℕ) → List ℤ → List ℤ → List ℕ
costs_against cost [] xs = []
costs_against cost (l ∷ ls) [] = []
costs_against cost (l ∷ ls) (x ∷ xs) = cost l x ∷ costs_against cost ls xs

-- what the labels of a path cost against the samples, in order
abbrev pub step_costs : Diagram → (ℤ → ℤ → ℕ) → List ℤ → Path → List ℕ
step_costs d cost xs p = costs_against cost (labels d p.first p.letters) xs

-- the cost of a path: the sum of these
abbrev pub path_cost : Diagram → (ℤ → ℤ → ℕ) → List ℤ → Path → ℕ
path_cost d cost xs p = sum (step_costs d cost xs p)

-- w times the weights of costs, each later one on the right
abbrev pub product : {W : Type 0} → Semiring W → W → List ℕ → W
product r w cs = fold (λ u c. r.times u (r.weight c)) w cs

-- the weight of a path: one times the weights of its costs, in order
abbrev pub path_weight : {W : Type 0} → Diagram → (ℤ → ℤ → ℕ) → Semiring W → List ℤ → Path → W
path_weight d cost r xs p = product r r.one (step_costs d cost xs p)
