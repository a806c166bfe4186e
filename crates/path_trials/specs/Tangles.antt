-- A trellis of four states and three letters.
use Rattle.std.specs.Prelude.{ℕ, zero, suc, pos, negsuc, Some, None}
use Rattle.model.specs.Trellises.{Branch, Diagram}

-- the branches: into state 0 from 0 by 1 and from 1 by 0, into 1 from 0 by 0 and from 2 by 1 and 2; none leaves 3
abbrev pub tangle_branch : ℕ → ℕ → Branch
tangle_branch zero zero = Some (1, pos 1)
tangle_branch zero (suc zero) = Some (0, pos 1)
tangle_branch zero (suc (suc a)) = None
tangle_branch (suc zero) zero = Some (0, pos 1)
tangle_branch (suc zero) (suc zero) = Some (2, negsuc 0)
tangle_branch (suc zero) (suc (suc zero)) = Some (3, pos 5)
tangle_branch (suc zero) (suc (suc (suc a))) = None
tangle_branch (suc (suc zero)) zero = None
tangle_branch (suc (suc zero)) (suc zero) = Some (1, pos 2)
tangle_branch (suc (suc zero)) (suc (suc zero)) = Some (1, pos 2)
tangle_branch (suc (suc zero)) (suc (suc (suc a))) = None
tangle_branch (suc (suc (suc s))) a = None

abbrev pub tangle : Diagram
tangle = record { states = 4; letters = 3; branch = tangle_branch }
