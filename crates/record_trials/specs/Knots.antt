-- A trellis of three states and three letters.
use Rattle.std.specs.Prelude.{ℕ, zero, suc, pos, negsuc, Some, None}
use Rattle.model.specs.Trellises.{Branch, Diagram}

-- the branches: into state 0 from 0 by 2 and from 1 by 0, into 1 from 0 by 0 and from 2 by 1 and 2, and into 2 from 1
abbrev pub knot_branch : ℕ → ℕ → Branch
knot_branch zero zero = Some (1, pos 1)
knot_branch zero (suc zero) = None
knot_branch zero (suc (suc zero)) = Some (0, pos 1)
knot_branch zero (suc (suc (suc a))) = None
knot_branch (suc zero) zero = Some (0, pos 1)
knot_branch (suc zero) (suc zero) = Some (2, negsuc 0)
knot_branch (suc zero) (suc (suc a)) = None
knot_branch (suc (suc zero)) zero = None
knot_branch (suc (suc zero)) (suc zero) = Some (1, pos 2)
knot_branch (suc (suc zero)) (suc (suc zero)) = Some (1, pos 2)
knot_branch (suc (suc zero)) (suc (suc (suc a))) = None
knot_branch (suc (suc (suc s))) a = None

abbrev pub knot : Diagram
knot = record { states = 3; letters = 3; branch = knot_branch }
