use Rattle.std.proofs.Common.{◌∙◌, arith}
use Rattle.path_trials.specs.MatrixLaws.{same_matrix}
use Rattle.path_trials.proofs.matrices.MatricesAlgebra.times.Goals as goal

pub returns : goal.returns
returns c = c.rows.ensures ∙ same_matrix (omega (arith, c.dot.ensures)) (omega (arith, c.dot-2.ensures)) (omega (arith, c.dot-3.ensures)) (omega (arith, c.dot-4.ensures))
