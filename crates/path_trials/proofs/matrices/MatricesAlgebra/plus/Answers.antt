use Rattle.std.proofs.Common.{◌+◌, ◌∙◌}
use Rattle.path_trials.specs.MatrixLaws.{wrapped_once}
use Rattle.path_trials.proofs.matrices.MatricesAlgebra.plus.Goals as goal

pub returns : goal.returns
returns c =
    let x = c.args.x in
    let y = c.args.y in
    c.rows.ensures ∙ wrapped_once (x.a + y.a) (x.b + y.b) (x.c + y.c) (x.d + y.d)
