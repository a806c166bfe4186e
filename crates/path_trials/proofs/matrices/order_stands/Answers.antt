use Rattle.std.proofs.Common.{ap, arith}
use Rattle.path_trials.proofs.matrices.order_stands.Goals as goal

pub returns : goal.returns
returns c = λ e. omega (arith, ap (λ m. m.b) e)
