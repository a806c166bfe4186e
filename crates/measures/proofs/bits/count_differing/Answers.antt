use Rattle.std.proofs.Common.{arith}
use Rattle.measures.specs.Counting.{ones_masked}
use Rattle.measures.proofs.bits.count_differing.Goals as goal

pub returns : goal.returns
returns c = ones_masked c.args.width c.args.a c.args.b (omega arith)
