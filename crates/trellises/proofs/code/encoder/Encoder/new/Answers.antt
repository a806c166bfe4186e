use Rattle.std.proofs.Common.{rules}
use Rattle.trellises.proofs.code.encoder.Encoder.new.Goals as goal

pub invariant_of-result-clause-some : goal.invariant_of-result-clause-some
invariant_of-result-clause-some c = search rules
