use Rattle.std.proofs.Common.{◌-◌, length}
use Rattle.setups.proofs.Holding.{Reading}
use Rattle.setups.proofs.held.read_lines.Given as goal

abbrev pub invariant-loop-at : goal.invariant-loop-at
invariant-loop-at l = Reading l.text l.from l.held l.at

abbrev pub decreases-loop-at : goal.decreases-loop-at
decreases-loop-at l = length l.text - l.at
