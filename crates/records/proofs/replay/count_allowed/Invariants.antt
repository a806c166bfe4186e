use Rattle.std.proofs.Common.{◌≡◌, ◌+◌, drop}
use Rattle.records.specs.Runs.{allowed, allowed_from}
use Rattle.records.proofs.replay.count_allowed.Given as goal

abbrev pub invariant-loop-i : goal.invariant-loop-i
invariant-loop-i l = allowed l.calls ≡ l.i + allowed_from l.settled (drop l.i l.calls)
