use Rattle.std.proofs.Common.{◌≡◌}
use Rattle.std.specs.Option.{option_map}
use Rattle.survivors.specs.Traces.{cost_and_last}
use Rattle.survivors.specs.Survivors.{scan, at_end}
use Rattle.survivors.specs.Rows.{held}
use Rattle.survivors.proofs.ends.cheapest.Given as goal

abbrev pub invariant-loop-state : goal.invariant-loop-state
invariant-loop-state l = option_map cost_and_last l.best ≡ scan (at_end l.end (held l.row)) l.state
