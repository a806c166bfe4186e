use Rattle.std.proofs.Common.{◌≡◌, ◌^◌}
use Rattle.algebras.specs.CostCounts.{cheapest_with_count}
use Rattle.algebras.specs.TwoCosts.{two_cheapest}
use Rattle.survivors.specs.Ranks.{tied, two, Sound, gathered}
use Rattle.survivors.proofs.standings.gather.Given as goal

abbrev pub invariant-loop-state : goal.invariant-loop-state
invariant-loop-state l =
    (tied l.all ≡ gathered cheapest_with_count tied l.end l.row l.state)
    × (two l.all ≡ gathered two_cheapest two l.end l.row l.state)
    × Sound (2 ^ 62) l.all
