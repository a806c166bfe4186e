use Rattle.std.proofs.Common.{◌≡◌, ℕ, length, take, drop}
use Rattle.std.specs.List.{AllByRecursion}
use Rattle.paths.specs.Branches.{Within}
use Rattle.survivors.specs.Ranks.{Advanced}
use Rattle.survivors.proofs.ranks.extend.Given as goal

abbrev pub invariant-loop-branch : goal.invariant-loop-branch
invariant-loop-branch g l = Advanced (g.M.Measure.costs l.measure) l.sample l.from (take l.branch-index l.branches) l.row l.bytes × (length l.row ≡ 64)
    × ((n : ℕ) → AllByRecursion (Within 64 n) l.branches → drop n l.row ≡ drop n l.initial.row)
