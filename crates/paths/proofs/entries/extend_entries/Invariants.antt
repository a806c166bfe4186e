use Rattle.std.proofs.Common.{◌≡◌, get_or, take}
use Rattle.paths.specs.FlatRecursion.{with_branches}
use Rattle.paths.proofs.entries.extend_entries.Given as goal

abbrev pub invariant-loop-branch : goal.invariant-loop-branch
invariant-loop-branch g l =
    let r = g.A.Algebra.semiring in
    l.row ≡ with_branches (g.M.Measure.costs l.measure) r l.sample (λ s. get_or l.from s r.zero) l.initial.row (take l.branch-index l.branches)
