use Rattle.std.proofs.Common.{◌≡◌, length, drop}
use Rattle.paths.specs.Rows.{SameSlice}
use Rattle.paths.proofs.Running.{Underway}
use Rattle.paths.proofs.pass.Pass.run.Given as goal

abbrev pub invariant-loop-left : goal.invariant-loop-left
invariant-loop-left g l =
    let d = g.T.Trellis.meaning l.self.trellis.now in
    Underway d (g.M.Measure.costs l.self.measure.now) g.A.Algebra.semiring l.samples l.left l.initial.first.weights.now l.first.weights.now
    × (drop d.states l.second.weights.now ≡ drop d.states l.initial.second.weights.now)
    × SameSlice l.initial.first.weights l.first.weights
    × SameSlice l.initial.second.weights l.second.weights

abbrev pub decreases-loop-left : goal.decreases-loop-left
decreases-loop-left g l = length l.left
