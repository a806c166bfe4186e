use Rattle.std.proofs.Common.{◌≡◌, ◌≤◌, length, get_or, sym, subst, arith, w16}
use Rattle.std.specs.List.{AllByRecursion}
use Rattle.std.proofs.lemmas.Int.{to_z-of_z}
use Rattle.paths.specs.Branches.{Within, branches_of}
use Rattle.paths.specs.FlatRecursion.{with_branches}
use Rattle.paths.proofs.Branching.{all_within, within_more}
use Rattle.paths.proofs.Running.{cleared, step_row}
use Rattle.paths.proofs.pass.Pass.step.Goals as goal

pub extend-requires : goal.extend-requires
extend-requires g c =
    let d = g.T.Trellis.meaning c.args.self.now.trellis.now in
    let us = c.args.first.now.weights.now in
    let vs = c.clear.new.self.weights.now in
    let le : d.states ≤ length vs = omega (arith, c.clear.ensures.slice.len, c.requires.second) in
    subst (AllByRecursion (Within (length us) (length vs))) (sym c.args.self.now.listed)
    (within_more d.states (length us) (length vs) c.requires.first le (branches_of d) (all_within d (g.met.T.Trellis.lawful c.args.self.now.trellis.now)))

pub returns-clause-second : goal.returns-clause-second
returns-clause-second g c =
    let d = g.T.Trellis.meaning c.args.self.now.trellis.now in
    let r = g.A.Algebra.semiring in
    let m = g.M.Measure.costs c.args.self.now.measure.now in
    let us = c.args.first.now.weights.now in
    let vs = c.args.second.now.weights.now in
    let vs₁ = c.clear.new.self.weights.now in
    let vs₂ = c.extend.new.self.weights.now in
    let bs = c.args.self.now.branches.now in
    let le : d.states ≤ length vs₁ = omega (arith, c.clear.ensures.slice.len, c.requires.second) in
    step_row r g.met.A.Algebra.lawful m d (g.met.T.Trellis.lawful c.args.self.now.trellis.now) c.args.sample us vs vs₁ vs₂ bs c.args.self.now.listed le
    (cleared c.states.result d.states c.zero.result r.zero vs vs₁ c.states.ensures c.zero.ensures c.clear.ensures.after)
    (subst (λ z. vs₂ ≡ with_branches m r z (λ s. get_or us s r.zero) vs₁ bs) (to_z-of_z w16 c.args.sample c.ranges.sample) c.extend.ensures.after)
