use Rattle.std.proofs.Common.{◌≡◌, ◌≤◌, length, get_or, pos, sym, ◌∙◌, subst, arith, w16, SFits, rules}
use borrow.Author.Tests.{ltb-true, ltb-false}
use Rattle.std.proofs.lemmas.Int.{to_z-of_z}
use Rattle.paths.specs.Rows.{Entries}
use Rattle.paths.specs.Recursion.{stepped, Advanced}
use Rattle.paths.proofs.Running.{run_two, run_more, run_all, run_last, still_same}
use Rattle.paths.proofs.pass.Pass.run.Goals as goal
use Rattle.paths.proofs.pass.Pass.run.Goals.{then-left-lt1, in-len1, else-left-lt1+else-left-lt2-2}

pub loop-left-preserved : goal.loop-left-preserved
loop-left-preserved g c =
    let d = g.T.Trellis.meaning c.args.self.now.trellis.now in
    let r = g.A.Algebra.semiring in
    let m = g.M.Measure.costs c.args.self.now.measure.now in
    let us = c.args.first.now.weights.now in
    let us₁ = c.loop-left.first.weights.now in
    let us₂ = c.step_twice.new.first.weights.now in
    let vs₁ = c.loop-left.second.weights.now in
    let vs₂ = c.step_twice.new.second.weights.now in
    let laws = g.met.A.Algebra.lawful in
    let lawful = g.met.T.Trellis.lawful c.args.self.now.trellis.now in
    let ys = c.loop-left.left.now in
    let x = get_or ys 0 (pos 0) in
    let y = get_or ys 1 (pos 0) in
    let fx : SFits w16 x = search rules in
    let fy : SFits w16 y = search rules in (
      run_more r laws m d lawful c.args.samples.now ys us us₁ us₂ c.in-len2-up.len_at_least c.loop-left.invariant.0
          (run_two r laws m d lawful x y us₁ vs₂ us₂ vs₁
          (subst (λ z. Entries d.states (stepped d m r z (λ s. get_or us₁ s r.zero)) vs₁ vs₂) (to_z-of_z w16 x fx) c.step_twice.ensures.second)
          (subst (λ z. Entries d.states (stepped d m r z (λ s. get_or vs₂ s r.zero)) us₁ us₂) (to_z-of_z w16 y fy) c.step_twice.ensures.first)),
      c.step_twice.ensures.second.rest ∙ c.loop-left.invariant.1,
      still_same c.loop-left.invariant.2 c.step_twice.ensures.first_slice,
      still_same c.loop-left.invariant.3 c.step_twice.ensures.second_slice,
    )

pub returns-clause-first : goal.returns-clause-first
returns-clause-first g c =
    let d = g.T.Trellis.meaning c.args.self.now.trellis.now in
    let r = g.A.Algebra.semiring in
    let m = g.M.Measure.costs c.args.self.now.measure.now in
    let laws = g.met.A.Algebra.lawful in
    let lawful = g.met.T.Trellis.lawful c.args.self.now.trellis.now in
    let xs = c.args.samples.now in
    let us = c.args.first.now.weights.now in
    let us₁ = c.loop-left.first.weights.now in
    let ys = c.loop-left.left.now in
    elim c.if-left-lt1.branch [
      | then-left-lt1 w ↦
          let none : length ys ≡ 0 = omega (arith, ltb-true) in
          let le : d.states ≤ length us₁ = omega (arith, c.loop-left.invariant.2.len, c.requires.first) in
          subst (λ v. Advanced d m r xs us v.weights.now) (sym w.first-is) (run_all r laws m d lawful xs ys us us₁ none le c.loop-left.invariant.0)
      | in-len1 w ↦
          let one : length ys ≡ 1 = omega (arith, w.in-len1.len_at_least, w.in-len1.len_below) in
          let x = get_or ys 0 (pos 0) in
          let f : SFits w16 x = search rules in
          let vs = c.loop-left.second.weights.now in
          let vs₁ = w.step_last.new.second.weights.now in
          let us₂ = w.step_last.new.first.weights.now in
          subst (λ v. Advanced d m r xs us v.weights.now) (sym w.first-is) (run_last r laws m d lawful xs ys us us₁ us₂ vs₁ vs one c.loop-left.invariant.0
          (subst (λ z. Entries d.states (stepped d m r z (λ s. get_or us₁ s r.zero)) vs vs₁) (to_z-of_z w16 x f) w.step_last.ensures.second)
          w.step_last.ensures.first)
      | else-left-lt1+else-left-lt2-2 w ↦ absurd (omega (arith, ltb-true, ltb-false, c.in_default.len_below))
    ]
