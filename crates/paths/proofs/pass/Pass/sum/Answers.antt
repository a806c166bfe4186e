use Rattle.std.proofs.Common.{◌≡◌, cond, get_or, ap, ◌∙◌, subst}
use Rattle.paths.specs.Paths.{permits}
use Rattle.paths.specs.Listings.{below}
use Rattle.paths.specs.Sums.{total, path_sum}
use Rattle.paths.specs.Rows.{Entries}
use Rattle.paths.specs.Recursion.{opened}
use Rattle.paths.proofs.Running.{left_first, answered, still_same}
use Rattle.paths.proofs.Reordering.{any_order, any_list}
use Rattle.paths.proofs.pass.Pass.sum.Goals as goal

pub returns : goal.returns
returns g c =
    let d = g.T.Trellis.meaning c.args.self.now.trellis.now in
    let r = g.A.Algebra.semiring in
    let m = g.M.Measure.costs c.args.self.now.measure.now in
    let laws = g.met.A.Algebra.lawful in
    let lawful = g.met.T.Trellis.lawful c.args.self.now.trellis.now in
    let us = c.args.first.now.weights.now in
    let xs = c.args.samples.now in
    let us₁ = c.open.new.self.weights.now in
    let us₂ = c.run.new.first.weights.now in
    let opens : Entries d.states (opened r c.args.start) us us₁ =
    subst (λ j. Entries j (opened r c.args.start) us us₁) c.states-n.ensures c.open.ensures.after in
    let sums : c.total.result ≡ path_sum d m r c.args.start c.args.end xs =
    c.total.ensures
    ∙ ap (λ j. total r (λ s. cond (permits c.args.end s) (get_or us₂ s r.zero) r.zero) (below j)) c.states-n.ensures
    ∙ answered r laws m d lawful c.args.start xs us us₁ us₂ opens c.run.ensures.first c.args.end in
    record {
      answer = sums;
      any_order = λ ps h. sums ∙ any_order d m r laws c.args.start c.args.end xs ps h;
      any_list = λ ps h. sums ∙ any_list d m r laws c.args.start c.args.end xs lawful ps h;
      first = left_first r laws m d lawful c.args.start xs us us₁ us₂ opens c.run.ensures.first;
      second = c.run.ensures.second;
      first_slice = still_same c.open.ensures.slice c.run.ensures.first_slice;
      second_slice = c.run.ensures.second_slice;
    }
