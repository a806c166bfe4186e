use Rattle.std.proofs.Common.{◌∙◌, arith, length-take}
use Rattle.std.proofs.lemmas.Result.{err_from_is_err_and}
use Rattle.records.proofs.Runs.{rows_cut}
use Rattle.records.proofs.making.try_weigh.Goals as goal

pub returns-in_err-weigh : goal.returns-in_err-weigh
returns-in_err-weigh g c =
    let d = g.T.Trellis.meaning c.args.settled.now.seen.trellis in
    let p = err_from_is_err_and c.from_residual.result c.from_residual.ensures.1 in
    rw (p.1, p.2) (c.in_err-weigh.ensures.checked ∙ rows_cut d.states c.args.first c.args.second _ _ (g.met.T.Trellis.lawful c.args.settled.now.seen.trellis).few_states (simp length-take (omega (arith, c.min.ensures))) (simp length-take (omega (arith, c.min-2.ensures))))
