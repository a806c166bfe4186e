use Rattle.std.proofs.lemmas.Result.{err_from_is_err_and}
use Rattle.recordings.proofs.Detecting.{detects_fault}
use Rattle.recordings.proofs.steps.detect_at.Goals as goal

pub returns-in_err-report : goal.returns-in_err-report
returns-in_err-report g c =
    let s = c.settle-settled.result.seen in
    let r = c.report.ensures in
    let e = err_from_is_err_and c.from_residual.result c.from_residual.ensures.1 in
    let found = detects_fault (g.T.Trellis.meaning s.trellis) (g.M.Measure.costs s.measure) s.held c.args.at c.args.place c.args.letters.now c.report.new.buffer _ _ c.in_err-report.ensures r.value r.checked r.buffer in
    rw (e.1, e.2, ← c.settle-settled.ensures.seen) (record { value = found.value; letters = found.letters })
