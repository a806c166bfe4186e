use Rattle.std.proofs.Common.{Some, sym, subst}
use Rattle.records.specs.Records.{is_settled, held_in, trellis_of, measure_of}
use Rattle.records.specs.Laws.{lent, AnswersAs}
use Rattle.records.proofs.replay.ask.Goals as goal

pub returns-in-Settled : goal.returns-in-Settled
returns-in-Settled g c =
    let w = c.weigh-weigh.ensures in
    subst (λ v. AnswersAs (g.T.Trellis.meaning (trellis_of v)) (g.M.Measure.costs (measure_of v)) g.A.Algebra.semiring (held_in v) (is_settled v) c.args.place (lent c.args.letters.now c.args.first.now c.args.second.now)
    (lent c.report-report.new.buffer c.weigh-weigh.new.first c.weigh-weigh.new.second) (Some (record { report = c.report-report.result; weigh = c.weigh-weigh.result })))
    (sym c.in-Settled.is) (c.report-report.ensures.law, record { checked = w.checked; sum = w.law; rows = w.rows })
