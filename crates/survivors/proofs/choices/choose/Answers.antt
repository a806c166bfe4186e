use Rattle.std.proofs.Common.{rules}
use Rattle.survivors.proofs.Surveying.{costs_of, none_past}
use Rattle.survivors.proofs.choices.choose.Goals as goal

pub returns-clause-row : goal.returns-clause-row
returns-clause-row g c = costs_of (g.T.Trellis.meaning c.args.trellis.now) (g.met.T.Trellis.lawful c.args.trellis.now) (g.M.Measure.costs c.args.measure.now) c.args.start _ c.fill.result c.rank_costs.result (search rules) c.fill.ensures.ranked c.rank_costs.ensures

pub returns-clause-past : goal.returns-clause-past
returns-clause-past g c = none_past (g.T.Trellis.meaning c.args.trellis.now) (g.met.T.Trellis.lawful c.args.trellis.now) (g.M.Measure.costs c.args.measure.now) c.args.start c.fill.result c.rank_costs.result (search rules) c.fill.ensures.past c.rank_costs.ensures
