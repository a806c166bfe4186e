use Rattle.survivors.proofs.Tracing.{ends_from}
use Rattle.survivors.proofs.ends.ending.Goals as goal

pub returns : goal.returns
returns g c = ends_from (g.T.Trellis.meaning c.args.trellis.now) (g.met.T.Trellis.lawful c.args.trellis.now) c.args.end c.args.row.now c.states.result c.states.ensures c.cheapest.result c.cheapest.ensures
