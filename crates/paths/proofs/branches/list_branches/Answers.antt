use Rattle.std.proofs.Common.{[], arith}
use Rattle.paths.specs.Branches.{branches_from, branches_in}
use Rattle.paths.proofs.Branching.{listed_more, states_all}
use Rattle.paths.proofs.branches.list_branches.Goals as goal

pub loop-state-preserved : goal.loop-state-preserved
loop-state-preserved g c =
    let d = g.T.Trellis.meaning c.args.trellis.now in (
      listed_more (branches_from d) [] (branches_in c.loop-state.list) (branches_in c.list_state.new.list) c.loop-state.state c.loop-state.invariant.0 c.list_state.ensures.listed,
      omega (arith, c.list_state.ensures.few),
    )

pub returns : goal.returns
returns g c = states_all (g.T.Trellis.meaning c.args.trellis.now) c.loop-state.state (branches_in c.loop-state.list) (omega arith) c.loop-state.invariant.0
