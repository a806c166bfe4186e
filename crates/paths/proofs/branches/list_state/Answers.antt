use Rattle.std.proofs.Common.{◌≤◌, ◌++◌, sym, ap, ◌∙◌, subst, arith}
use Rattle.model.specs.Trellises.{StaysIn, most_states}
use Rattle.paths.specs.Branches.{listed, branches_in}
use Rattle.paths.proofs.Rowing.{stays_more}
use Rattle.paths.proofs.Branching.{listed_more, state_all}
use Rattle.paths.proofs.branches.list_state.Goals as goal

pub list_branch-requires-clause-next : goal.list_branch-requires-clause-next
list_branch-requires-clause-next g c =
    let d = g.T.Trellis.meaning c.args.trellis.now in
    let lawful = g.met.T.Trellis.lawful c.args.trellis.now in
    let few : d.states ≤ most_states = lawful.few_states in
    subst (StaysIn most_states) (sym c.branch-trellis.ensures) (stays_more d.states most_states (d.branch c.args.state c.loop-letter.letter) few (lawful.stays c.args.state c.loop-letter.letter))

pub loop-letter-preserved : goal.loop-letter-preserved
loop-letter-preserved g c =
    let d = g.T.Trellis.meaning c.args.trellis.now in
    let s = c.args.state in (
      listed_more (λ a. listed s a (d.branch s a)) (branches_in c.args.list.now) (branches_in c.loop-letter.list) (branches_in c.list_branch.new.list) c.loop-letter.letter
          c.loop-letter.invariant.0 (c.list_branch.ensures.listed ∙ ap (λ b. branches_in c.loop-letter.list ++ listed s c.loop-letter.letter b) c.branch-trellis.ensures),
      omega (arith, c.loop-letter.invariant.1),
    )

pub returns : goal.returns
returns g c =
    let d = g.T.Trellis.meaning c.args.trellis.now in
    let l : d.letters ≤ 4 = (g.met.T.Trellis.lawful c.args.trellis.now).few_letters in
    record {
      listed = state_all d c.args.state c.loop-letter.letter (branches_in c.args.list.now) (branches_in c.loop-letter.list) (omega arith) c.loop-letter.invariant.0;
      few = omega (arith, c.loop-letter.invariant.1);
    }
