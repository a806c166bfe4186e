use Rattle.std.proofs.Common.{◌≡◌, ◌<◌, take, ap, ◌∙◌, arith, take_all}
use Rattle.records.specs.Runs.{allowed, settled_after, held_after}
use Rattle.records.specs.Records.{is_settled, held_in, trellis_of}
use Rattle.records.proofs.Runs.{run_more}
use Rattle.records.proofs.replay.run_calls.Goals as goal

pub loop-call-preserved : goal.loop-call-preserved
loop-call-preserved g c =
    let l = c.loop-call in
    let cs = c.args.calls.now in
    let old = l.record in
    let new = c.make_call-after.result.0 in
    let made = c.make_call-after.ensures in
    let few : l.call-index < allowed cs = omega (arith, c.requires, c.loop-call-test.true) in
    let w = run_more (g.T.Trellis.meaning c.new.result.seen.trellis) (g.T.Trellis.meaning (trellis_of old)) cs l.call-index _ (is_settled old) (is_settled new) (held_in old) (held_in new) c.loop-call-test.true few
    (ap g.T.Trellis.meaning l.invariant.2) l.invariant.0 l.invariant.1 made.settled made.held in
    (w.0, w.1, made.trellis ∙ l.invariant.2, made.measure ∙ l.invariant.3)

pub returns : goal.returns
returns g c =
    let l = c.loop-call in
    let cs = c.args.calls.now in
    let all : take l.call-index cs ≡ cs = take_all l.call-index cs c.loop-call-test.false in
    record {
      settled = l.invariant.0 ∙ ap settled_after all;
      held = l.invariant.1 ∙ ap (held_after (g.T.Trellis.meaning c.new.result.seen.trellis)) all ∙ ap (λ s. held_after (g.T.Trellis.meaning s.trellis) cs) c.new.ensures;
      trellis = l.invariant.2 ∙ ap (λ s. s.trellis) c.new.ensures;
      measure = l.invariant.3 ∙ ap (λ s. s.measure) c.new.ensures;
    }
