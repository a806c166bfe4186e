use Rattle.std.proofs.Common.{◌+◌, drop, sym, ap, ◌∙◌, arith}
use Rattle.records.specs.Runs.{allowed_from}
use Rattle.records.proofs.Runs.{allowed_no, allowed_yes, allowed_all}
use Rattle.records.proofs.replay.count_allowed.Goals as goal

pub returns-then-not-has_call : goal.returns-then-not-has_call
returns-then-not-has_call c =
    let z = allowed_no c.loop-i.settled c.args.calls.now c.loop-i.i _ c.loop-i-test.true (sym c.has_call.ensures ∙ c.if-not-has_call.true) in
    omega (arith, z, c.loop-i.invariant)

pub loop-i-preserved : goal.loop-i-preserved
loop-i-preserved c =
    let m = allowed_yes c.loop-i.settled c.args.calls.now c.loop-i.i _ c.loop-i-test.true (sym c.has_call.ensures ∙ c.if-not-has_call.false) in
    let t = ap (λ b. allowed_from b (drop (c.loop-i.i + 1) c.args.calls.now)) c.turn-settled.ensures in
    omega (arith, m, t, c.loop-i.invariant)

pub returns : goal.returns
returns c = omega (arith, allowed_all c.loop-i.settled c.args.calls.now c.loop-i.i c.loop-i-test.false, c.loop-i.invariant)
