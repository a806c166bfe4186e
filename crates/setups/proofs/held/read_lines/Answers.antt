use Rattle.std.proofs.Common.{◌≡◌, Err, Some, None, Result, ap, ◌∙◌, arith}
use Rattle.std.proofs.lemmas.Result.{err_from_is_err_and}
use Rattle.model.specs.declared.refusal.Fault.{Fault}
use Rattle.model.specs.Refusals.{Refused, refused}
use Rattle.setups.specs.declared.held.HeldLines.{HeldLines}
use Rattle.setups.proofs.Holding.{reading_done, reading_bad, reading_again, reading_more}
use Rattle.setups.proofs.held.read_lines.Goals as goal

abbrev refusing : Refused → Result HeldLines Refused
refusing f = Err f

pub returns-in_err-line : goal.returns-in_err-line
returns-in_err-line c =
    let none : c.line_at.result ≡ None = grind arith in
    let why : c.in_err-line.field-0.0 ≡ c.at.result = grind arith in
    let p = err_from_is_err_and c.from_residual.result c.from_residual.ensures.1 in
    rw (p.1, p.2)
    (ap (λ (f : Fault). refusing (refused f)) why
    ∙ ap refusing c.at.ensures
    ∙ reading_bad c.args.text.now c.args.from c.loop-at.held c.loop-at.at c.loop-at.invariant _ c.loop-at-test.true c.index_of-end.ensures _ c.line_at.ensures none)

pub returns-in_err-hold : goal.returns-in_err-hold
returns-in_err-hold c =
    let is : c.line_at.result ≡ Some c.in_ok-line.line = grind arith in
    let p = err_from_is_err_and c.from_residual-in_err-hold.result c.from_residual-in_err-hold.ensures.1 in
    rw (p.1, p.2)
    (ap refusing c.in_err-hold.ensures.fault
    ∙ reading_again c.args.text.now c.args.from c.loop-at.held c.loop-at.at c.loop-at.invariant _ c.loop-at-test.true c.index_of-end.ensures _ c.line_at.ensures c.in_ok-line.line is c.in_err-hold.ensures.repeated)

pub loop-at-preserved : goal.loop-at-preserved
loop-at-preserved c =
    let is : c.line_at.result ≡ Some c.in_ok-line.line = grind arith in
    reading_more c.args.text.now c.args.from c.loop-at.held c.loop-at.at c.loop-at.invariant _ c.loop-at-test.true c.index_of-end.ensures _ c.line_at.ensures c.in_ok-line.line is c.hold.new.self c.in_ok-hold.ensures.repeated c.in_ok-hold.ensures.held

pub returns : goal.returns
returns c = reading_done c.args.text.now c.args.from c.loop-at.held c.loop-at.at c.loop-at.invariant c.loop-at-test.false
