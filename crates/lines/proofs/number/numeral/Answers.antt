use Rattle.std.proofs.Common.{◌≡◌, ℕ, ◌+◌, ◌*◌, ◌^◌, ◌<◌, false, eqb, get_or, sym, ◌∙◌, arith}
use Rattle.std.proofs.lemmas.Bool.{eqb-false}
use Rattle.lines.proofs.Numerals.{digit_found, digit_missing, digit_below, digit_room, million, digits_step, digits_broken, digits_done, numeral_is}
use Rattle.lines.proofs.number.numeral.Goals as goal

some_byte : (n : ℕ) → false ≡ eqb n 0 → n ≡ 0 → ⊥
some_byte n e = eqb-false n 0 (sym e)

pub returns-in_err-digit : goal.returns-in_err-digit
returns-in_err-digit c =
    let ds = c.args.digits.now in
    let whole = numeral_is c.args.base ds (some_byte _ c.if-is_empty.ensures) c.if-digits-gt6.false in
    let no = digit_missing c.args.base (get_or ds c.loop-b.b-index 0) c.in_err-digit.ensures in
    rw c.from_residual.ensures (record { value = digits_broken c.args.base ds c.loop-b.b-index c.loop-b-test.true c.loop-b.value _ no c.loop-b.invariant.1 ∙ whole; small = tt })

room : (c : goal.In_ok-digit) → c.loop-b.value * c.args.base + c.in_ok-digit.digit < 10 ^ (c.loop-b.b-index + 1)
room c =
    let is = digit_found c.args.base (get_or c.args.digits.now c.loop-b.b-index 0) c.in_ok-digit.digit c.in_ok-digit.ensures in
    let below = digit_below c.args.base (get_or c.args.digits.now c.loop-b.b-index 0) is.0 in
    digit_room c.args.base c.loop-b.value c.in_ok-digit.digit c.loop-b.b-index c.requires (omega (arith, is.1)) c.loop-b.invariant.0

within : (c : goal.In_ok-digit) → c.loop-b.value * c.args.base + c.in_ok-digit.digit < 10 ^ 6
within c = million _ (c.loop-b.b-index + 1) (omega arith) (room c)

pub overflow_mul-value : goal.overflow_mul-value
overflow_mul-value c = let w = within c in omega arith

pub overflow_add-value : goal.overflow_add-value
overflow_add-value c = let w = within c in omega arith

pub loop-b-preserved : goal.loop-b-preserved
loop-b-preserved c =
    let is = digit_found c.args.base (get_or c.args.digits.now c.loop-b.b-index 0) c.in_ok-digit.digit c.in_ok-digit.ensures in
    (room c, digits_step c.args.base c.args.digits.now c.loop-b.b-index c.loop-b-test.true c.loop-b.value c.in_ok-digit.digit _ is.0 is.1 c.loop-b.invariant.1)

pub returns : goal.returns
returns c =
    let ds = c.args.digits.now in
    let whole = numeral_is c.args.base ds (some_byte _ c.if-is_empty.ensures) c.if-digits-gt6.false in
    record { value = digits_done c.args.base ds c.loop-b.b-index c.loop-b.value _ c.loop-b-test.false c.loop-b.invariant.1 ∙ whole; small = million _ c.loop-b.b-index (omega arith) c.loop-b.invariant.0 }
