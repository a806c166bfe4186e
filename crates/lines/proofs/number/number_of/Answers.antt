use Rattle.std.proofs.Common.{◌≡◌, ◌≤◌, length, get_or, ℤ, Some, sym, ap, ◌∙◌, rules}
use Rattle.lines.specs.Numbers.{number_in}
use Rattle.lines.proofs.Numerals.{minus_is, minus_value}
use Rattle.lines.proofs.number.number_of.Goals as goal

pub returns-in_err-numeral-in-Decimal-eq45 : goal.returns-in_err-numeral-in-Decimal-eq45
returns-in_err-numeral-in-Decimal-eq45 c =
    let w = c.args.word.now in
    let some : 1 ≤ length w = search rules in
    let minus : get_or w 0 0 ≡ 45 = search rules in
    let is = minus_is w _ some minus c.in_err-numeral-in-Decimal-eq45.ensures.value in
    c.from_residual-in_err-numeral-in-Decimal-eq45.ensures ∙ is ∙ ap (λ r. number_in r w) (sym c.in-Decimal-eq45.is-0)

pub returns-in_ok-numeral-in-Decimal-eq45 : goal.returns-in_ok-numeral-in-Decimal-eq45
returns-in_ok-numeral-in-Decimal-eq45 c =
    let w = c.args.word.now in
    let some : 1 ≤ length w = search rules in
    let minus : get_or w 0 0 ≡ 45 = search rules in
    let is = minus_is w _ some minus c.in_ok-numeral-in-Decimal-eq45.ensures.value in
    ap (λ (z : ℤ). Some z) (minus_value c.in_ok-numeral-in-Decimal-eq45.field-0 c.in_ok-numeral-in-Decimal-eq45.ensures.small) ∙ is ∙ ap (λ r. number_in r w) (sym c.in-Decimal-eq45.is-0)
