use Rattle.std.proofs.Common.{◌≡◌, ◌^◌, ◌<◌, drop}
use Rattle.lines.specs.Numbers.{digits_after}
use Rattle.lines.proofs.number.numeral.Given as goal

abbrev pub invariant-loop-b : goal.invariant-loop-b
invariant-loop-b l = (l.value < 10 ^ l.b-index) × (digits_after l.base l.value (drop l.b-index l.digits) ≡ digits_after l.base 0 l.digits)
