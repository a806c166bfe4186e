use Rattle.std.proofs.Common.{◌≡◌, drop, vec_items}
use Rattle.outcomes.specs.Outcomes.{with_digits}
use Rattle.outcomes.proofs.text.put_digits.Given as goal

abbrev pub invariant-loop-letter : goal.invariant-loop-letter
invariant-loop-letter l = with_digits (vec_items l.out) (drop l.letter-index l.letters) ≡ with_digits (vec_items l.initial.out) l.letters
