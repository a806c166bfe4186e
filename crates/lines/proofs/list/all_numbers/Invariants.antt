use Rattle.std.proofs.Common.{length}
use Rattle.lines.specs.Lexers.{pending}
use Rattle.lines.proofs.NumberLists.{Reads}
use Rattle.lines.proofs.list.all_numbers.Given as goal

abbrev pub invariant-loop-word : goal.invariant-loop-word
invariant-loop-word l = Reads l.radix (pending l.initial.words) l.numbers (pending l.words)

abbrev pub decreases-loop-word : goal.decreases-loop-word
decreases-loop-word l = length (pending l.words)
