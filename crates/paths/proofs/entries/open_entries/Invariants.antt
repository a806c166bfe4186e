use Rattle.std.proofs.Common.{◌≡◌, ℕ, ◌<◌, get_or}
use Rattle.paths.specs.Recursion.{opened}
use Rattle.paths.proofs.entries.open_entries.Given as goal

abbrev pub invariant-loop-s : goal.invariant-loop-s
invariant-loop-s g l = (k : ℕ) (d : _) → k < l.s → get_or l.entry-items k d ≡ opened g.A.Algebra.semiring l.start k
