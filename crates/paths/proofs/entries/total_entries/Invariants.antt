use Rattle.std.proofs.Common.{◌≡◌, cond, get_or}
use Rattle.paths.specs.Paths.{permits}
use Rattle.paths.specs.Listings.{below}
use Rattle.paths.specs.Sums.{total}
use Rattle.paths.proofs.entries.total_entries.Given as goal

abbrev pub invariant-loop-s : goal.invariant-loop-s
invariant-loop-s g l = let r = g.A.Algebra.semiring in l.sum ≡ total r (λ s. cond (permits l.end s) (get_or l.row s r.zero) r.zero) (below l.s)
