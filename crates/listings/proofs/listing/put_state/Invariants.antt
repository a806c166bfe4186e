use Rattle.std.proofs.Common.{◌≡◌, vec_items}
use Rattle.listings.specs.Listings.{with_state}
use Rattle.listings.proofs.listing.put_state.Given as goal

abbrev pub invariant-loop-letter : goal.invariant-loop-letter
invariant-loop-letter g l = vec_items l.out ≡ with_state (g.T.Trellis.meaning l.trellis) (vec_items l.initial.out) l.state l.letter
