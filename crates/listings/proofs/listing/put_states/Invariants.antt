use Rattle.std.proofs.Common.{◌≡◌, vec_items}
use Rattle.listings.specs.Listings.{with_states}
use Rattle.listings.proofs.listing.put_states.Given as goal

abbrev pub invariant-loop-state : goal.invariant-loop-state
invariant-loop-state g l = vec_items l.out ≡ with_states (g.T.Trellis.meaning l.trellis) (vec_items l.initial.out) l.state
