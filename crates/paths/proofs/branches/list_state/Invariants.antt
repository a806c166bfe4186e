use Rattle.std.proofs.Common.{◌≡◌, ◌+◌, ◌*◌, ◌≤◌, ◌++◌, length}
use Rattle.std.specs.List.{flat_map}
use Rattle.paths.specs.Listings.{below}
use Rattle.paths.specs.Branches.{listed, branches_in}
use Rattle.paths.proofs.branches.list_state.Given as goal

abbrev pub invariant-loop-letter : goal.invariant-loop-letter
invariant-loop-letter g l =
    let d = g.T.Trellis.meaning l.trellis in
    (branches_in l.list ≡ branches_in l.initial.list ++ flat_map (λ a. listed l.state a (d.branch l.state a)) (below l.letter))
    × (length (branches_in l.list) ≤ l.state * 4 + l.letter)
