use Rattle.std.proofs.Common.{◌≡◌, ◌*◌, ◌≤◌, length}
use Rattle.std.specs.List.{flat_map}
use Rattle.paths.specs.Listings.{below}
use Rattle.paths.specs.Branches.{branches_from, branches_in}
use Rattle.paths.proofs.branches.list_branches.Given as goal

abbrev pub invariant-loop-state : goal.invariant-loop-state
invariant-loop-state g l =
    (branches_in l.list ≡ flat_map (branches_from (g.T.Trellis.meaning l.trellis)) (below l.state)) × (length (branches_in l.list) ≤ l.state * 4)
