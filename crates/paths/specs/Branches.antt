-- The branches of a trellis in one list.
use Rattle.std.specs.Prelude.{ℕ, ◌+◌, ◌*◌, ◌<◌, List, [], ◌∷◌, Some, None}
use Rattle.std.specs.List.{flat_map}
use Rattle.arrays.specs.Lists.{list_items}
use Rattle.arrays.specs.declared.list.FixedList.{FixedList}
use Rattle.model.specs.Trellises.{Branch, Diagram, most_letters}
use Rattle.paths.specs.Listings.{below}
use Rattle.paths.specs.declared.branch.ListedBranch.{ListedBranch}

-- the branch of the state s and the letter a as an entry, if there is one
abbrev pub listed : ℕ → ℕ → Branch → List ListedBranch
listed s a None = []
listed s a (Some b) = record { from = s; next = b.0; byte = s * most_letters + a; label = b.1 } ∷ []

-- the branches of the state s, in order of letters
unfoldable pub branches_from : Diagram → ℕ → List ListedBranch
branches_from d s = flat_map (λ a. listed s a (d.branch s a)) (below d.letters)

-- all branches, in order of state and letter
unfoldable pub branches_of : Diagram → List ListedBranch
branches_of d = flat_map (branches_from d) (below d.states)

-- what the code's list holds
abbrev pub branches_in : FixedList ListedBranch 256 → List ListedBranch
branches_in l = list_items l

-- a branch from one of m states to one of n
abbrev pub Within : ℕ → ℕ → ListedBranch → Type 0
Within m n b = (b.from < m) × (b.next < n)
