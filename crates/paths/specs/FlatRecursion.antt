-- What the branches of a list bring, which the pass over the list follows.
use Rattle.std.specs.Prelude.{ℕ, cond, List, ℤ, fold, ◌==◌, slice_index_or, slice_set}
use Rattle.algebras.specs.Semirings.{Semiring}
use Rattle.paths.specs.declared.branch.ListedBranch.{ListedBranch}

-- what a listed branch brings into t of the weights that a row has
abbrev pub branch_brings : {W : Type 0} → (ℤ → ℤ → ℕ) → Semiring W → ℤ → (ℕ → W) → ℕ → ListedBranch → W
branch_brings cost r x row t b = cond (t == b.next) (r.times (row b.from) (r.weight (cost b.label x))) r.zero

-- another row, after that was added at the branch's next state
abbrev pub with_listed_branch : {W : Type 0} → (ℤ → ℤ → ℕ) → Semiring W → ℤ → (ℕ → W) → List W → ListedBranch → List W
with_listed_branch cost r x row ws b = slice_set ws b.next (r.plus (slice_index_or ws b.next r.zero) (r.times (row b.from) (r.weight (cost b.label x))))

-- and that, after each branch of a list
abbrev pub with_branches : {W : Type 0} → (ℤ → ℤ → ℕ) → Semiring W → ℤ → (ℕ → W) → List W → List ListedBranch → List W
with_branches cost r x row ws bs = fold (with_listed_branch cost r x row) ws bs
