-- The trellis in which every state and letter has a branch.
use Rattle.std.specs.Prelude.{ℕ, cond, ◌&&◌, ℤ, Some, None, nat_lt}
use Rattle.model.specs.Trellises.{Diagram}

-- so many states and letters, and what the branch of each is
abbrev pub full : ℕ → ℕ → (ℕ → ℕ → ℕ × ℤ) → Diagram
full states letters branch = record { states = states; letters = letters; branch = λ s a. cond (nat_lt s states && nat_lt a letters) (Some (branch s a)) None }
