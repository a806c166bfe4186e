-- The ranges of labels, samples and costs, and the sample that stands for none.
use Rattle.std.specs.Prelude.{ℕ, ℤ, pos, negsuc, ◌≤ℤ◌}

-- the lowest and the highest label or sample
abbrev pub lowest : ℤ
lowest = negsuc 32767

abbrev pub highest : ℤ
highest = pos 32767

abbrev pub InRange : ℤ → Type 0
InRange z = (lowest ≤ℤ z) × (z ≤ℤ highest)

-- the sample that was lost: it costs nothing under erasing
abbrev pub erased_mark : ℤ
erased_mark = lowest

-- the most that one label against one sample costs
abbrev pub most_cost : ℕ
most_cost = 4294967295
