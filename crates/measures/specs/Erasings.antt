-- What erasing costs over the measure below.
use Rattle.std.specs.Prelude.{ℕ, Bool, false, cond, ℤ, pos, negsuc, ◌==◌}
use Rattle.model.specs.Ranges.{erased_mark}

-- whether two numbers are one
abbrev pub same : ℤ → ℤ → Bool
same (pos a) (pos b) = a == b
same (pos a) (negsuc b) = false
same (negsuc a) (pos b) = false
same (negsuc a) (negsuc b) = a == b

-- nothing for the erased sample, whatever the label, and what the measure below costs for every other
abbrev pub erasing : (ℤ → ℤ → ℕ) → ℤ → ℤ → ℕ
erasing below label sample = cond (same sample erased_mark) 0 (below label sample)
