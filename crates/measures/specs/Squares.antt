-- What square costs.
use Rattle.std.specs.Prelude.{ℕ, ◌*◌, ℤ, ◌-ℤ◌, unsigned_abs}

-- how far apart two numbers are
abbrev pub distance : ℤ → ℤ → ℕ
distance a b = unsigned_abs (a -ℤ b)

-- the difference of label and sample, squared
abbrev pub square : ℤ → ℤ → ℕ
square label sample = distance label sample * distance label sample
