-- A measure: how far apart label and sample are.
use Rattle.std.specs.Prelude.{ℕ, ℤ, ◌-ℤ◌, unsigned_abs}

abbrev pub distance : ℤ → ℤ → ℕ
distance label sample = unsigned_abs (label -ℤ sample)
