-- What checks are made of.
use Rattle.std.specs.Prelude.{ℕ, ◌-◌, ◌^◌, Bool, cond, ◌&&◌, List, ℤ, pos, negsuc, int_le}
use Rattle.std.specs.List.{list_all}

-- one check in a row of them: the refusal's number where it fails, else what the rest answers
abbrev pub checked : Bool → ℕ → ℕ → ℕ
checked fits refusal rest = cond fits rest refusal

-- low ≤ z ≤ high
abbrev pub between : ℤ → ℤ → ℤ → Bool
between low high z = int_le low z && int_le z high

-- and so for each of a list
abbrev pub all_between : ℤ → ℤ → List ℤ → Bool
all_between low high zs = list_all (between low high) zs

-- a tap is from −127 to 127
abbrev pub tap_fits : ℤ → Bool
tap_fits h = between (negsuc 126) (pos 127) h

-- and so each of them
abbrev pub taps_fit : List ℤ → Bool
taps_fit hs = all_between (negsuc 126) (pos 127) hs

-- the largest number of n binary digits
abbrev pub largest : ℕ → ℤ
largest n = pos (2 ^ n - 1)
