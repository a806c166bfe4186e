-- The samples of a payload.
use Rattle.std.specs.Prelude.{ℕ, cond, List, [], ◌∷◌, ℤ, pos, ◌-ℤ◌, nat_lt}
use Rattle.blocks.specs.Blocks.{number_of}

-- a number of 16 bits as a signed one, in two's complement
abbrev pub signed : ℕ → ℤ
signed n = cond (nat_lt n 32768) (pos n) (pos n -ℤ pos 65536)

-- the sample of two bytes, the low one first
abbrev pub sample_of : ℕ → ℕ → ℤ
sample_of low high = signed (number_of low high)

-- two bytes a sample; a byte that is left over is none
abbrev pub samples_of : List ℕ → List ℤ
samples_of [] = []
samples_of (b ∷ []) = []
samples_of (low ∷ high ∷ bytes) = sample_of low high ∷ samples_of bytes
