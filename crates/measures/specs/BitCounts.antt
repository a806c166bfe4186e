-- What bits costs, and which widths it takes.
use Rattle.std.specs.Prelude.{ℕ, zero, suc, ◌+◌, ◌-◌, ◌/◌, ◌%◌, ◌^◌, Bool, false, cond, ◌&&◌, ℤ, pos, negsuc, bit_xor, nat_le, unsigned_abs}
use Rattle.model.specs.declared.refusal.Refusal.TheVariants.{BitsWidth}
use Rattle.model.specs.Refusals.{refusal_number}

-- the 16-bit two's complement form
abbrev pub form : ℤ → ℕ
form (pos n) = n
form (negsuc n) = 2 ^ 16 - suc n

-- how many of the lowest w bits of a and b differ
abbrev pub differing : ℕ → ℕ → ℕ → ℕ
differing zero a b = 0
differing (suc w) a b = bit_xor (a % 2) (b % 2) + differing w (a / 2) (b / 2)

-- how many of the lowest w bits of a label and a sample differ
abbrev pub bit_count : ℕ → ℤ → ℤ → ℕ
bit_count w label sample = differing w (form label) (form sample)

-- the widths are 1 to 8
abbrev pub is_width : ℤ → Bool
is_width (pos w) = nat_le 1 w && nat_le w 8
is_width (negsuc w) = false

-- whether a number is a width, as a check
abbrev pub bits_check : ℤ → ℕ
bits_check width = cond (is_width width) 0 (refusal_number BitsWidth)

-- what bits of a width costs, nothing at all where the width is refused
abbrev pub bits_measure : ℤ → ℤ → ℤ → ℕ
bits_measure width label sample = cond (is_width width) (bit_count (unsigned_abs width) label sample) 0
