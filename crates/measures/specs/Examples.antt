-- Worked costs.
use Rattle.std.specs.Prelude.{◌≡◌, ℤ, pos, negsuc}
use Rattle.model.specs.Ranges.{lowest, highest, erased_mark}
use Rattle.measures.specs.Squares.{square}
use Rattle.measures.specs.BitCounts.{bit_count, bits_check, bits_measure}
use Rattle.measures.specs.Erasings.{erasing}

pub record Examples : Type 0 where
  -- square: at the two ends, either way round, of -1 against 2, and of a label against itself
  pub square_up : square lowest highest ≡ 4294836225
  pub square_down : square highest lowest ≡ 4294836225
  pub square_three : square (negsuc 0) (pos 2) ≡ 9
  pub square_none : square lowest lowest ≡ 0
  -- bits: 3 and 2 differ in the lowest bit; -1 and 255 agree in eight bits, and -1 and 0 in none
  pub bits_two : bits_measure (pos 2) (pos 3) (pos 2) ≡ 1
  pub bits_eight : bits_measure (pos 8) (negsuc 0) (pos 255) ≡ 0
  pub bits_all : bits_measure (pos 8) (negsuc 0) (pos 0) ≡ 8
  pub bits_one : bits_measure (pos 1) (negsuc 0) (pos 0) ≡ 1
  -- the widths 0, 9 and -1 are refused and cost nothing, also where nine bits would differ
  pub width_none : bits_check (pos 0) ≡ 11
  pub width_one : bits_check (pos 1) ≡ 0
  pub width_eight : bits_check (pos 8) ≡ 0
  pub width_nine : bits_check (pos 9) ≡ 11
  pub width_below : bits_check (negsuc 0) ≡ 11
  pub bits_none : bits_measure (pos 0) (negsuc 0) (pos 0) ≡ 0
  pub nine_differ : bit_count 9 (negsuc 0) (pos 255) ≡ 1
  pub bits_nine : bits_measure (pos 9) (negsuc 0) (pos 255) ≡ 0
  pub bits_below : bits_measure (negsuc 0) (negsuc 0) (pos 0) ≡ 0
  -- erasing: the mark costs nothing as a sample, against every label, but as a label it costs
  pub erased_sample : (label : ℤ) → erasing square label erased_mark ≡ 0
  pub erased_label : erasing square erased_mark (pos 0) ≡ 1073741824
  pub near_the_mark : erasing square (pos 0) (negsuc 32766) ≡ 1073676289
  pub erased_bits : erasing (bits_measure (pos 8)) (negsuc 0) erased_mark ≡ 0
  pub kept_bits : erasing (bits_measure (pos 8)) (negsuc 0) (pos 0) ≡ 8
