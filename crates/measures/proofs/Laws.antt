-- The bound of each measure by itself, for those who build on them.
use Rattle.std.proofs.Common.{◌≤◌, ℤ, arith, rules}
use Rattle.model.specs.Ranges.{InRange, most_cost}
use Rattle.measures.specs.declared.bits.Bits.{Bits}
use Rattle.measures.specs.BitCounts.{form, bit_count}
use Rattle.measures.specs.Squares.{square}
use Rattle.measures.specs.Counting.{differing_le}

pub square_bounded : (label sample : ℤ) → InRange label → InRange sample → square label sample ≤ most_cost
square_bounded label sample x y = search rules

pub bits_bounded : (m : Bits) (label sample : ℤ) → bit_count m.width label sample ≤ most_cost
bits_bounded m label sample = omega (arith, differing_le m.width (form label) (form sample))
