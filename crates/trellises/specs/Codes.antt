-- The convolutional code of rate 1/n, by its constraint length k, inversion word v and n generators gs.
use Rattle.std.specs.Prelude.{ℕ, ◌+◌, ◌-◌, ◌*◌, ◌/◌, ◌%◌, ◌^◌, ◌&&◌, List, map, length, ℤ, pos, bit_and, bit_xor, count_ones, nat_le, unsigned_abs}
use Rattle.model.specs.declared.refusal.Refusal.TheVariants.{ConstraintLength, GeneratorCount, GeneratorValue, InversionWord}
use Rattle.model.specs.Refusals.{refusal_number}
use Rattle.model.specs.Trellises.{Diagram}
use Rattle.model.specs.Bare.{or_bare}
use Rattle.arrays.specs.Lists.{list_items}
use Rattle.trellises.specs.Bare.{unless_refused}
use Rattle.trellises.specs.Checks.{checked, between, all_between, largest}
use Rattle.trellises.specs.Digits.{written}
use Rattle.trellises.specs.Full.{full}
use Rattle.trellises.specs.declared.or_bare.OrBare.{OrBare}
use Rattle.trellises.specs.declared.code.encoder.Encoder.{Encoder}

-- the state below the new letter
abbrev pub register : ℕ → ℕ → ℕ → ℕ
register k s a = a * 2 ^ (k - 1) + s

-- a generator's bit: the parity of those digits of the register that it has
abbrev pub code_bit : ℕ → ℕ → ℕ
code_bit r g = count_ones (bit_and r g) % 2

-- the bits of the generators, the first one's highest
abbrev pub code_word : List ℕ → ℕ → ℕ
code_word gs r = written 2 (map (code_bit r) gs)

-- the label: the bits, each flipped where the inversion word has a one
abbrev pub code_label : ℕ → List ℕ → ℕ → ℤ
code_label v gs r = pos (bit_xor (code_word gs r) v)

-- the next state is the register without its lowest digit
abbrev pub code : ℕ → ℕ → List ℕ → Diagram
code k v gs = full (2 ^ (k - 1)) 2 (λ s a. (register k s a / 2, code_label v gs (register k s a)))

-- 0, or the first of the parameters that is out of range
abbrev pub code_check : ℤ → ℤ → List ℤ → ℕ
code_check k v gs =
    checked (between (pos 1) (pos 7) k) (refusal_number ConstraintLength)
    (checked (nat_le 1 (length gs) && nat_le (length gs) 4) (refusal_number GeneratorCount)
    (checked (all_between (pos 1) (largest (unsigned_abs k)) gs) (refusal_number GeneratorValue)
    (checked (between (pos 0) (largest (length gs)) v) (refusal_number InversionWord) 0)))

-- what the parameters make
abbrev pub code_trellis : ℤ → ℤ → List ℤ → Diagram
code_trellis k v gs = unless_refused (code_check k v gs) (code (unsigned_abs k) (unsigned_abs v) (map unsigned_abs gs))

-- the generators that an encoder holds
abbrev pub generators_of : Encoder → List ℕ
generators_of e = map unsigned_abs (list_items e.generators)

-- what an encoder means
abbrev pub encoder_meaning : Encoder → Diagram
encoder_meaning e = code e.constraint e.inversion (generators_of e)

-- what a code means
abbrev pub code_meaning : OrBare Encoder → Diagram
code_meaning t = or_bare encoder_meaning t.accepted
