-- The words and the laws of a code.
use Rattle.std.specs.Prelude.{◌≡◌, ℕ, suc, ◌+◌, ◌-◌, ◌*◌, ◌/◌, ◌%◌, ◌^◌, ◌<◌, ◌≤◌, List, [], ◌∷◌, map, length, ℤ, pos, bit_or, bit_xor, unsigned_abs}
use Rattle.std.proofs.Common.{sym, subst, ◌∙◌, lit<, mod-lt, pow-suc, lt_of_lt_of_le, add-one, arith, pow_pos, pow_mono}
use Rattle.std.proofs.Math.Nat.{mod-eq_of_lt}
use Rattle.std.proofs.Math.Arith.{digits_lt}
use Rattle.std.specs.List.{AllByRecursion, fold}
use Rattle.std.proofs.lemmas.Nat.{div_below, xor_lt, or_shifted}
use Rattle.std.proofs.lemmas.List.{length-map}
use Rattle.std.proofs.lemmas.List.Folds.{fold-map}
use Rattle.std.proofs.lemmas.Int.{ints}
use Rattle.model.specs.Ranges.{InRange}
use Rattle.model.specs.Trellises.{Lawful}
use Rattle.trellises.specs.Codes.{register, code_bit, code_word, code}
use Rattle.trellises.specs.Filling.{full_lawful}
use Rattle.trellises.specs.Writing.{written_step, written_below}

-- a bit is 0 or 1
pub code_bit_below : (r g : ℕ) → code_bit r g < 2
code_bit_below r g = mod-lt _ (omega arith)

bits_below : (r : ℕ) (gs : List ℕ) → AllByRecursion (λ d. d < 2) (map (code_bit r) gs)
bits_below r [] = tt
bits_below r (g ∷ gs) = (code_bit_below r g, bits_below r gs)

-- n generators give n bits
pub code_word_below : (gs : List ℕ) (r : ℕ) → code_word gs r < 2 ^ length gs
code_word_below gs r = simp length-map at (written_below 2 (map (code_bit r) gs) (bits_below r gs))

-- one more bit
pub bit_in : (w d i : ℕ) → w < 2 ^ i → d < 2 → 2 * w + d < 2 ^ (i + 1)
bit_in w d i h k = rw (add-one i, pow-suc 2 i) (omega arith)

-- and so where it is shifted in
shifted : (w d i : ℕ) → w < 2 ^ i → i < 32 → d < 2 → bit_or (w * 2 ^ 1 % 2 ^ 32) d ≡ 2 * w + d
shifted w d i h room k =
    let low : i ≤ 31 = omega arith in
    let top : 2 ^ i ≤ 2 ^ 31 = pow_mono low in
    let fits : w * 2 < 2 ^ 32 = omega arith in
    rw (mod-eq_of_lt fits) (or_shifted w 1 d k ∙ omega arith)

-- bits that are shifted in one by one write the word
shifted_word : (r w i : ℕ) (gs : List ℕ) → w < 2 ^ i → i + length gs ≤ 32 → fold (λ w g. bit_or (w * 2 ^ 1 % 2 ^ 32) (code_bit r g)) w gs ≡ w * 2 ^ length gs + code_word gs r
shifted_word r w i [] h room = omega arith
shifted_word r w i (g ∷ gs) h room =
    let d = code_bit r g in
    let below = code_bit_below r g in
    let P : ℕ → Type 0 = λ n. (2 * w + d) * 2 ^ n + code_word gs r ≡ w * 2 ^ suc n + code_word (g ∷ gs) r in
    rw (shifted w d i h (omega arith) below) (shifted_word r (2 * w + d) (i + 1) gs (bit_in w d i h below) (omega arith) ∙ subst P (length-map gs (code_bit r)) (written_step 2 w d (map (code_bit r) gs)))

-- and so for few generators, as they are given
pub shifted_in : (r : ℕ) (gs : List ℤ) → length gs ≤ 4 → fold (λ w g. bit_or (w * 2 ^ 1 % 2 ^ 32) (code_bit r (unsigned_abs g))) 0 gs ≡ code_word (map unsigned_abs gs) r
shifted_in r gs few =
    let hs = map unsigned_abs gs in
    let room : 0 + length hs ≤ 32 = omega (arith, length-map gs unsigned_abs) in
    let whole : 0 * 2 ^ length hs + code_word hs r ≡ code_word hs r = omega arith in
    sym (fold-map _ unsigned_abs 0 gs) ∙ shifted_word r 0 0 hs (lit< tt) room ∙ whole

-- the label is a word of the generators' number of bits
label_below : (v : ℕ) (gs : List ℕ) (r : ℕ) → v < 2 ^ length gs → bit_xor (code_word gs r) v < 2 ^ length gs
label_below v gs r h = xor_lt (length gs) (code_word gs r) v (code_word_below gs r) h

-- few generators make a small label
pub label_small : (v : ℕ) (gs : List ℕ) (r : ℕ) → length gs ≤ 4 → v < 2 ^ length gs → bit_xor (code_word gs r) v < 16
label_small v gs r few h = lt_of_lt_of_le (label_below v gs r h) (pow_mono few)

-- a small number is in range
pub in_range : (n : ℕ) → n < 16 → InRange (pos n)
in_range n h = (omega (arith, ints), omega (arith, ints))

-- the states of a code, as a number and at most
module _ (k v : ℕ) (gs : List ℕ) where
  -- half of a register is a state
  next_below : (s a : ℕ) → s < 2 ^ (k - 1) → a < 2 → register k s a / 2 < 2 ^ (k - 1)
  next_below s a h l = div_below (register k s a) 2 (2 ^ (k - 1)) (omega arith) (omega (arith, digits_lt l h))

  pub code_lawful : 1 ≤ k → k ≤ 7 → length gs ≤ 4 → v < 2 ^ length gs → Lawful (code k v gs)
  code_lawful some short few inverts =
      let less : k - 1 ≤ 6 = omega arith in
      full_lawful (2 ^ (k - 1)) 2 _ (pow_pos (k - 1)) (pow_mono less) (omega arith) (omega arith)
      (λ s a h l. (next_below s a h l, in_range _ (label_small v gs (register k s a) few inverts)))
