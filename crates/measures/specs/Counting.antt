-- The bits that differ are the ones of the exclusive or.
use Rattle.std.specs.Prelude.{◌≡◌, ℕ, zero, suc, ◌+◌, ◌-◌, ◌*◌, ◌/◌, ◌%◌, ◌^◌, ◌<◌, ◌≤◌, bit_and, bit_xor}
use Rattle.std.proofs.Common.{sym, ap, ap₂, ◌∙◌, mod-lt, add-one, arith, lit<}
use Rattle.std.proofs.Math.Nat.{mod-one}
use Rattle.std.specs.Int.Count.{ones, ones_in, ones_step}
use Rattle.std.proofs.lemmas.Nat.{xor_mod, xor_shr, xor_lt, mod-pow-add, and_mask, one_shl}
use Rattle.measures.specs.BitCounts.{differing}

pub differing_le : (w a b : ℕ) → differing w a b ≤ w
differing_le zero a b = omega arith
differing_le (suc w) a b =
    let h : bit_xor (a % 2) (b % 2) < 2 ^ 1 = xor_lt 1 (a % 2) (b % 2) (mod-lt a (lit< tt)) (mod-lt b (lit< tt)) in
    omega (arith, differing_le w (a / 2) (b / 2))

-- the lowest bit of a number's lowest w + 1 bits, and the rest of them
low_bits : (w x : ℕ) → x % 2 ^ suc w ≡ x / 2 % 2 ^ w * 2 + x % 2
low_bits w x = ap (λ k. x % 2 ^ k) (sym (add-one w)) ∙ mod-pow-add x w 1

low_bit : (w x : ℕ) → x % 2 ^ suc w % 2 ≡ x % 2
low_bit w x = omega (arith, low_bits w x)

rest_bits : (w x : ℕ) → x % 2 ^ suc w / 2 ≡ x / 2 % 2 ^ w
rest_bits w x = omega (arith, low_bits w x)

pub ones_differing : (w a b : ℕ) → ones (bit_xor a b % 2 ^ w) ≡ differing w a b
unfolding ones ones_in
ones_differing zero a b = ap ones (mod-one (bit_xor a b))
ones_differing (suc w) a b =
    ones_step (bit_xor a b % 2 ^ suc w)
    ∙ ap₂ (λ l h. l + ones h) (low_bit w (bit_xor a b) ∙ xor_mod a b 1) (rest_bits w (bit_xor a b) ∙ ap (λ x. x % 2 ^ w) (xor_shr a b 1))
    ∙ ap (λ r. bit_xor (a % 2) (b % 2) + r) (ones_differing w (a / 2) (b / 2))

-- the same, with the lowest bits kept by a mask
pub ones_masked : (w a b : ℕ) → w < 16 → ones (bit_and (bit_xor a b) (1 * 2 ^ w % 2 ^ 16 - 1)) ≡ differing w a b
ones_masked w a b h =
    ap (λ m. ones (bit_and (bit_xor a b) (m - 1))) (one_shl w 16 h) ∙ ap ones (and_mask (bit_xor a b) w) ∙ ones_differing w a b
