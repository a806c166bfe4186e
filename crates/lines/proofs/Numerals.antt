-- Digits and the numbers that they write.
use Rattle.std.proofs.Common.{◌≡◌, ℕ, zero, suc, ◌+◌, ◌-◌, ◌*◌, ◌^◌, ◌<◌, ◌≤◌, Bool, true, false, cond, ltb, leb, List, [], ◌∷◌, length, get_or, take, drop, pos, ◌-ℤ◌, Some, None, Option, sym, refl, ap, ◌∙◌, mul-le-mul_left, pow-suc, add-one, arith, w32, to_z, of_z, le-leb}
use native.Mathlib.Nat.{pow-le-pow_right}
use Rattle.std.proofs.lemmas.List.{at_drop_more, at_drop_all, take_rest}
use Rattle.std.proofs.lemmas.Bool.{and_parts, ltb-true, leb-true}
use Rattle.std.proofs.lemmas.Int.{ints}
use Rattle.std.specs.Option.{option_map}
use Rattle.lines.specs.Numbers.{is_digit, digits_after, numeral, negative, decimal}

module _ (base b : ℕ) where
  told_some : (t : Bool) (d : ℕ) → Some d ≡ cond t (Some (b - 48)) None → (t ≡ true) × (d ≡ b - 48)
  told_some true d e = (refl, cc)
  told_some false d e = let z : ◌≡◌ {A = ℕ} 0 1 = cc in absurd (omega arith)

  told_none : (t : Bool) → None ≡ cond t (Some (b - 48)) None → t ≡ false
  told_none true e = let z : ◌≡◌ {A = ℕ} 0 1 = cc in absurd (omega arith)
  told_none false e = refl

  -- a digit that was found
  pub digit_found : (d : ℕ) → Some d ≡ cond (is_digit base b) (Some (b - 48)) None → (is_digit base b ≡ true) × (d ≡ b - 48)
  digit_found d = told_some (is_digit base b) d

  pub digit_missing : None ≡ cond (is_digit base b) (Some (b - 48)) None → is_digit base b ≡ false
  digit_missing = told_none (is_digit base b)

  pub digit_below : is_digit base b ≡ true → b - 48 < base
  digit_below e = let p = and_parts (leb 48 b) (ltb b (48 + base)) e in omega (arith, leb-true _ _ p.0, ltb-true _ _ p.1)

-- one digit more keeps below the next power of ten
pub digit_room : (base v d i : ℕ) → base ≤ 10 → d < base → v < 10 ^ i → v * base + d < 10 ^ (i + 1)
digit_room base v d i h k l =
    let a : v * base ≤ v * 10 = mul-le-mul_left v h in
    let p : 10 ^ (i + 1) ≡ 10 ^ i * 10 = rw add-one (pow-suc 10 i) in
    omega arith

-- up to six digits stay below a million
pub million : (v i : ℕ) → i ≤ 6 → v < 10 ^ i → v < 10 ^ 6
million v i h k = let p : 10 ^ i ≤ 10 ^ 6 = pow-le-pow_right (omega arith) h in omega arith

module _ (base : ℕ) (bs : List ℕ) (i : ℕ) (within : i < length bs) where
  head : (n : ℕ) → digits_after base n (drop i bs) ≡ cond (is_digit base (get_or bs i 0)) (digits_after base (n * base + (get_or bs i 0 - 48)) (drop (i + 1) bs)) None
  head n = at_drop_more (digits_after base n) bs i 0 within

  pub digits_step : (n d : ℕ) (all : Option ℕ) → is_digit base (get_or bs i 0) ≡ true → d ≡ get_or bs i 0 - 48 → digits_after base n (drop i bs) ≡ all → digits_after base (n * base + d) (drop (i + 1) bs) ≡ all
  digits_step n d all e hd inv = ap (λ (x : ℕ). digits_after base (n * base + x) (drop (i + 1) bs)) hd ∙ sym (head n ∙ rw e) ∙ inv

  pub digits_broken : (n : ℕ) (all : Option ℕ) → is_digit base (get_or bs i 0) ≡ false → digits_after base n (drop i bs) ≡ all → None ≡ all
  digits_broken n all e inv = sym (head n ∙ rw e) ∙ inv

pub digits_done : (base : ℕ) (bs : List ℕ) (i n : ℕ) (all : Option ℕ) → length bs ≤ i → digits_after base n (drop i bs) ≡ all → Some n ≡ all
digits_done base bs i n all h inv = sym (at_drop_all (digits_after base n) bs i h) ∙ inv

-- 1 to 6 bytes write what their digits write
pub numeral_is : (base : ℕ) (bs : List ℕ) → (length bs ≡ 0 → ⊥) → length bs ≤ 6 → digits_after base 0 bs ≡ numeral base bs
numeral_is base bs some few =
    let a : leb 1 (length bs) ≡ true = le-leb _ _ (omega arith) in
    let b : leb (length bs) 6 ≡ true = le-leb _ _ few in
    rw (a, b)

-- a word with a minus in front, whose digits a slice pattern names
pub minus_is : (w : List ℕ) (o : Option ℕ) → 1 ≤ length w → get_or w 0 0 ≡ 45 → o ≡ numeral 10 (take (length w - 1) (drop 1 w)) → option_map negative o ≡ decimal w
minus_is [] o some h e = absurd (omega arith)
minus_is (b ∷ bs) o some h e = ap (option_map negative) (e ∙ ap (numeral 10) (take_rest (b ∷ bs) 1)) ∙ rw h

-- what the code computes of a number behind a minus
pub minus_value : (n : ℕ) → n < 10 ^ 6 → to_z w32 (of_z w32 (pos 0 -ℤ to_z w32 n)) ≡ negative n
minus_value zero h = refl
minus_value (suc n) h = omega (arith, ints)
