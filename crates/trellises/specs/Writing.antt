-- Numbers written digit by digit.
use Rattle.std.specs.Prelude.{◌≡◌, ℕ, zero, suc, ◌+◌, ◌*◌, ◌/◌, ◌%◌, ◌^◌, ◌<◌, ◌≤◌, List, [], ◌∷◌, map, length, take, drop, slice_index, refl}
use Rattle.std.proofs.Common.{ap, ap₂, sym, subst, ◌∙◌, pow-suc, add-mul, mul_assoc, mul_comm, mod-lt, div-add-mod', arith}
use Rattle.std.proofs.Math.Nat.{pow-zero, one-le-pow, div-div-eq-div-mul, pow-succ'}
use Rattle.std.proofs.Math.Arith.{digits_lt, digits_div, digits_mod, mod-mul, lt-one}
use Rattle.std.specs.List.{AllByRecursion}
use Rattle.std.proofs.lemmas.Nat.{div_below}
use Rattle.std.proofs.lemmas.List.{length-map, drop_more, drop_all}
use Rattle.trellises.specs.Digits.{written, digits_of}

-- one more digit is taken into the number so far
pub written_step : (base w d : ℕ) (ds : List ℕ) → (base * w + d) * base ^ length ds + written base ds ≡ w * base ^ length (d ∷ ds) + written base (d ∷ ds)
written_step base w d ds =
    let p = pow-suc base (length ds) in
    let q = add-mul (base * w) d (base ^ length ds) in
    let r : base * w * base ^ length ds ≡ w * base ^ suc (length ds) = rw p (ap (λ x. x * base ^ length ds) (mul_comm base w) ∙ mul_assoc w base (base ^ length ds) ∙ ap (λ x. w * x) (mul_comm base (base ^ length ds))) in
    omega arith

-- the same, where the digits are made of the rest of a list
pub written_more : (base : ℕ) (f : ℕ → ℕ) (w : ℕ) (xs : List ℕ) (i : ℕ) → i < length xs → (base * w + f (slice_index xs i)) * base ^ length (drop (i + 1) xs) + written base (map f (drop (i + 1) xs)) ≡ w * base ^ length (drop i xs) + written base (map f (drop i xs))
written_more base f w xs i h =
    let rest = drop (i + 1) xs in
    let d = f (slice_index xs i) in
    let P : ℕ → Type 0 = λ n. (base * w + d) * base ^ n + written base (map f rest) ≡ w * base ^ suc n + written base (d ∷ map f rest) in
    rw (drop_more xs i 0 h) (subst P (length-map rest f) (written_step base w d (map f rest)))

-- no digit is left
pub written_all : (base : ℕ) (f : ℕ → ℕ) (w : ℕ) (xs : List ℕ) (i : ℕ) → length xs ≤ i → w * base ^ length (drop i xs) + written base (map f (drop i xs)) ≡ w
written_all base f w xs i h = rw (drop_all i xs h, pow-zero base) (omega arith)

-- n digits write a number below base ^ n
pub written_below : (base : ℕ) (ds : List ℕ) → AllByRecursion (λ d. d < base) ds → written base ds < base ^ length ds
written_below base [] h = rw pow-zero (omega arith)
written_below base (d ∷ ds) h =
    rw (pow-suc base (length ds), mul_comm (base ^ length ds) base) (digits_lt h.0 (written_below base ds h.1))

pub length_digits : (base n x : ℕ) → length (digits_of base n x) ≡ n
length_digits base zero x = refl
length_digits base (suc n) x = ap suc (length_digits base n (x % base ^ n))

-- a digit set above others
pub digits_above : (base n d x : ℕ) → x < base ^ n → digits_of base (suc n) (d * base ^ n + x) ≡ d ∷ digits_of base n x
digits_above base n d x h = rw (digits_div d h, digits_mod d h)

module _ (base : ℕ) (some : 0 < base) where
  -- the digits of a number write it
  pub written_digits : (n x : ℕ) → x < base ^ n → written base (digits_of base n x) ≡ x
  written_digits zero x h = sym (lt-one (rw pow-zero at h))
  written_digits (suc n) x h =
      rw (length_digits base n (x % base ^ n), written_digits n (x % base ^ n) (mod-lt x (one-le-pow n base some))) (div-add-mod' x (base ^ n))

  -- each digit is below the base
  pub digits_below : (n x : ℕ) → x < base ^ n → AllByRecursion (λ d. d < base) (digits_of base n x)
  digits_below zero x h = tt
  digits_below (suc n) x h =
      let p : 0 < base ^ n = one-le-pow n base some in
      let k : x < base * base ^ n = rw (pow-suc base n, mul_comm (base ^ n) base) at h in
      (div_below x (base ^ n) base p k, digits_below n (x % base ^ n) (mod-lt x p))

  -- a quotient's remainder, and a remainder's quotient
  mod_div : (n x : ℕ) → x % base ^ suc n / base ≡ x / base % base ^ n
  mod_div n x =
      let p : 0 < base ^ n = one-le-pow n base some in
      rw (pow-suc base n, mod-mul x p some) (digits_div (x / base % base ^ n) (mod-lt x some))

  -- all but the last digit are the digits of the quotient
  pub take_digits : (n x : ℕ) → take n (digits_of base (suc n) x) ≡ digits_of base n (x / base)
  take_digits zero x = refl
  take_digits (suc n) x =
      let top : x / base ^ suc n ≡ x / base / base ^ n = rw (pow-succ' base n) (sym (div-div-eq-div-mul x base (base ^ n))) in
      ap₂ ◌∷◌ top (take_digits n (x % base ^ suc n) ∙ ap (digits_of base n) (mod_div n x))
