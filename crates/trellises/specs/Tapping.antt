-- The sums of taps, one tap on; and the laws of a channel with taps.
use Rattle.std.specs.Prelude.{◌≡◌, ℕ, suc, ◌+◌, ◌-◌, ◌*◌, ◌/◌, ◌%◌, ◌^◌, ◌<◌, ◌≤◌, Bool, true, false, ◌||◌, List, [], ◌∷◌, length, take, drop, ℤ, pos, negsuc, ◌+ℤ◌, ◌*ℤ◌, ◌==◌, slice_index_or, unsigned_abs, refl}
use Rattle.std.proofs.Common.{ap, sym, subst, ◌∙◌, pow-suc, mul_comm, mul-div_cancel, mul-le-mul, arith, rules}
use Rattle.std.proofs.Math.Nat.{pow-succ', one-le-pow, pow-le-pow_right}
use Rattle.std.proofs.Math.Arith.{digits_lt}
use Rattle.std.specs.List.{AllByRecursion}
use Rattle.std.proofs.lemmas.Nat.{div_below}
use Rattle.std.proofs.lemmas.List.{drop_more}
use Rattle.std.proofs.lemmas.Int.{ints, unsigned_abs-mul}
use Rattle.std.proofs.lemmas.Bool.Decides.{nat_tests}
use Rattle.std.proofs.lemmas.Bool.{and_parts}
use Rattle.model.specs.Ranges.{InRange}
use Rattle.model.specs.Trellises.{Lawful, most_states}
use Rattle.trellises.specs.Checks.{checked, tap_fits, taps_fit}
use Rattle.trellises.specs.Digits.{written, digits_of}
use Rattle.trellises.specs.Taps.{level, tapped, memory, last_letters, next_state, taps_label, taps, most_taps, taps_check}
use Rattle.trellises.specs.Filling.{full_lawful}
use Rattle.trellises.specs.Writing.{written_digits, digits_below, take_digits, digits_above}

level_size : (letters a : ℕ) → a < letters → letters ≤ 4 → unsigned_abs (level letters a) ≤ 3
level_size letters a h few = omega (arith, ints)

tap_size : (h : ℤ) → tap_fits h ≡ true → unsigned_abs h ≤ 127
tap_size h e = grind (arith, ints)

-- what one tap adds
pub term_size : (letters a : ℕ) (h : ℤ) → a < letters → letters ≤ 4 → tap_fits h ≡ true → unsigned_abs (h *ℤ level letters a) ≤ 381
term_size letters a h below few e = rw unsigned_abs-mul (mul-le-mul (tap_size h e) (level_size letters a below few))

-- what all taps add
pub tapped_size : (letters : ℕ) (hs : List ℤ) (ls : List ℕ) → letters ≤ 4 → taps_fit hs ≡ true → AllByRecursion (λ a. a < letters) ls → unsigned_abs (tapped letters hs ls) ≤ 381 * length hs
tapped_size letters [] ls few e below = omega arith
tapped_size letters (h ∷ hs) [] few e below = omega arith
tapped_size letters (h ∷ hs) (a ∷ ls) few e below =
    let p = and_parts (tap_fits h) (taps_fit hs) e in
    let here = term_size letters a h below.0 few p.0 in
    let later = tapped_size letters hs ls few p.1 below.1 in
    omega (arith, ints)

-- a place is the next one, raised by a letter
raised : (letters : ℕ) (hs : List ℤ) (i place : ℕ) → i < length hs → place ≡ letters ^ length (drop i hs) → place ≡ letters ^ length (drop (i + 1) hs) * letters
raised letters hs i place within placed = placed ∙ rw (drop_more hs i (pos 0) within) (pow-suc letters (length (drop (i + 1) hs)))

-- one turn: the newest letter of a register that is below its place, and what is left of both
pub record Turn (letters : ℕ) (hs : List ℤ) (i place rest : ℕ) : Type 0 where
  pub some : 0 < place / letters
  pub place_left : place / letters ≡ letters ^ length (drop (i + 1) hs)
  pub letter : rest / (place / letters) < letters
  pub adds : tapped letters (drop i hs) (digits_of letters (length (drop i hs)) rest) ≡ (slice_index_or hs i (pos 0) *ℤ level letters (rest / (place / letters))) +ℤ tapped letters (drop (i + 1) hs) (digits_of letters (length (drop (i + 1) hs)) (rest % (place / letters)))

pub turn : (letters : ℕ) (hs : List ℤ) (i place rest : ℕ) → 2 ≤ letters → i < length hs → place ≡ letters ^ length (drop i hs) → rest < place → Turn letters hs i place rest
turn letters hs i place rest two within placed below =
    let left = drop (i + 1) hs in
    let whole : place ≡ letters ^ length left * letters = raised letters hs i place within placed in
    let after : place / letters ≡ letters ^ length left = rw whole (mul-div_cancel (letters ^ length left) (omega arith)) in
    let some : 0 < place / letters = rw after (one-le-pow (length left) letters (omega arith)) in
    record {
      some = some;
      place_left = after;
      letter = div_below rest (place / letters) letters some (rw after (omega (arith, whole)));
      adds = rw (after, drop_more hs i (pos 0) within);
    }

-- a state below a new letter, and the digits of the two together
module _ (letters : ℕ) (hs : List ℤ) (s a : ℕ) (tap : 1 ≤ length hs) (state : s < letters ^ memory hs) (letter : a < letters) where
  counted : suc (memory hs) ≡ length hs
  counted = omega arith

  as_digits : digits_of letters (length hs) (a * letters ^ memory hs + s) ≡ last_letters letters hs s a
  as_digits = ap (λ n. digits_of letters n (a * letters ^ memory hs + s)) (sym counted) ∙ digits_above letters (memory hs) a s state

  pub register_below : a * letters ^ memory hs + s < letters ^ length hs
  register_below = subst (λ n. a * letters ^ memory hs + s < letters ^ n) counted (rw (pow-succ' letters (memory hs)) (digits_lt letter state))

  pub label_is : tapped letters hs (digits_of letters (length hs) (a * letters ^ memory hs + s)) ≡ taps_label letters hs s a
  label_is = ap (tapped letters hs) as_digits

  pub next_below : (a * letters ^ memory hs + s) / letters < letters ^ memory hs
  next_below = div_below (a * letters ^ memory hs + s) letters (letters ^ memory hs) (omega arith) (omega (arith, mul_comm (letters ^ memory hs) letters, digits_lt letter state))

  pub next_is : (a * letters ^ memory hs + s) / letters ≡ next_state letters hs s a
  next_is =
      sym (written_digits letters (omega arith) (memory hs) ((a * letters ^ memory hs + s) / letters) next_below)
      ∙ ap (written letters) (sym (take_digits letters (omega arith) (memory hs) (a * letters ^ memory hs + s)) ∙ ap (take (memory hs)) (digits_above letters (memory hs) a s state))

  pub letters_shift : digits_of letters (memory hs) (next_state letters hs s a) ≡ take (memory hs) (last_letters letters hs s a)
  letters_shift =
      ap (digits_of letters (memory hs)) (sym next_is) ∙ sym (take_digits letters (omega arith) (memory hs) (a * letters ^ memory hs + s))
      ∙ ap (take (memory hs)) (digits_above letters (memory hs) a s state)

  letters_below : AllByRecursion (λ b. b < letters) (last_letters letters hs s a)
  letters_below = (letter, digits_below letters (omega arith) (memory hs) s state)

-- the laws, for few letters, taps and states
module _ (letters : ℕ) (hs : List ℤ) (some : 1 ≤ letters) (four : letters ≤ 4) (tap : 1 ≤ length hs) (seven : length hs ≤ 7) (small : taps_fit hs ≡ true) where
  label_range : (ls : List ℕ) → AllByRecursion (λ b. b < letters) ls → InRange (tapped letters hs ls)
  label_range ls below = let size = tapped_size letters hs ls four small below in (omega (arith, ints), omega (arith, ints))

  pub taps_lawful : letters ^ memory hs ≤ most_states → Lawful (taps letters hs)
  taps_lawful few =
      full_lawful (letters ^ memory hs) letters _ (one-le-pow (memory hs) letters some) few some four
      (λ s a h l. (rw (← next_is letters hs s a tap h l) (next_below letters hs s a tap h l), label_range (last_letters letters hs s a) (letters_below letters hs s a tap h l)))

-- a check that goes on to 0 held
passed : (b : Bool) (r rest : ℕ) → 0 < r → 0 ≡ checked b r rest → (b ≡ true) × (0 ≡ rest)
passed true r rest h e = (refl, e)
passed false r rest h e = absurd (omega arith)

-- as many taps as there may be make few states
two_few : (k : ℕ) → k ≤ 7 → 2 ^ (k - 1) ≤ most_states
two_few k h = let p : k - 1 ≤ 6 = omega arith in pow-le-pow_right {n = 2} (omega arith) p

four_few : (k : ℕ) → k ≤ 4 → 4 ^ (k - 1) ≤ most_states
four_few k h = let p : k - 1 ≤ 3 = omega arith in pow-le-pow_right {n = 4} (omega arith) p

-- and so for two letters or four
few : (n k : ℕ) → (n == 2 || n == 4) ≡ true → k ≤ most_taps n → (2 ≤ n) × (n ≤ 4) × (k ≤ 7) × (n ^ (k - 1) ≤ most_states)
few n k e h = (grind (arith, nat_tests), grind (arith, nat_tests), grind (arith, nat_tests), grind (arith, two_few, four_few, nat_tests))

-- what an accepted check says
pub accepted : (letters : ℤ) (hs : List ℤ) → 0 ≡ taps_check letters hs → record { within : length hs ≤ 7; small : taps_fit hs ≡ true }
accepted letters hs e = search rules

pub accepted_sizes : (letters : ℤ) (hs : List ℤ) → 0 ≡ taps_check letters hs → record { two : 2 ≤ unsigned_abs letters; four : unsigned_abs letters ≤ 4; some : 1 ≤ length hs }
accepted_sizes (pos n) hs e = record { two = grind (arith, nat_tests); four = grind (arith, nat_tests); some = grind (arith, nat_tests) }
accepted_sizes (negsuc n) hs e = absurd (omega arith)

pub accepted_few : (letters : ℤ) (hs : List ℤ) → 0 ≡ taps_check letters hs → unsigned_abs letters ^ memory hs ≤ most_states
accepted_few (pos n) hs e = grind (arith, two_few, four_few, nat_tests)
accepted_few (negsuc n) hs e = absurd (omega arith)
