-- The numbers of a line.
use Rattle.std.specs.Prelude.{ℕ, ◌+◌, ◌-◌, ◌*◌, Bool, cond, ◌&&◌, List, [], ◌∷◌, length, ℤ, pos, neg_ℤ, Some, None, Option, ◌==◌, nat_le, nat_lt}
use Rattle.std.specs.Option.{option_map}
use Rattle.lines.specs.declared.number.Radix.{Radix}
use Rattle.lines.specs.declared.number.Radix.TheVariants.{Decimal, Octal}

-- a byte is a digit of the base
abbrev pub is_digit : ℕ → ℕ → Bool
is_digit base b = nat_le 48 b && nat_lt b (48 + base)

-- the number that digits write after those that wrote n, if all are digits of the base
abbrev pub digits_after : ℕ → ℕ → List ℕ → Option ℕ
digits_after base n [] = Some n
digits_after base n (b ∷ bs) = cond (is_digit base b) (digits_after base (n * base + (b - 48)) bs) None

-- 1 to 6 digits of a base
abbrev pub numeral : ℕ → List ℕ → Option ℕ
numeral base bs = cond (nat_le 1 (length bs) && nat_le (length bs) 6) (digits_after base 0 bs) None

abbrev pub negative : ℕ → ℤ
negative n = neg_ℤ (pos n)

-- an optional minus and 1 to 6 digits
abbrev pub decimal : List ℕ → Option ℤ
decimal [] = None
decimal (b ∷ bs) = cond (b == 45) (option_map negative (numeral 10 bs)) (option_map pos (numeral 10 (b ∷ bs)))

abbrev pub number_in : Radix → List ℕ → Option ℤ
number_in Decimal w = decimal w
number_in Octal w = option_map pos (numeral 8 w)
