-- Digits in a base, the most significant first.
use Rattle.std.specs.Prelude.{ℕ, zero, suc, ◌+◌, ◌*◌, ◌/◌, ◌%◌, ◌^◌, List, [], ◌∷◌, length}

-- the number that they write
abbrev pub written : ℕ → List ℕ → ℕ
written base [] = 0
written base (d ∷ ds) = d * base ^ length ds + written base ds

-- the n digits of a number below base ^ n
abbrev pub digits_of : ℕ → ℕ → ℕ → List ℕ
digits_of base zero x = []
digits_of base (suc n) x = x / base ^ n ∷ digits_of base n (x % base ^ n)
