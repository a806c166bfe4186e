-- The numbers that stand at the end of a line.
use Rattle.std.specs.Prelude.{ℕ, cond, ◌&&◌, List, [], ◌∷◌, length, ℤ, pos, Some, None, Option, nat_le}
use Rattle.arrays.specs.declared.list.FixedList.{FixedList}
use Rattle.arrays.specs.Lists.{list_from as fixed_list}
use Rattle.lines.specs.declared.number.Radix.{Radix}
use Rattle.lines.specs.Numbers.{number_in}

-- the list of up to seven that holds these numbers, with zeros behind them
abbrev pub list_from : List ℤ → FixedList ℤ 7
list_from xs = fixed_list 7 (pos 0) xs

-- the number that the first of some words writes
abbrev pub first_number : Radix → List (List ℕ) → Option ℤ
first_number r [] = None
first_number r (w ∷ ws) = number_in r w

-- a number in front of others, if all are numbers
abbrev pub in_front : Option ℤ → Option (List ℤ) → Option (List ℤ)
in_front None xs = None
in_front (Some x) None = None
in_front (Some x) (Some xs) = Some (x ∷ xs)

-- the numbers that words write, if each writes one
abbrev pub all_numbers : Radix → List (List ℕ) → Option (List ℤ)
all_numbers r [] = Some []
all_numbers r (w ∷ ws) = in_front (number_in r w) (all_numbers r ws)

-- 1 to 7 numbers
abbrev pub number_list : Radix → List (List ℕ) → Option (List ℤ)
number_list r ws = cond (nat_le 1 (length ws) && nat_le (length ws) 7) (all_numbers r ws) None
