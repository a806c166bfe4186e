-- Lists in an array of n places.
use Rattle.std.specs.Prelude.{ℕ, ◌+◌, ◌-◌, ◌≤◌, min, List, ◌++◌, length, take, replicate, slice_set}
use Rattle.std.proofs.Common.{arith}
use Rattle.std.proofs.lemmas.List.{length-take}
use Rattle.arrays.specs.declared.list.FixedList.{FixedList}

-- the list that holds these items, with a filler behind them
abbrev pub list_from : {T : Type 0} (n : ℕ) → T → List T → FixedList T n
list_from n filler xs = record { items = xs ++ replicate (n - length xs) filler; len = length xs }

-- the items that a list holds
abbrev pub list_items : {T : Type 0} {n : ℕ} → FixedList T n → List T
list_items {n = n} l = take (min l.len n) l.items

-- one item more at the end
abbrev pub with_last : {T : Type 0} {n : ℕ} → FixedList T n → T → FixedList T n
with_last l x = record { items = slice_set l.items l.len x; len = l.len + 1 }

-- a list holds no more than it has room for
pub items_few : {T : Type 0} {n : ℕ} (l : FixedList T n) → length (list_items l) ≤ n
items_few {n = n} l = omega (arith, length-take (min l.len n) l.items)
