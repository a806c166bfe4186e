-- What a record shows to its caller.
use Rattle.std.specs.Prelude.{ℕ, List, ℤ}
use Rattle.arrays.specs.declared.list.FixedList.{FixedList}
use Rattle.records.specs.Held.{Held, new_held}

-- its trellis and its measure, and what it holds
pub record Seen (T M : Type 0) : Type 0 where
  pub trellis : T
  pub measure : M
  pub held : Held

-- and a byte for each step and state, which settling makes those of what it holds, and the list in which its samples lie, with what stands behind them;
-- this is all that a listening record has
pub record Shown (T M : Type 0) : Type 0 where
  pub seen : Seen T M
  pub choices : List ℕ
  pub memory : FixedList ℤ 512

abbrev pub new_record : {T M : Type 0} → T → M → Seen T M
new_record t m = record { trellis = t; measure = m; held = new_held }

-- the same record with something else held
abbrev pub with_held : {T M : Type 0} → Seen T M → Held → Seen T M
with_held s h = record { trellis = s.trellis; measure = s.measure; held = h }
