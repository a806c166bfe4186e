-- What a record holds to its caller, and what the calls of a listening record make of it, by the rules alone.
use Rattle.std.specs.Prelude.{ℕ, Bool, true, cond, ◌&&◌, List, [], ◌∷◌, ◌++◌, length, take, ℤ, is_some, Some, None, Option, ◌==◌, nat_le, nat_lt}
use Rattle.model.specs.declared.refusal.Refusal.TheVariants.{SamplesHeld, NotAState, RecordFull, RewindBeyond}
use Rattle.model.specs.Refusals.{refusal_number}
use Rattle.model.specs.Trellises.{Diagram, state_of}
use Rattle.survivors.specs.Choices.{most_samples}

-- start and end, absent where any state is permitted, and the samples
pub record Held : Type 0 where
  pub start : Option ℕ
  pub end : Option ℕ
  pub samples : List ℤ

-- a new record: from state 0 to any state, and no samples
abbrev pub new_held : Held
new_held = record { start = Some 0; end = None; samples = [] }

-- a number that may be left out is left out, or names a state
abbrev pub is_named : Diagram → Option ℤ → Bool
is_named d None = true
is_named d (Some z) = is_some (state_of d z)

-- the state that it names, if it is not left out
abbrev pub named : Diagram → Option ℤ → Option ℕ
named d None = None
named d (Some z) = state_of d z

-- both states that two such numbers name, if each is left out or names one
abbrev pub both_named : Diagram → Option ℤ → Option ℤ → Option (Option ℕ × Option ℕ)
both_named d a b = cond (is_named d a && is_named d b) (Some (named d a, named d b)) None

abbrev pub named_check : Diagram → Option ℤ → Option ℤ → ℕ
named_check d a b = cond (is_named d a && is_named d b) 0 (refusal_number NotAState)

-- what is held after a call that a check answers: something new if the check accepts, with 0
abbrev pub if_accepted : ℕ → Held → Held → Held
if_accepted answer new old = cond (answer == 0) new old

-- anchor sets start and end, before the first sample
abbrev pub anchor_check : Diagram → Held → Option ℤ → Option ℤ → ℕ
anchor_check d h a b = cond (nat_lt 0 (length h.samples)) (refusal_number SamplesHeld) (named_check d a b)

abbrev pub anchored : Diagram → Held → Option ℤ → Option ℤ → Held
anchored d h a b = if_accepted (anchor_check d h a b) (record { start = named d a; end = named d b; samples = h.samples }) h

-- take adds a sample at the end, if there is room
abbrev pub take_check : Held → ℕ
take_check h = cond (nat_lt (length h.samples) most_samples) 0 (refusal_number RecordFull)

abbrev pub taken : Held → ℤ → Held
taken h x = if_accepted (take_check h) (record { start = h.start; end = h.end; samples = h.samples ++ x ∷ [] }) h

-- rewind keeps the first n samples, if so many are held
abbrev pub rewind_check : Held → ℕ → ℕ
rewind_check h n = cond (nat_le n (length h.samples)) 0 (refusal_number RewindBeyond)

abbrev pub rewound : Held → ℕ → Held
rewound h n = if_accepted (rewind_check h n) (record { start = h.start; end = h.end; samples = take n h.samples }) h
