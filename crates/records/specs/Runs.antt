-- What a list of calls leaves of start, end and samples, by the rules alone.
use Rattle.std.specs.Prelude.{ℕ, suc, min, Bool, true, false, cond, not, ◌&&◌, List, [], ◌∷◌, length, ℤ, fold, nat_le}
use Rattle.model.specs.declared.refusal.Refusal.TheVariants.{RowShort}
use Rattle.model.specs.Refusals.{refusal_number}
use Rattle.model.specs.Trellises.{Diagram}
use Rattle.records.specs.declared.call.Call.{Call}
use Rattle.records.specs.declared.call.Call.TheVariants.{Anchor, Take, Rewind, Settle, Resume, Report, Weigh}
use Rattle.records.specs.Held.{Held, new_held, anchor_check, anchored, take_check, taken, rewind_check, rewound}
use Rattle.records.specs.Reports.{has_room, path_check, reported_path}

-- which calls a record has: anchor, take, rewind and settle if it listens, and resume, report and weigh if it is settled
abbrev pub has : Bool → Call → Bool
has settled (Anchor a b) = not settled
has settled (Take x) = not settled
has settled (Rewind n) = not settled
has settled Settle = not settled
has settled Resume = settled
has settled (Report n place) = settled
has settled (Weigh m n) = settled

-- whether a record is settled after a call that it has
abbrev pub turned : Bool → Call → Bool
turned settled (Anchor a b) = settled
turned settled (Take x) = settled
turned settled (Rewind n) = settled
turned settled Settle = true
turned settled Resume = false
turned settled (Report n place) = settled
turned settled (Weigh m n) = settled

-- what is held after a call: an accepted anchor, take or rewind changes it, and nothing else does
abbrev pub held_by : Diagram → Held → Call → Held
held_by d h (Anchor a b) = anchored d h a b
held_by d h (Take x) = taken h x
held_by d h (Rewind n) = rewound h n
held_by d h Settle = h
held_by d h Resume = h
held_by d h (Report n place) = h
held_by d h (Weigh m n) = h

-- how many calls of a list, from its first on, the two states allow; a new record listens
abbrev pub allowed_from : Bool → List Call → ℕ
allowed_from settled [] = 0
allowed_from settled (c ∷ cs) = cond (has settled c) (suc (allowed_from (turned settled c) cs)) 0

abbrev pub allowed : List Call → ℕ
allowed cs = allowed_from false cs

-- whether a new record is settled after these calls
abbrev pub settled_after : List Call → Bool
settled_after cs = fold turned false cs

-- the start, the end and the samples that these calls leave
abbrev pub held_after : Diagram → List Call → Held
held_after d cs = fold (held_by d) new_held cs

-- the most bytes of the buffer that a report in a list is given
abbrev pub most_buffer : ℕ
most_buffer = 1024

-- what a call answers: 0, or the number of its refusal
abbrev pub call_check : Diagram → (ℤ → ℤ → ℕ) → Held → Call → ℕ
call_check d cost h (Anchor a b) = anchor_check d h a b
call_check d cost h (Take x) = take_check h
call_check d cost h (Rewind n) = rewind_check h n
call_check d cost h Settle = 0
call_check d cost h Resume = 0
call_check d cost h (Report n place) = path_check (reported_path d cost h) (has_room (length h.samples) place (min n most_buffer))
call_check d cost h (Weigh m n) = cond (nat_le d.states m && nat_le d.states n) 0 (refusal_number RowShort)
