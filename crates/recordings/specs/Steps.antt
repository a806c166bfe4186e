-- What the steps of the reader answer, beside what a record holds after them.
use Rattle.std.specs.Prelude.{◌≡◌, ℕ, ◌≤◌, List, length, Ok, Err, Result}
use Rattle.model.specs.declared.refusal.Refusal.{Refusal}
use Rattle.model.specs.Refusals.{refusal_number, Refused}
use Rattle.model.specs.Trellises.{Lawful}
use Rattle.setups.specs.declared.setup.Setup.{Setup}
use Rattle.descriptions.specs.Channels.{channel_of}
use Rattle.records.specs.Held.{Held}
use Rattle.recordings.specs.Recordings.{most_bytes, call_fault, set_up}

-- what a call of the record answers while the block at a place is handled
abbrev pub at_block : {A : Type 0} → Result A Refusal → ℕ → Result A Refused
at_block (Ok x) place = Ok x
at_block (Err e) place = Err (call_fault (refusal_number e) place)

-- what is held, unless there is a fault
abbrev pub held_then : Result (Unit {0}) Refused → Held → Result Held Refused
held_then (Ok u) h = Ok h
held_then (Err f) h = Err f

-- the same with a place
abbrev pub ended : Result ℕ Refused → Held → Result (Held × ℕ) Refused
ended (Ok place) h = Ok (h, place)
ended (Err f) h = Err f

-- the channel of the setup in the first block is lawful
abbrev pub Lawfully : List ℕ → Type 0
Lawfully bytes = length bytes ≤ most_bytes → (s : Setup) (from : ℕ) → set_up bytes ≡ Ok (s, from) → Lawful (channel_of s.trellis)
