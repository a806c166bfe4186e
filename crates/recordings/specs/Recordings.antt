-- What a recording gives, over its bytes alone, or its first fault.
use Rattle.std.specs.Prelude.{ℕ, zero, suc, Bool, true, false, cond, List, [], ◌∷◌, length, ℤ, Some, None, Ok, Err, Option, Result, ◌==◌, nat_le}
use Rattle.model.specs.declared.refusal.Refusal.TheVariants.{NoPath, BufferShort, BlockCut, BlockOrder, RecordingLarge}
use Rattle.model.specs.declared.refusal.Layer.TheVariants.{Blocks, Calls}
use Rattle.model.specs.Refusals.{refusal_number, layer_number, Refused}
use Rattle.model.specs.Trellises.{Diagram}
use Rattle.algebras.specs.Counts.{counting}
use Rattle.paths.specs.Paths.{Path}
use Rattle.paths.specs.Sums.{path_sum}
use Rattle.setups.specs.declared.setup.Setup.{Setup}
use Rattle.setups.specs.Lines.{follow}
use Rattle.descriptions.specs.Channels.{channel_of, measure_of}
use Rattle.descriptions.specs.Descriptions as Text
use Rattle.records.specs.Held.{Held, new_held, anchored, take_check, taken}
use Rattle.records.specs.Reports.{has_room, reported_path, report_of, with_letters}
use Rattle.blocks.specs.Blocks.{Content, description, samples, end, block_fault, block_at, next_place}
use Rattle.blocks.specs.Samples.{samples_of}
use Rattle.recordings.specs.declared.outcome.Outcome.{Outcome}

-- the most bytes that a recording has
abbrev pub most_bytes : ℕ
most_bytes = 65536

-- a call of the record is refused while the block at a place is handled
abbrev pub call_fault : ℕ → ℕ → Refused
call_fault number place = record { number = number; layer = layer_number Calls; place = place }

-- ---- the first block

-- the setup that the description in the first block gives, and where the next block begins
abbrev pub set_up_by : Content → Result (Setup × ℕ) Refused
set_up_by (description text) = follow (Text.description 4 text) (λ s. Ok (s, next_place 0 (description text)))
set_up_by (samples payload) = Err (block_fault (refusal_number BlockOrder) 0)
set_up_by end = Err (block_fault (refusal_number BlockOrder) 0)

abbrev pub set_up : List ℕ → Result (Setup × ℕ) Refused
set_up bytes = follow (block_at bytes 0 true) set_up_by

-- ---- the other blocks

-- each sample of the block at a place is taken, in order, until one is refused
abbrev pub take_all : ℕ → Held → List ℤ → Result Held Refused
take_all place h [] = Ok h
take_all place h (x ∷ xs) = cond (take_check h == 0) (take_all place (taken h x) xs) (Err (call_fault (take_check h) place))

-- the block at a place: samples are taken and more blocks follow, and the end block ends the recording at its place
abbrev pub with_block : ℕ → Held → Content → (Held → Result (Held × ℕ) Refused) → Result (Held × ℕ) Refused
with_block place h (description text) more = Err (block_fault (refusal_number BlockOrder) place)
with_block place h (samples payload) more = follow (take_all place h (samples_of payload)) more
with_block place h end more = Ok (h, place)

-- the blocks from a place on, n of them at most: what is held at the end block, and where that block begins
abbrev pub read_blocks : ℕ → List ℕ → ℕ → Held → Result (Held × ℕ) Refused
read_blocks zero bytes place h = Err (block_fault (refusal_number BlockCut) place)
read_blocks (suc n) bytes place h = follow (block_at bytes place false) (λ c. with_block place h c (read_blocks n bytes (next_place place c)))

-- ---- the end block

-- the outcome of the path that is reported, if there is one and its letters have room
abbrev pub outcome_of : Diagram → (ℤ → ℤ → ℕ) → Held → ℕ → Bool → Option Path → Result (Outcome × Path) Refused
outcome_of d cost h place room None = Err (call_fault (refusal_number NoPath) place)
outcome_of d cost h place room (Some p) = cond room
    (Ok (record { samples = length h.samples; paths = (path_sum d cost counting h.start h.end h.samples).value; report = report_of d cost h p }, p))
    (Err (call_fault (refusal_number BufferShort) place))

-- what is detected behind what a record holds, at the end block's place, for letters at a place of a buffer of some length
abbrev pub detected : Diagram → (ℤ → ℤ → ℕ) → ℕ → ℕ → Held → ℕ → Result (Outcome × Path) Refused
detected d cost at buffer h place = outcome_of d cost h place (has_room (length h.samples) at buffer) (reported_path d cost h)

-- ---- all of it

-- start, end and no samples, as the setup has them
abbrev pub held_at_first : Setup → Held
held_at_first s = anchored (channel_of s.trellis) new_held s.start s.end

abbrev pub detected_from : List ℕ → ℕ → ℕ → Setup → ℕ → Result (Outcome × Path) Refused
detected_from bytes at buffer s from =
    follow (read_blocks (suc (length bytes)) bytes from (held_at_first s)) (λ e. detected (channel_of s.trellis) (measure_of s.measure) at buffer e.0 e.1)

-- what a recording gives, for letters at a place of a buffer of some length: the outcome and the path that is reported, or the first fault
abbrev pub recording : List ℕ → ℕ → ℕ → Result (Outcome × Path) Refused
recording bytes at buffer = cond (nat_le (length bytes) most_bytes)
    (follow (set_up bytes) (λ s. detected_from bytes at buffer s.0 s.1))
    (Err (record { number = refusal_number RecordingLarge; layer = layer_number Blocks; place = 0 }))

-- the outcome alone
abbrev pub outcome_in : Result (Outcome × Path) Refused → Result Outcome Refused
outcome_in (Ok o) = Ok o.0
outcome_in (Err f) = Err f

-- a buffer after that: with the letters of the path from a place on, and unchanged where there is a fault
abbrev pub buffer_after : Result (Outcome × Path) Refused → ℕ → List ℕ → List ℕ
buffer_after (Ok o) at old = with_letters at old o.1
buffer_after (Err f) at old = old
