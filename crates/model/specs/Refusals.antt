-- The numbers of the refusals and of the layers in which a reader finds them.
use Rattle.std.specs.Prelude.{ℕ, Ok, Err, Result, Some, Option, List, ◌++◌, decimal, codes}
use Rattle.model.specs.declared.refusal.Refusal.{Refusal}
use Rattle.model.specs.declared.refusal.Refusal.TheVariants.{TapsLetters, TapsCount, TapValue, ConstraintLength, GeneratorCount, GeneratorValue, InversionWord, RunLength, CascadeStates, BitsWidth, SamplesHeld, NotAState, RecordFull, RewindBeyond, NoPath, BufferShort, RowShort, LineForm, LineRepeated, LineSet, BlockCut, BlockKind, BlockOrder, PayloadLength, BytesAfterEnd, RecordingLarge}
use Rattle.model.specs.declared.refusal.Fault.{Fault}
use Rattle.model.specs.declared.refusal.Layer.{Layer}
use Rattle.model.specs.declared.refusal.Layer.TheVariants.{Blocks, Lines, Makers, Calls}

abbrev pub refusal_number : Refusal → ℕ
-- taps: the number of letters is not 2 or 4; too few or too many taps; a tap out of range
refusal_number TapsLetters = 1
refusal_number TapsCount = 2
refusal_number TapValue = 3
-- code: the constraint length; too few or too many generators; a generator out of range; the inversion word
refusal_number ConstraintLength = 4
refusal_number GeneratorCount = 5
refusal_number GeneratorValue = 6
refusal_number InversionWord = 7
-- run-length limit: the two limits
refusal_number RunLength = 8
-- cascade: more states than a trellis may have
refusal_number CascadeStates = 10
-- bits: the width
refusal_number BitsWidth = 11
-- anchor: samples are held; a number that names no state
refusal_number SamplesHeld = 20
refusal_number NotAState = 21
-- take: no room for one more sample
refusal_number RecordFull = 22
-- rewind: more samples than are held
refusal_number RewindBeyond = 23
-- report: no admissible path; too few bytes from the place on
refusal_number NoPath = 24
refusal_number BufferShort = 25
-- weigh: a row with fewer entries than states
refusal_number RowShort = 26
-- description: a line of no form, or unended; a first word seen before; lines that are no accepted set
refusal_number LineForm = 30
refusal_number LineRepeated = 31
refusal_number LineSet = 34
-- recording: a block cut short; its kind; its place among the others; its length; bytes after the end; too large
refusal_number BlockCut = 40
refusal_number BlockKind = 42
refusal_number BlockOrder = 43
refusal_number PayloadLength = 44
refusal_number BytesAfterEnd = 45
refusal_number RecordingLarge = 46

abbrev pub layer_number : Layer → ℕ
layer_number Blocks = 1
layer_number Lines = 2
layer_number Makers = 3
layer_number Calls = 4

-- what a check answers, as a number: 0 where it accepts, else the refusal's
abbrev pub answer : {T : Type 0} → Result T Refusal → ℕ
answer (Ok x) = 0
answer (Err e) = refusal_number e

-- a fault by its numbers: the refusal's, the layer's, and the place
pub record Refused : Type 0 where
  pub number : ℕ
  pub layer : ℕ
  pub place : ℕ

abbrev pub refused : Fault → Refused
refused f = record { number = refusal_number f.refusal; layer = layer_number f.layer; place = f.place }

-- the fault that a layer finds for a reason at a place
abbrev pub refused_at : Refusal → Layer → ℕ → Refused
refused_at r l p = record { number = refusal_number r; layer = layer_number l; place = p }

-- what a refusal prints
abbrev pub printed_refusal : Refusal → Option (List ℕ)
printed_refusal r = Some (codes "refused " ++ decimal (refusal_number r))

-- what a reader answers, a fault by its numbers
abbrev pub outcome : {T : Type 0} → Result T Fault → Result T Refused
outcome (Ok x) = Ok x
outcome (Err f) = Err (refused f)
