-- The checks of a setup, in their order.
use Rattle.std.specs.Prelude.{◌≡◌, ℕ, zero, suc, List, [], ◌∷◌, ◌++◌, ℤ, Some, None, Ok, Err, Option, Result}
use Rattle.std.specs.List.{AllByRecursion}
use Rattle.model.specs.declared.refusal.Fault.{Fault}
use Rattle.model.specs.declared.refusal.Layer.TheVariants.{Makers}
use Rattle.model.specs.Refusals.{layer_number, Refused, refused}
use Rattle.model.specs.Trellises.{Diagram, state_check}
use Rattle.lines.specs.declared.form.CodeLine.{CodeLine}
use Rattle.lines.specs.declared.form.RllLine.{RllLine}
use Rattle.lines.specs.declared.form.TapsLine.{TapsLine}
use Rattle.lines.specs.declared.form.MeasureLine.{MeasureLine}
use Rattle.lines.specs.declared.form.MeasureLine.TheVariants.{Square, Bits}
use Rattle.arrays.specs.Lists.{list_items}
use Rattle.setups.specs.declared.held.Placed.{Placed}
use Rattle.setups.specs.declared.held.HeldLines.{HeldLines}
use Rattle.setups.specs.declared.setup.Setup.{Setup}
use Rattle.setups.specs.declared.setup.TrellisSetup.{TrellisSetup}
use Rattle.setups.specs.declared.setup.TrellisSetup.TheVariants.{Taps, Code, CodeOverTaps, RllOverTaps}
use Rattle.trellises.specs.Cascades.{cascade_check}
use Rattle.trellises.specs.Codes.{code_check}
use Rattle.trellises.specs.RunLengths.{run_length_check}
use Rattle.trellises.specs.Taps.{taps_check}
use Rattle.measures.specs.BitCounts.{bits_check}
use Rattle.descriptions.specs.Channels.{code_of, taps_of, run_length_of, channel_of}

-- what each check answers: 0, or the refusal's number
abbrev pub taps_answer : TapsLine → ℕ
taps_answer l = taps_check l.letters (list_items l.taps)

abbrev pub code_answer : CodeLine → ℕ
code_answer l = code_check l.constraint_length l.inversion (list_items l.generators)

abbrev pub run_length_answer : RllLine → ℕ
run_length_answer l = run_length_check l.d l.k

abbrev pub measure_answer : MeasureLine → ℕ
measure_answer Square = 0
measure_answer (Bits w) = bits_check w

-- a start or an end that is absent is any state
abbrev pub anchor_answer : Diagram → Option ℤ → ℕ
anchor_answer d None = 0
anchor_answer d (Some z) = state_check d z

-- the line that a check is about
pub data About : Type 0 where
  code_line : About
  rll_line : About
  taps_line : About
  measure_line : About
  start_line : About
  end_line : About

-- taps before the code or the run-length limit, and then the two together, which is about the outer line
abbrev pub trellis_answers : TrellisSetup → List (ℕ × About)
trellis_answers (Taps t) = (taps_answer t, taps_line) ∷ []
trellis_answers (Code c) = (code_answer c, code_line) ∷ []
trellis_answers (CodeOverTaps c t) = (taps_answer t, taps_line) ∷ (code_answer c, code_line) ∷ (cascade_check (code_of c) (taps_of t), code_line) ∷ []
trellis_answers (RllOverTaps r t) = (taps_answer t, taps_line) ∷ (run_length_answer r, rll_line) ∷ (cascade_check (run_length_of r) (taps_of t), rll_line) ∷ []

-- the measure, the start and the end, which name states of the whole channel
abbrev pub other_answers : Setup → List (ℕ × About)
other_answers s = (measure_answer s.measure, measure_line) ∷ (anchor_answer (channel_of s.trellis) s.start, start_line) ∷ (anchor_answer (channel_of s.trellis) s.end, end_line) ∷ []

-- all the checks of a setup
abbrev pub answers : Setup → List (ℕ × About)
answers s = trellis_answers s.trellis ++ other_answers s

-- no check refuses
abbrev pub Passes : Setup → Type 0
Passes s = AllByRecursion (λ c. c.0 ≡ 0) (answers s)

-- where a line begins, 0 where there is none
abbrev pub place : {X : Type 0} → Option (Placed X) → ℕ
place None = 0
place (Some p) = p.place

abbrev pub place_in : HeldLines → About → ℕ
place_in h code_line = place h.code
place_in h rll_line = place h.rll
place_in h taps_line = place h.taps
place_in h measure_line = place h.measure
place_in h start_line = place h.start
place_in h end_line = place h.end

-- the fault that an answer is, at a place; nothing where it is 0
abbrev pub fault_or_none : ℕ → ℕ → Option Refused
fault_or_none zero p = None
fault_or_none (suc n) p = Some (record { number = suc n; layer = layer_number Makers; place = p })

abbrev pub or_next : Option Refused → Option Refused → Option Refused
or_next None rest = rest
or_next (Some f) rest = Some f

-- the first check that refuses, at its line
abbrev pub first_fault : HeldLines → List (ℕ × About) → Option Refused
first_fault h [] = None
first_fault h (c ∷ cs) = or_next (fault_or_none c.0 (place_in h c.1)) (first_fault h cs)

-- the fault that a check answers, if any
abbrev pub faulted : {T : Type 0} → Result T Fault → Option Refused
faulted (Ok x) = None
faulted (Err f) = Some (refused f)
