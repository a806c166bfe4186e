-- The setup that lines give.
use Rattle.std.specs.Prelude.{List, [], ◌∷◌, ℤ, Some, None, Option}
use Rattle.std.specs.Option.{option_map}
use Rattle.lines.specs.declared.form.CodeLine.{CodeLine}
use Rattle.lines.specs.declared.form.RllLine.{RllLine}
use Rattle.lines.specs.declared.form.TapsLine.{TapsLine}
use Rattle.lines.specs.declared.form.MeasureLine.{MeasureLine}
use Rattle.lines.specs.declared.form.Line.{Line}
use Rattle.lines.specs.Forms.{then}
use Rattle.setups.specs.declared.held.Placed.{Placed}
use Rattle.setups.specs.declared.held.HeldLines.{HeldLines}
use Rattle.setups.specs.declared.setup.TrellisSetup.{TrellisSetup}
use Rattle.setups.specs.declared.setup.TrellisSetup.TheVariants.{Taps, Code, CodeOverTaps, RllOverTaps}
use Rattle.setups.specs.declared.setup.Setup.{Setup}
use Rattle.setups.specs.Lines.{code_in, rll_in, taps_in, measure_in, start_in, end_in}

-- taps, a code, a code over taps or a run-length limit over taps, and no other set of lines
abbrev pub trellis_of : Option CodeLine → Option RllLine → Option TapsLine → Option TrellisSetup
trellis_of None None None = None
trellis_of None None (Some t) = Some (Taps t)
trellis_of None (Some r) None = None
trellis_of None (Some r) (Some t) = Some (RllOverTaps r t)
trellis_of (Some c) None None = Some (Code c)
trellis_of (Some c) None (Some t) = Some (CodeOverTaps c t)
trellis_of (Some c) (Some r) t = None

-- an accepted set has a trellis, a measure, a start and an end
abbrev pub setup_from : Option TrellisSetup → Option MeasureLine → Option (Option ℤ) → Option (Option ℤ) → Option Setup
setup_from t m s e = then t (λ trellis. then m (λ measure. then s (λ start. then e (λ end. Some (record { trellis = trellis; measure = measure; start = start; end = end })))))

abbrev pub content : {X : Type 0} → Option (Placed X) → Option X
content p = option_map (λ x. x.line) p

-- the setup that held lines give, if they are an accepted set
abbrev pub held_trellis : HeldLines → Option TrellisSetup
held_trellis h = trellis_of (content h.code) (content h.rll) (content h.taps)

abbrev pub held_setup : HeldLines → Option Setup
held_setup h = setup_from (held_trellis h) (content h.measure) (content h.start) (content h.end)

abbrev pub or_later : {X : Type 0} → Option X → Option X → Option X
or_later None rest = rest
or_later (Some x) rest = Some x

-- what the first line of one form says
abbrev pub chosen : {X : Type 0} → (Line → Option X) → List Line → Option X
chosen f [] = None
chosen f (l ∷ ls) = or_later (f l) (chosen f ls)

-- the setup that a set of lines gives, if it is an accepted one
abbrev pub setup_of : List Line → Option Setup
setup_of ls = setup_from (trellis_of (chosen code_in ls) (chosen rll_in ls) (chosen taps_in ls)) (chosen measure_in ls) (chosen start_in ls) (chosen end_in ls)
