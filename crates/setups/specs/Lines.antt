-- The lines of a description: which are read, which are refused, and the setup that they give.
use Rattle.std.specs.Prelude.{ℕ, ◌+◌, Bool, false, cond, ◌||◌, List, [], ◌∷◌, length, ℤ, is_some, Some, None, Ok, Err, codes, Option, Result}
use Rattle.std.specs.Str.{bytes_eq}
use Rattle.lines.specs.declared.form.CodeLine.{CodeLine}
use Rattle.lines.specs.declared.form.RllLine.{RllLine}
use Rattle.lines.specs.declared.form.TapsLine.{TapsLine}
use Rattle.lines.specs.declared.form.MeasureLine.{MeasureLine}
use Rattle.lines.specs.declared.form.Line.{Line}
use Rattle.lines.specs.declared.form.Line.TheVariants.{Code, Rll, Taps, Measure, Start, End}
use Rattle.lines.specs.Forms.{line_form}
use Rattle.model.specs.declared.refusal.Refusal.{Refusal}
use Rattle.model.specs.declared.refusal.Refusal.TheVariants.{LineForm, LineRepeated}
use Rattle.model.specs.declared.refusal.Layer.TheVariants.{Lines}
use Rattle.model.specs.Refusals.{Refused, refused_at}
use Rattle.setups.specs.declared.held.Placed.{Placed}
use Rattle.setups.specs.declared.held.HeldLines.{HeldLines}
use Rattle.setups.specs.Texts.{Piece}

-- the first word of a line
abbrev pub first_word : Line → List ℕ
first_word (Code l) = codes "code"
first_word (Rll l) = codes "rll"
first_word (Taps l) = codes "taps"
first_word (Measure l) = codes "measure"
first_word (Start l) = codes "start"
first_word (End l) = codes "end"

-- a line that was read, with the place where it begins
abbrev pub Read : Type 0
Read = Line × ℕ

-- whether one of the lines has a first word
abbrev pub seen : List ℕ → List Read → Bool
seen w [] = false
seen w (l ∷ ls) = bytes_eq w (first_word l.0) || seen w ls

-- what a line of one form says
abbrev pub code_in : Line → Option CodeLine
code_in (Code l) = Some l
code_in (Rll l) = None
code_in (Taps l) = None
code_in (Measure l) = None
code_in (Start l) = None
code_in (End l) = None

abbrev pub rll_in : Line → Option RllLine
rll_in (Code l) = None
rll_in (Rll l) = Some l
rll_in (Taps l) = None
rll_in (Measure l) = None
rll_in (Start l) = None
rll_in (End l) = None

abbrev pub taps_in : Line → Option TapsLine
taps_in (Code l) = None
taps_in (Rll l) = None
taps_in (Taps l) = Some l
taps_in (Measure l) = None
taps_in (Start l) = None
taps_in (End l) = None

abbrev pub measure_in : Line → Option MeasureLine
measure_in (Code l) = None
measure_in (Rll l) = None
measure_in (Taps l) = None
measure_in (Measure l) = Some l
measure_in (Start l) = None
measure_in (End l) = None

abbrev pub start_in : Line → Option (Option ℤ)
start_in (Code l) = None
start_in (Rll l) = None
start_in (Taps l) = None
start_in (Measure l) = None
start_in (Start l) = Some l
start_in (End l) = None

abbrev pub end_in : Line → Option (Option ℤ)
end_in (Code l) = None
end_in (Rll l) = None
end_in (Taps l) = None
end_in (Measure l) = None
end_in (Start l) = None
end_in (End l) = Some l

-- the first value that there is, with its place, else what is found further on
abbrev pub or_else : {X : Type 0} → Option X → ℕ → Option (Placed X) → Option (Placed X)
or_else None p rest = rest
or_else (Some x) p rest = Some (record { line = x; place = p })

-- what the lines of one form say
abbrev pub pick : {X : Type 0} → (Line → Option X) → List Read → Option (Placed X)
pick f [] = None
pick f (l ∷ ls) = or_else (f l.0) l.1 (pick f ls)

-- the lines that were read, by their forms
abbrev pub gathered : List Read → HeldLines
gathered ls = record { code = pick code_in ls; rll = pick rll_in ls; taps = pick taps_in ls; measure = pick measure_in ls; start = pick start_in ls; end = pick end_in ls }

-- whether a line with the same first word is held
abbrev pub is_held : HeldLines → Line → Bool
is_held h (Code l) = is_some h.code
is_held h (Rll l) = is_some h.rll
is_held h (Taps l) = is_some h.taps
is_held h (Measure l) = is_some h.measure
is_held h (Start l) = is_some h.start
is_held h (End l) = is_some h.end

-- one line more
abbrev pub with_line : HeldLines → Line → ℕ → HeldLines
with_line h (Code l) p = record { code = Some (record { line = l; place = p }); rll = h.rll; taps = h.taps; measure = h.measure; start = h.start; end = h.end }
with_line h (Rll l) p = record { code = h.code; rll = Some (record { line = l; place = p }); taps = h.taps; measure = h.measure; start = h.start; end = h.end }
with_line h (Taps l) p = record { code = h.code; rll = h.rll; taps = Some (record { line = l; place = p }); measure = h.measure; start = h.start; end = h.end }
with_line h (Measure l) p = record { code = h.code; rll = h.rll; taps = h.taps; measure = Some (record { line = l; place = p }); start = h.start; end = h.end }
with_line h (Start l) p = record { code = h.code; rll = h.rll; taps = h.taps; measure = h.measure; start = Some (record { line = l; place = p }); end = h.end }
with_line h (End l) p = record { code = h.code; rll = h.rll; taps = h.taps; measure = h.measure; start = h.start; end = Some (record { line = l; place = p }) }

abbrev pub line_fault : Refusal → ℕ → Refused
line_fault r p = refused_at r Lines p

-- one line more: refused where it has no form, then where its first word was seen before
abbrev pub line_read : ℕ → List Read → Option Line → Result (List Read) Refused
line_read p ls None = Err (line_fault LineForm p)
line_read p ls (Some l) = cond (seen (first_word l) ls) (Err (line_fault LineRepeated p)) (Ok ((l, p) ∷ ls))

-- what a line says, if it is ended
abbrev pub said : Piece → Option Line
said x = cond x.ended (line_form x.bytes) None

-- what follows from a value, unless there is a fault
abbrev pub follow : {X Y Z : Type 0} → Result X Z → (X → Result Y Z) → Result Y Z
follow (Ok x) f = f x
follow (Err e) f = Err e

-- line after line, the first at a place, the newest held in front; the first fault is the answer
abbrev pub read_lines : ℕ → List Read → List Piece → Result (List Read) Refused
read_lines p ls [] = Ok ls
read_lines p ls (x ∷ xs) = follow (line_read p ls (said x)) (λ ms. read_lines (p + length x.bytes + 1) ms xs)

abbrev pub gathered_from : Result (List Read) Refused → Result HeldLines Refused
gathered_from (Ok ls) = Ok (gathered ls)
gathered_from (Err f) = Err f
