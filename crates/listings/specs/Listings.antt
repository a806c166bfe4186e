-- The texts that the programs print. Each definition says what stands behind a text that it is given.
use Rattle.std.specs.Prelude.{ℕ, zero, suc, List, [], ◌++◌, ℤ, Some, None, Ok, Err, codes, decimal, Option, Result}
use Rattle.std.specs.Fmt.{signed_decimal}
use Rattle.model.specs.Refusals.{Refused}
use Rattle.model.specs.Trellises.{Branch, Diagram}
use Rattle.lines.specs.declared.form.MeasureLine.{MeasureLine}
use Rattle.lines.specs.declared.form.MeasureLine.TheVariants.{Square, Bits}
use Rattle.setups.specs.declared.setup.Setup.{Setup}
use Rattle.descriptions.specs.Channels.{channel_of}

-- a name and then the figures of a number
abbrev pub with_field : List ℕ → List ℕ → List ℕ → List ℕ
with_field text name figures = text ++ name ++ figures

-- a name, the figures of a number and the end of the line
abbrev pub with_line : List ℕ → List ℕ → List ℕ → List ℕ
with_line text name figures = with_field text name figures ++ codes "\n"

-- the same of a number that may be absent, which a word stands for then
abbrev pub with_line_or : {N : Type 0} → (N → List ℕ) → List ℕ → List ℕ → List ℕ → Option N → List ℕ
with_line_or figures text name absent None = with_line text name absent
with_line_or figures text name absent (Some n) = with_line text name (figures n)

-- a fault is one line with its three numbers
abbrev pub refusal_text : Refused → List ℕ
refusal_text f = with_line (with_field (with_field [] (codes "refused ") (decimal f.number)) (codes " layer ") (decimal f.layer)) (codes " place ") (decimal f.place)

-- the measure as a description writes it
abbrev pub with_measure : List ℕ → MeasureLine → List ℕ
with_measure text Square = text ++ codes "measure square\n"
with_measure text (Bits w) = with_line text (codes "measure bits ") (signed_decimal w)

-- the start or the end, `any` where it is absent
abbrev pub with_anchor : List ℕ → List ℕ → Option ℤ → List ℕ
with_anchor text name state = with_line_or signed_decimal text name (codes "any") state

-- a branch, if there is one: state, letter, next state and label
abbrev pub with_branch : List ℕ → ℕ → ℕ → Branch → List ℕ
with_branch text s a None = text
with_branch text s a (Some b) = with_line (with_field (with_field (with_field text [] (decimal s)) (codes " ") (decimal a)) (codes " ") (decimal b.0)) (codes " ") (signed_decimal b.1)

-- the branches of a state by the letters below a number, in their order
abbrev pub with_state : Diagram → List ℕ → ℕ → ℕ → List ℕ
with_state d text s zero = text
with_state d text s (suc a) = with_branch (with_state d text s a) s a (d.branch s a)

-- the branches of the states below a number, in their order
abbrev pub with_states : Diagram → List ℕ → ℕ → List ℕ
with_states d text zero = text
with_states d text (suc s) = with_state d (with_states d text s) s d.letters

-- the sizes of a trellis
abbrev pub with_sizes : List ℕ → Diagram → List ℕ
with_sizes text d = with_line (with_line text (codes "states ") (decimal d.states)) (codes "letters ") (decimal d.letters)

-- a channel: its sizes, its measure, its start and end, and all its branches
abbrev pub listing : Setup → List ℕ
listing s =
    with_states (channel_of s.trellis) (with_anchor (with_anchor (with_measure (with_sizes [] (channel_of s.trellis)) s.measure) (codes "start ") s.start) (codes "end ") s.end)
    (channel_of s.trellis).states

-- what is printed of a description: the listing of its setup, or its fault
abbrev pub described_text : Result Setup Refused → List ℕ
described_text (Ok s) = listing s
described_text (Err f) = refusal_text f

-- a text that is in `Ok` or in `Err`
abbrev pub either : {T : Type 0} → Result T T → T
either (Ok text) = text
either (Err text) = text
