-- The text of what a recording gives. Each definition says what stands behind a text that it is given.
use Rattle.std.specs.Prelude.{ℕ, List, [], ◌∷◌, ◌++◌, take, replicate, Ok, Err, codes, decimal, Option, Result}
use Rattle.model.specs.Refusals.{Refused}
use Rattle.paths.specs.Paths.{Path}
use Rattle.listings.specs.Listings.{with_line, with_line_or, refusal_text}
use Rattle.recordings.specs.declared.outcome.Outcome.{Outcome}
use Rattle.recordings.specs.Recordings.{outcome_in, buffer_after}

-- the second, or `none`
abbrev pub with_second : List ℕ → Option ℕ → List ℕ
with_second text second = with_line_or decimal text (codes "second ") (codes "none") second

-- each letter in figures, with nothing between
abbrev pub with_digits : List ℕ → List ℕ → List ℕ
with_digits text [] = text
with_digits text (a ∷ rest) = with_digits (text ++ decimal a) rest

-- the line of the letters, which ends after its name where there are none
abbrev pub with_letters : List ℕ → List ℕ → List ℕ
with_letters text [] = (text ++ codes "letters") ++ codes "\n"
with_letters text (a ∷ rest) = with_digits ((text ++ codes "letters") ++ codes " ") (a ∷ rest) ++ codes "\n"

-- an outcome: samples, paths, cost, ties, second, start, end and letters, one a line
abbrev pub outcome_text : Outcome → List ℕ → List ℕ
outcome_text o letters =
    with_letters
    (with_line (with_line
    (with_second
    (with_line (with_line (with_line (with_line [] (codes "samples ") (decimal o.samples)) (codes "paths ") (decimal o.paths)) (codes "cost ") (decimal o.report.cost)) (codes "ties ") (decimal o.report.ties))
    o.report.second)
    (codes "start ") (decimal o.report.first)) (codes "end ") (decimal o.report.last))
    letters

-- what is printed of a recording: the outcome, with as many letters as there are samples from the front of the buffer that it
-- leaves, or the fault
abbrev pub answer_text : Result Outcome Refused → List ℕ → List ℕ
answer_text (Ok o) buffer = outcome_text o (take o.samples buffer)
answer_text (Err f) buffer = refusal_text f

abbrev pub detected_text : Result (Outcome × Path) Refused → List ℕ
detected_text r = answer_text (outcome_in r) (buffer_after r 0 (replicate 512 0))
