-- A text and its lines.
use Rattle.std.specs.Prelude.{ℕ, Bool, true, false, cond, List, [], ◌∷◌, ◌++◌, ◌==◌}

-- a line as it stands in a text: its bytes, and whether byte 10 ends it
pub record Piece : Type 0 where
  pub bytes : List ℕ
  pub ended : Bool

-- one byte more at the front of the first line
abbrev pub onto_line : ℕ → List Piece → List Piece
onto_line b [] = record { bytes = b ∷ []; ended = false } ∷ []
onto_line b (l ∷ ls) = record { bytes = b ∷ l.bytes; ended = l.ended } ∷ ls

-- the lines of a text
abbrev pub lines_of : List ℕ → List Piece
lines_of [] = []
lines_of (b ∷ bs) = cond (b == 10) (record { bytes = []; ended = true } ∷ lines_of bs) (onto_line b (lines_of bs))

-- the text whose lines these are, each ended by byte 10
abbrev pub text_of : List (List ℕ) → List ℕ
text_of [] = []
text_of (l ∷ ls) = l ++ 10 ∷ text_of ls
