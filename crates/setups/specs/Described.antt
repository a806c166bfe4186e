-- Texts and their lines, with no reader in sight.
use Rattle.std.specs.Prelude.{◌≡◌, ℕ, Bool, false, ◌||◌, List, [], ◌∷◌, Some}
use Rattle.std.specs.Str.{bytes_eq}
use Rattle.lines.specs.declared.form.Line.{Line}
use Rattle.lines.specs.Forms.{line_form}
use Rattle.setups.specs.Texts.{text_of}
use Rattle.setups.specs.Lines.{first_word}

-- each line has one of the forms, and says this
abbrev pub Forms : List (List ℕ) → List Line → Type 0
Forms [] [] = Unit {0}
Forms [] (f ∷ fs) = ⊥
Forms (l ∷ ls) [] = ⊥
Forms (l ∷ ls) (f ∷ fs) = (line_form l ≡ Some f) × Forms ls fs

-- whether one of the lines has a first word
abbrev pub named : List ℕ → List Line → Bool
named w [] = false
named w (l ∷ ls) = bytes_eq w (first_word l) || named w ls

-- no line has the first word of one before it, nor of those that came earlier
abbrev pub OnceAfter : List Line → List Line → Type 0
OnceAfter earlier [] = Unit {0}
OnceAfter earlier (f ∷ fs) = (named (first_word f) earlier ≡ false) × OnceAfter (f ∷ earlier) fs

-- no first word stands twice
abbrev pub Once : List Line → Type 0
Once fs = OnceAfter [] fs

-- a text is a sequence of lines, each ended by byte 10 and of one of the forms, with no first word twice
pub record Spells (text : List ℕ) (fs : List Line) : Type 0 where
  pub lines : List (List ℕ)
  pub whole : text ≡ text_of lines
  pub forms : Forms lines fs
  pub once : Once fs

-- the same elements in another order
pub data Reordered {X : Type 0} : List X → List X → Type 0 where
  nothing : Reordered [] []
  keep : (x : X) {xs ys : List X} → Reordered xs ys → Reordered (x ∷ xs) (x ∷ ys)
  swap : (x y : X) (xs : List X) → Reordered (x ∷ y ∷ xs) (y ∷ x ∷ xs)
  after : {xs ys zs : List X} → Reordered xs ys → Reordered ys zs → Reordered xs zs
