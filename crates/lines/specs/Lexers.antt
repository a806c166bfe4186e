-- The words that a lexer hands out.
use Rattle.std.specs.Prelude.{ℕ, ◌+◌, Bool, true, false, cond, List, length, take, drop, Some, None, Option, nat_lt}
use Rattle.std.specs.List.{prefix_len}
use Rattle.lines.specs.declared.lexer.Word.{Word}
use Rattle.lines.specs.declared.lexer.Word.TheVariants.{Name, Figure}
use Rattle.lines.specs.declared.lexer.Lexer.{Lexer}
use Rattle.lines.specs.Words.{is_space, other, words, figure}

-- a word as it is handed out: whether it is a figure, its bytes and its place in the text
pub record Spelled : Type 0 where
  pub is_figure : Bool
  pub bytes : List ℕ
  pub place : ℕ

abbrev pub spelled : Word → Spelled
spelled (Name w p) = record { is_figure = false; bytes = w.now; place = p }
spelled (Figure w p) = record { is_figure = true; bytes = w.now; place = p }

abbrev pub word_bytes : Word → List ℕ
word_bytes (Name w p) = w.now
word_bytes (Figure w p) = w.now

-- a word of these bytes, at a place
abbrev pub spelled_at : List ℕ → ℕ → Spelled
spelled_at w p = record { is_figure = figure w; bytes = w; place = p }

-- the word that a list of bytes begins with, which stand at a place
abbrev pub word_at : List ℕ → ℕ → Spelled
word_at bs p = spelled_at (take (prefix_len (other 32) bs) bs) p

-- the spaces that a list of bytes begins with
abbrev pub spaces : List ℕ → ℕ
spaces bs = prefix_len is_space bs

abbrev pub next_word : Lexer → Option Spelled
next_word l = cond (nat_lt (spaces l.rest.now) (length l.rest.now)) (Some (word_at (drop (spaces l.rest.now) l.rest.now) (l.at + spaces l.rest.now))) None

-- the words that a lexer has yet to hand out
abbrev pub pending : Lexer → List (List ℕ)
pending l = words l.rest.now
