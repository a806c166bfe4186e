-- The words that runs of bytes are.
use Rattle.std.proofs.Common.{◌≡◌, ℕ, suc, ◌+◌, ◌<◌, Bool, true, false, cond, List, [], ◌∷◌, length, take, drop, refl, ap, ◌∙◌, one-add, arith}
use borrow.Author.Tests.{clash}
use Rattle.std.proofs.lemmas.Bool.{not-true}
use Rattle.std.proofs.lemmas.List.Folds.{length-prefix_len}
use Rattle.std.specs.List.{prefix_len}
use Rattle.lines.specs.Words.{is_space, other, starts_word, onto_first, words}

-- spaces in front change no word
skipped_by : (b : ℕ) (bs : List ℕ) (t : Bool) → is_space b ≡ t → words (drop (prefix_len is_space bs) bs) ≡ words bs → words (drop (cond t (1 + prefix_len is_space bs) 0) (b ∷ bs)) ≡ cond t (words bs) (words (b ∷ bs))
skipped_by b bs true e h = rw one-add h
skipped_by b bs false e h = refl

pub spaces_skipped : (bs : List ℕ) → words (drop (prefix_len is_space bs) bs) ≡ words bs
spaces_skipped [] = refl
spaces_skipped (b ∷ bs) = skipped_by b bs (is_space b) refl (spaces_skipped bs) ∙ back (is_space b) refl where
  back : (t : Bool) → is_space b ≡ t → cond t (words bs) (words (b ∷ bs)) ≡ words (b ∷ bs)
  back true e = rw e
  back false e = refl

-- after the spaces a word begins, if anything is left
starts_by : (b : ℕ) (bs : List ℕ) (t : Bool) → is_space b ≡ t → cond t (1 + prefix_len is_space bs) 0 < suc (length bs) → (prefix_len is_space bs < length bs → starts_word (drop (prefix_len is_space bs) bs) ≡ true) → starts_word (drop (cond t (1 + prefix_len is_space bs) 0) (b ∷ bs)) ≡ true
starts_by b bs true e h k = rw one-add (k (omega arith))
starts_by b bs false e h k = rw e

pub word_starts : (bs : List ℕ) → prefix_len is_space bs < length bs → starts_word (drop (prefix_len is_space bs) bs) ≡ true
word_starts [] h = absurd (omega arith)
word_starts (b ∷ bs) h = starts_by b bs (is_space b) refl h (word_starts bs)

-- no word begins at a space
no_run : (bs : List ℕ) → starts_word bs ≡ false → prefix_len (other 32) bs ≡ 0
no_run [] h = refl
no_run (b ∷ bs) h = rw h

-- the word that begins at the front, and what follows it
abbrev front : List ℕ → List (List ℕ)
front bs = take (prefix_len (other 32) bs) bs ∷ words (drop (prefix_len (other 32) bs) bs)

joins : (b : ℕ) (bs : List ℕ) (t : Bool) → starts_word bs ≡ t → (t ≡ true → words bs ≡ front bs) → cond t (onto_first b (words bs)) ((b ∷ []) ∷ words bs) ≡ (b ∷ take (prefix_len (other 32) bs) bs) ∷ words (drop (prefix_len (other 32) bs) bs)
joins b bs true e h = ap (onto_first b) (h refl)
joins b bs false e h = let none : prefix_len (other 32) bs ≡ 0 = no_run bs e in rw none

front_by : (b : ℕ) (bs : List ℕ) → other 32 b ≡ true → (starts_word bs ≡ true → words bs ≡ front bs) → words (b ∷ bs) ≡ front (b ∷ bs)
front_by b bs e h = let n : is_space b ≡ false = not-true _ e in rw (n, one-add) (joins b bs (starts_word bs) refl h)

-- a list that begins with a word has that word, and the words after it
pub first_cut : (bs : List ℕ) → starts_word bs ≡ true → words bs ≡ front bs
first_cut [] h = absurd (clash h)
first_cut (b ∷ bs) h = front_by b bs h (first_cut bs)

-- how many bytes a run has that begins at a place
pub run_length : (p : ℕ → Bool) (bs : List ℕ) → length (take (prefix_len p bs) bs) ≡ prefix_len p bs
run_length p bs = length-prefix_len p bs
