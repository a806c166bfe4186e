-- What the lexer hands out and what it leaves, by the words of the bytes that are left.
use Rattle.std.proofs.Common.{◌≡◌, ℕ, ◌+◌, ◌<◌, true, false, cond, ltb, List, [], ◌∷◌, length, take, drop, Some, None, Option, sym, ap, ◌∙◌, arith, length-drop, le-ltb, lt-ltb}
use Rattle.std.proofs.lemmas.List.{nil_from_length}
use Rattle.std.specs.List.{prefix_len}
use Rattle.lines.specs.Words.{is_space, other, words, starts_word}
use Rattle.lines.specs.Lexers.{Spelled, spelled_at, word_at}
use Rattle.lines.proofs.Runs.{spaces_skipped, word_starts, first_cut}

module _ (r a : List ℕ) (n : ℕ) (run : n ≡ prefix_len is_space r) (rest : a ≡ drop n r) where
  after : a ≡ drop (prefix_len is_space r) r
  after = rest ∙ ap (λ (k : ℕ). drop k r) run

  same : words r ≡ words a
  same = sym (spaces_skipped r) ∙ ap words (sym after)

  abbrev handed : ℕ → Option Spelled
  handed p = cond (ltb (prefix_len is_space r) (length r)) (Some (word_at (drop (prefix_len is_space r) r) (p + prefix_len is_space r))) None

  pub none_left : length a ≡ 0 → words r ≡ []
  none_left h = same ∙ ap words (nil_from_length a h)

  pub none_here : length a ≡ 0 → words a ≡ []
  none_here h = ap words (nil_from_length a h)

  pub no_word : length a ≡ 0 → (p : ℕ) → None ≡ handed p
  no_word h p = let past : ltb (prefix_len is_space r) (length r) ≡ false = le-ltb _ _ (omega (arith, length-drop n r, ap length rest)) in rw past

  module _ (some : length a ≡ 0 → ⊥) (m : ℕ) (stop : m ≡ prefix_len (other 32) a) where
    within : prefix_len is_space r < length r
    within = omega (arith, length-drop n r, ap length rest)

    pub word_cut : words r ≡ take m a ∷ words (drop m a)
    word_cut = same ∙ first_cut a (ap starts_word after ∙ word_starts r within) ∙ ap (λ (k : ℕ). take k a ∷ words (drop k a)) (sym stop)

    pub word_is : (p : ℕ) → Some (spelled_at (take m a) (p + n)) ≡ handed p
    word_is p =
        let lt : ltb (prefix_len is_space r) (length r) ≡ true = lt-ltb _ _ within in
        rw lt
        (ap (λ (k : ℕ). Some (spelled_at (take k a) (p + n))) stop
        ∙ ap (λ (bs : List ℕ). Some (word_at bs (p + n))) after
        ∙ ap (λ (k : ℕ). Some (word_at (drop (prefix_len is_space r) r) (p + k))) run)
