-- The first line of a text, cut off at its end.
use Rattle.std.proofs.Common.{◌≡◌, ℕ, suc, ◌+◌, ◌<◌, ◌≤◌, Bool, true, false, eqb, ltb, List, [], ◌∷◌, length, take, drop, sym, refl, ap, ◌∙◌, add-one, one-add, arith, length-drop, lt-ltb}
use Rattle.std.proofs.lemmas.List.{drop-drop, drop-take, length-take-le}
use Rattle.std.proofs.lemmas.List.Sums.{prefix_len-le-length}
use Rattle.std.proofs.lemmas.Bool.Decides.{nat_tests}
use Rattle.std.specs.List.{prefix_len}
use Rattle.lines.specs.Words.{other}
use Rattle.setups.specs.Texts.{Piece, onto_line, lines_of}

-- how long the first line is, without its end
abbrev pub line_length : List ℕ → ℕ
line_length bs = prefix_len (other 10) bs

-- the first line, and the lines after it
abbrev pub cut : List ℕ → List Piece
cut bs = record { bytes = take (line_length bs) bs; ended = ltb (line_length bs) (length bs) } ∷ lines_of (drop (line_length bs + 1) bs)

ltb_suc : (m n : ℕ) → ltb m n ≡ ltb (suc m) (suc n)
ltb_suc m n = grind (arith, nat_tests)

cut_more : (b : ℕ) (c : ℕ) (bs : List ℕ) → lines_of (c ∷ bs) ≡ cut (c ∷ bs) → onto_line b (lines_of (c ∷ bs)) ≡ record { bytes = b ∷ take (line_length (c ∷ bs)) (c ∷ bs); ended = ltb (suc (line_length (c ∷ bs))) (length (b ∷ c ∷ bs)) } ∷ lines_of (drop (suc (line_length (c ∷ bs))) (c ∷ bs))
cut_more b c bs h =
    ap (onto_line b) h
    ∙ ap (λ (e : Bool). record { bytes = b ∷ take (line_length (c ∷ bs)) (c ∷ bs); ended = e } ∷ lines_of (drop (line_length (c ∷ bs) + 1) (c ∷ bs))) (ltb_suc (line_length (c ∷ bs)) (length (c ∷ bs)))
    ∙ ap (λ (n : ℕ). record { bytes = b ∷ take (line_length (c ∷ bs)) (c ∷ bs); ended = ltb (suc (line_length (c ∷ bs))) (length (b ∷ c ∷ bs)) } ∷ lines_of (drop n (c ∷ bs))) (add-one (line_length (c ∷ bs)))

cut_by : (b : ℕ) (bs : List ℕ) (t : Bool) → eqb b 10 ≡ t → (0 < length bs → lines_of bs ≡ cut bs) → lines_of (b ∷ bs) ≡ cut (b ∷ bs)
cut_by b bs true e h =
    let first : ltb 0 (length (b ∷ bs)) ≡ true = lt-ltb _ _ (omega arith) in
    rw (e, first)
cut_by b [] false e h = rw e
cut_by b (c ∷ bs) false e h = rw (e, one-add, add-one) (cut_more b c bs (h (omega arith)))

pub first_line : (bs : List ℕ) → 0 < length bs → lines_of bs ≡ cut bs
first_line [] h = absurd (omega arith)
first_line (b ∷ bs) h = cut_by b bs (eqb b 10) refl (first_line bs)

module _ (text : List ℕ) (at end : ℕ) (within : at < length text) (stop : end ≡ at + line_length (drop at text)) where
  -- the first line from a place on, by where it ends
  pub line_cut : lines_of (drop at text) ≡ record { bytes = drop at (take end text); ended = ltb end (length text) } ∷ lines_of (drop (end + 1) text)
  line_cut =
      let n = line_length (drop at text) in
      let some : 0 < length (drop at text) = omega (arith, length-drop at text) in
      let bytes : take n (drop at text) ≡ drop at (take end text) = sym (drop-take at n text) ∙ ap (λ (k : ℕ). drop at (take k text)) (sym stop) in
      let ended : ltb n (length (drop at text)) ≡ ltb end (length text) = grind (arith, nat_tests, length-drop at text, stop, within) in
      let after : drop (n + 1) (drop at text) ≡ drop (end + 1) text = drop-drop (n + 1) at text ∙ ap (λ (k : ℕ). drop k text) (let e : at + (n + 1) ≡ end + 1 = omega arith in e) in
      first_line (drop at text) some
      ∙ ap (λ (l : List ℕ). record { bytes = l; ended = ltb n (length (drop at text)) } ∷ lines_of (drop (n + 1) (drop at text))) bytes
      ∙ ap (λ (t : Bool). record { bytes = drop at (take end text); ended = t } ∷ lines_of (drop (n + 1) (drop at text))) ended
      ∙ ap (λ (l : List ℕ). record { bytes = drop at (take end text); ended = ltb end (length text) } ∷ lines_of l) after

  pub end_within : end ≤ length text
  end_within = omega (arith, prefix_len-le-length (other 10) (drop at text), length-drop at text)

  pub line_long : at + length (drop at (take end text)) + 1 ≡ end + 1
  line_long =
      let k = end_within in
      let e : length (take end text) ≡ end = length-take-le end text k in
      omega (arith, length-drop at (take end text))
