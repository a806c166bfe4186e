-- The lines that are held, by the list of lines that were read.
use Rattle.std.proofs.Common.{◌≡◌, ℕ, ◌+◌, ◌<◌, ◌≤◌, Bool, true, false, cond, ◌||◌, ltb, List, [], ◌∷◌, length, take, drop, is_some, Some, None, Ok, Err, codes, Option, Result, sym, refl, ap, ◌∙◌}
use Rattle.std.proofs.lemmas.List.{drop_all}
use Rattle.std.specs.List.{prefix_len}
use Rattle.std.specs.Str.{bytes_eq}
use Rattle.lines.specs.declared.form.Line.{Line}
use Rattle.lines.specs.declared.form.Line.TheVariants.{Code, Rll, Taps, Measure, Start, End}
use Rattle.lines.specs.Forms.{line_form}
use Rattle.lines.specs.Words.{other}
use Rattle.model.specs.declared.refusal.Refusal.TheVariants.{LineForm, LineRepeated}
use Rattle.model.specs.Refusals.{Refused}
use Rattle.setups.specs.declared.held.Placed.{Placed}
use Rattle.setups.specs.declared.held.HeldLines.{HeldLines}
use Rattle.setups.specs.Texts.{lines_of}
use Rattle.setups.specs.Lines.{first_word, Read, seen, code_in, rll_in, taps_in, measure_in, start_in, end_in, or_else, pick, gathered, is_held, with_line, line_read, read_lines, follow, line_fault, gathered_from}
use Rattle.setups.proofs.Pieces.{line_cut, line_long}

module _ {X : Type 0} (f : Line → Option X) (w : List ℕ) (names : (l : Line) → bytes_eq w (first_word l) ≡ is_some (f l)) where
  step : (o : Option X) (p : ℕ) (rest : Option (Placed X)) → (is_some o || is_some rest) ≡ is_some (or_else o p rest)
  step None p rest = refl
  step (Some x) p rest = refl

  -- a first word was seen exactly if a line of its form is held
  pub seen_picked : (ls : List Read) → seen w ls ≡ is_some (pick f ls)
  seen_picked [] = refl
  seen_picked (l ∷ ls) = ap (λ (t : Bool). t || seen w ls) (names l.0) ∙ ap (λ (t : Bool). is_some (f l.0) || t) (seen_picked ls) ∙ step (f l.0) l.1 (pick f ls)

pub names_code : (l : Line) → bytes_eq (codes "code") (first_word l) ≡ is_some (code_in l)
names_code l = elim l as (λ k. bytes_eq (codes "code") (first_word k) ≡ is_some (code_in k)) [ Code x ↦ refl | Rll x ↦ refl | Taps x ↦ refl | Measure x ↦ refl | Start x ↦ refl | End x ↦ refl ]

pub names_rll : (l : Line) → bytes_eq (codes "rll") (first_word l) ≡ is_some (rll_in l)
names_rll l = elim l as (λ k. bytes_eq (codes "rll") (first_word k) ≡ is_some (rll_in k)) [ Code x ↦ refl | Rll x ↦ refl | Taps x ↦ refl | Measure x ↦ refl | Start x ↦ refl | End x ↦ refl ]

pub names_taps : (l : Line) → bytes_eq (codes "taps") (first_word l) ≡ is_some (taps_in l)
names_taps l = elim l as (λ k. bytes_eq (codes "taps") (first_word k) ≡ is_some (taps_in k)) [ Code x ↦ refl | Rll x ↦ refl | Taps x ↦ refl | Measure x ↦ refl | Start x ↦ refl | End x ↦ refl ]

pub names_measure : (l : Line) → bytes_eq (codes "measure") (first_word l) ≡ is_some (measure_in l)
names_measure l = elim l as (λ k. bytes_eq (codes "measure") (first_word k) ≡ is_some (measure_in k)) [ Code x ↦ refl | Rll x ↦ refl | Taps x ↦ refl | Measure x ↦ refl | Start x ↦ refl | End x ↦ refl ]

pub names_start : (l : Line) → bytes_eq (codes "start") (first_word l) ≡ is_some (start_in l)
names_start l = elim l as (λ k. bytes_eq (codes "start") (first_word k) ≡ is_some (start_in k)) [ Code x ↦ refl | Rll x ↦ refl | Taps x ↦ refl | Measure x ↦ refl | Start x ↦ refl | End x ↦ refl ]

pub names_end : (l : Line) → bytes_eq (codes "end") (first_word l) ≡ is_some (end_in l)
names_end l = elim l as (λ k. bytes_eq (codes "end") (first_word k) ≡ is_some (end_in k)) [ Code x ↦ refl | Rll x ↦ refl | Taps x ↦ refl | Measure x ↦ refl | Start x ↦ refl | End x ↦ refl ]

pub seen_held : (ls : List Read) (l : Line) → seen (first_word l) ls ≡ is_held (gathered ls) l
seen_held ls (Code x) = seen_picked code_in (codes "code") names_code ls
seen_held ls (Rll x) = seen_picked rll_in (codes "rll") names_rll ls
seen_held ls (Taps x) = seen_picked taps_in (codes "taps") names_taps ls
seen_held ls (Measure x) = seen_picked measure_in (codes "measure") names_measure ls
seen_held ls (Start x) = seen_picked start_in (codes "start") names_start ls
seen_held ls (End x) = seen_picked end_in (codes "end") names_end ls

pub with_gathered : (ls : List Read) (l : Line) (p : ℕ) → with_line (gathered ls) l p ≡ gathered ((l, p) ∷ ls)
with_gathered ls (Code x) p = refl
with_gathered ls (Rll x) p = refl
with_gathered ls (Taps x) p = refl
with_gathered ls (Measure x) p = refl
with_gathered ls (Start x) p = refl
with_gathered ls (End x) p = refl

module _ (text : List ℕ) (from : ℕ) where
  abbrev whole : Result (List Read) Refused
  whole = read_lines from [] (lines_of (drop from text))

  -- how far the reading has come: the lines so far, and the rest of the text from a place on
  pub record Reading (held : HeldLines) (at : ℕ) : Type 0 where
    pub lines : List Read
    pub is : held ≡ gathered lines
    pub rest : read_lines from [] (lines_of (drop from text)) ≡ read_lines at lines (lines_of (drop at text))

  pub reading_none : (held : HeldLines) → held ≡ gathered [] → Reading held from
  reading_none held e = record { lines = []; is = e; rest = refl }

  module _ (held : HeldLines) (at : ℕ) (h : Reading held at) where
    pub reading_done : length text ≤ at → Ok held ≡ gathered_from whole
    reading_done past = ap (λ (x : HeldLines). Ok x) h.is ∙ ap gathered_from (sym (h.rest ∙ ap (λ (bs : List ℕ). read_lines at h.lines (lines_of bs)) (drop_all at text past)))

    module _ (end : ℕ) (within : at < length text) (stop : end ≡ at + prefix_len (other 10) (drop at text)) (o : Option Line) (line : o ≡ cond (ltb end (length text)) (line_form (drop at (take end text))) None) where
      -- the next line is read, and the rest follows
      next : whole ≡ follow (line_read at h.lines o) (λ ms. read_lines (end + 1) ms (lines_of (drop (end + 1) text)))
      next =
          h.rest
          ∙ ap (read_lines at h.lines) (line_cut text at end within stop)
          ∙ ap (λ (x : Option Line). follow (line_read at h.lines x) (λ ms. read_lines (at + length (drop at (take end text)) + 1) ms (lines_of (drop (end + 1) text)))) (sym line)
          ∙ ap (λ (n : ℕ). follow (line_read at h.lines o) (λ ms. read_lines n ms (lines_of (drop (end + 1) text)))) (line_long text at end within stop)

      pub reading_bad : o ≡ None → Err (line_fault LineForm at) ≡ gathered_from whole
      reading_bad e = sym (ap gathered_from (next ∙ ap (λ (x : Option Line). follow (line_read at h.lines x) (λ ms. read_lines (end + 1) ms (lines_of (drop (end + 1) text)))) e))

      module _ (l : Line) (some : o ≡ Some l) where
        taken : (t : Bool) → t ≡ is_held held l → whole ≡ follow (cond t (Err (line_fault LineRepeated at)) (Ok ((l, at) ∷ h.lines))) (λ ms. read_lines (end + 1) ms (lines_of (drop (end + 1) text)))
        taken t e =
            next
            ∙ ap (λ (x : Option Line). follow (line_read at h.lines x) (λ ms. read_lines (end + 1) ms (lines_of (drop (end + 1) text)))) some
            ∙ ap (λ (b : Bool). follow (cond b (Err (line_fault LineRepeated at)) (Ok ((l, at) ∷ h.lines))) (λ ms. read_lines (end + 1) ms (lines_of (drop (end + 1) text)))) (seen_held h.lines l ∙ ap (λ (x : HeldLines). is_held x l) (sym h.is) ∙ sym e)

        pub reading_again : true ≡ is_held held l → Err (line_fault LineRepeated at) ≡ gathered_from whole
        reading_again e = sym (ap gathered_from (taken true e))

        pub reading_more : (after : HeldLines) → false ≡ is_held held l → after ≡ with_line held l at → Reading after (end + 1)
        reading_more after e put = record { lines = (l, at) ∷ h.lines; is = put ∙ ap (λ (x : HeldLines). with_line x l at) h.is ∙ with_gathered h.lines l at; rest = taken false e }
