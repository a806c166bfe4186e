-- Which texts the reader accepts, by their lines alone.
use Rattle.std.proofs.Common.{◌≡◌, ℕ, ◌+◌, ◌-◌, Bool, true, false, cond, not, ◌&&◌, ◌||◌, eqb, List, [], ◌∷◌, ◌++◌, map, length, get_or, Some, None, Ok, Err, Option, Result, sym, refl, ap, ◌∙◌, subst, arith}
use borrow.Author.Tests.{clash}
use Rattle.std.proofs.lemmas.Bool.{eqb-true, and_parts}
use Rattle.std.specs.Str.{bytes_eq}
use Rattle.model.proofs.Cases.{not_ok, ok_same}
use Rattle.lines.specs.declared.form.Line.{Line}
use Rattle.lines.specs.Forms.{line_byte, line_bytes, well_spaced, form_of, line_form}
use Rattle.lines.specs.Words.{is_space, words}
use Rattle.model.specs.declared.refusal.Refusal.TheVariants.{LineRepeated}
use Rattle.setups.specs.Texts.{Piece, onto_line, lines_of, text_of}
use Rattle.setups.specs.Lines.{first_word, Read, seen, line_read, read_lines, follow, said, line_fault}
use Rattle.setups.specs.Described.{Forms, named, OnceAfter, Spells}

-- each piece is ended, and has its form
abbrev Said : List Piece → List Line → Type 0
Said [] [] = Unit {0}
Said [] (f ∷ fs) = ⊥
Said (x ∷ xs) [] = ⊥
Said (x ∷ xs) (f ∷ fs) = (said x ≡ Some f) × Said xs fs

-- the newest in front
abbrev pub onto : List Line → List Line → List Line
onto [] earlier = earlier
onto (f ∷ fs) earlier = onto fs (f ∷ earlier)

abbrev pub heard : List Read → List Line
heard ls = map (λ l. l.0) ls

seen_named : (w : List ℕ) (ls : List Read) → seen w ls ≡ named w (heard ls)
seen_named w [] = refl
seen_named w (l ∷ ls) = ap (λ (b : Bool). bytes_eq w (first_word l.0) || b) (seen_named w ls)

-- what is accepted, line by line
record Heard (xs : List Piece) (ls hs : List Read) : Type 0 where
  fs : List Line
  says : Said xs fs
  once : OnceAfter (heard ls) fs
  all : heard hs ≡ onto fs (heard ls)

module _ (x : Piece) (xs : List Piece) (p : ℕ) (ls hs : List Read) (rest : (ms : List Read) → read_lines (p + length x.bytes + 1) ms xs ≡ Ok hs → Heard xs ms hs) where
  heard_by : (l : Line) (t : Bool) → said x ≡ Some l → seen (first_word l) ls ≡ t → follow (cond t (Err (line_fault LineRepeated p)) (Ok ((l, p) ∷ ls))) (λ ms. read_lines (p + length x.bytes + 1) ms xs) ≡ Ok hs → Heard (x ∷ xs) ls hs
  heard_by l true s e h = absurd (not_ok h)
  heard_by l false s e h =
      let r = rest ((l, p) ∷ ls) h in
      record { fs = l ∷ r.fs; says = (s, r.says); once = (sym (seen_named (first_word l) ls) ∙ e, r.once); all = r.all }

  heard_line : (o : Option Line) → said x ≡ o → follow (line_read p ls o) (λ ms. read_lines (p + length x.bytes + 1) ms xs) ≡ Ok hs → Heard (x ∷ xs) ls hs
  heard_line None s h = absurd (not_ok h)
  heard_line (Some l) s h = heard_by l (seen (first_word l) ls) s refl h

heard_all : (p : ℕ) (ls : List Read) (xs : List Piece) (hs : List Read) → read_lines p ls xs ≡ Ok hs → Heard xs ls hs
heard_all p ls [] hs h = record { fs = []; says = tt; once = tt; all = ap heard (sym (ok_same h)) }
heard_all p ls (x ∷ xs) hs h = heard_line x xs p ls hs (λ ms. heard_all (p + length x.bytes + 1) ms xs hs) (said x) refl h

-- and every such list of lines is accepted
record Accepts (p : ℕ) (ls : List Read) (xs : List Piece) (fs : List Line) : Type 0 where
  hs : List Read
  is : read_lines p ls xs ≡ Ok hs
  all : heard hs ≡ onto fs (heard ls)

accepts : (p : ℕ) (ls : List Read) (xs : List Piece) (fs : List Line) → Said xs fs → OnceAfter (heard ls) fs → Accepts p ls xs fs
accepts p ls [] [] s o = record { hs = ls; is = refl; all = refl }
accepts p ls [] (f ∷ fs) s o = absurd s
accepts p ls (x ∷ xs) [] s o = absurd s
accepts p ls (x ∷ xs) (f ∷ fs) s o =
    let new : seen (first_word f) ls ≡ false = seen_named (first_word f) ls ∙ o.0 in
    let r = accepts (p + length x.bytes + 1) ((f, p) ∷ ls) xs fs s.1 o.1 in
    record {
      hs = r.hs;
      is = ap (λ (y : Option Line). follow (line_read p ls y) (λ ms. read_lines (p + length x.bytes + 1) ms xs)) s.0 ∙ ap (λ (b : Bool). follow (cond b (Err (line_fault LineRepeated p)) (Ok ((f, p) ∷ ls))) (λ ms. read_lines (p + length x.bytes + 1) ms xs)) new ∙ r.is;
      all = r.all;
    }

-- a text whose lines are all ended is those lines
abbrev bytes_of : List Piece → List (List ℕ)
bytes_of xs = map (λ x. x.bytes) xs

said_by : (x : Piece) (f : Line) (t : Bool) → x.ended ≡ t → cond t (line_form x.bytes) None ≡ Some f → (x.ended ≡ true) × (line_form x.bytes ≡ Some f)
said_by x f true e h = (e, h)
said_by x f false e h = let z : ◌≡◌ {A = ℕ} 0 1 = cc in absurd (omega arith)

said_parts : (x : Piece) (f : Line) → said x ≡ Some f → (x.ended ≡ true) × (line_form x.bytes ≡ Some f)
said_parts x f h = said_by x f x.ended refl h

abbrev Ended : List Piece → Type 0
Ended [] = Unit {0}
Ended (x ∷ xs) = (x.ended ≡ true) × Ended xs

said_ended : (xs : List Piece) (fs : List Line) → Said xs fs → Ended xs
said_ended [] [] s = tt
said_ended [] (f ∷ fs) s = tt
said_ended (x ∷ xs) [] s = absurd s
said_ended (x ∷ xs) (f ∷ fs) s = ((said_parts x f s.0).0, said_ended xs fs s.1)

said_forms : (xs : List Piece) (fs : List Line) → Said xs fs → Forms (bytes_of xs) fs
said_forms [] [] s = tt
said_forms [] (f ∷ fs) s = absurd s
said_forms (x ∷ xs) [] s = absurd s
said_forms (x ∷ xs) (f ∷ fs) s = ((said_parts x f s.0).1, said_forms xs fs s.1)

rejoined_onto : (b : ℕ) (bs : List ℕ) (xs : List Piece) → (Ended xs → text_of (bytes_of xs) ≡ bs) → Ended (onto_line b xs) → text_of (bytes_of (onto_line b xs)) ≡ b ∷ bs
rejoined_onto b bs [] h e = absurd (clash e.0)
rejoined_onto b bs (x ∷ xs) h e = ap (λ (l : List ℕ). b ∷ l) (h e)

rejoined_by : (b : ℕ) (bs : List ℕ) (t : Bool) → eqb b 10 ≡ t → (Ended (lines_of bs) → text_of (bytes_of (lines_of bs)) ≡ bs) → Ended (cond t (record { bytes = []; ended = true } ∷ lines_of bs) (onto_line b (lines_of bs))) → text_of (bytes_of (cond t (record { bytes = []; ended = true } ∷ lines_of bs) (onto_line b (lines_of bs)))) ≡ b ∷ bs
rejoined_by b bs true q h e = (λ i. sym (eqb-true b 10 q) i ∷ h e.1 i)
rejoined_by b bs false q h e = rejoined_onto b bs (lines_of bs) h e

rejoined : (text : List ℕ) → Ended (lines_of text) → text_of (bytes_of (lines_of text)) ≡ text
rejoined [] e = refl
rejoined (b ∷ bs) e = rejoined_by b bs (eqb b 10) refl (rejoined bs) e

-- a line with a form has no byte 10
no_end : (b : ℕ) (t : Bool) → eqb b 10 ≡ t → line_byte b ≡ true → t ≡ false
no_end b true e h = let ten : b ≡ 10 = eqb-true b 10 e in absurd (clash (sym (ap line_byte ten) ∙ h))
no_end b false e h = refl

spaced_by : (l : List ℕ) (f : Line) (t : Bool) → well_spaced l ≡ t → cond t (form_of (words l)) None ≡ Some f → t ≡ true
spaced_by l f true e h = refl
spaced_by l f false e h = let z : ◌≡◌ {A = ℕ} 0 1 = cc in absurd (omega arith)

formed_bytes : (l : List ℕ) (f : Line) → line_form l ≡ Some f → line_bytes l ≡ true
formed_bytes l f h = (and_parts (not (is_space (get_or l 0 32)) && not (is_space (get_or l (length l - 1) 32))) (line_bytes l) (spaced_by l f (well_spaced l) refl h)).1

cut_off : (l rest : List ℕ) → line_bytes l ≡ true → lines_of (l ++ 10 ∷ rest) ≡ record { bytes = l; ended = true } ∷ lines_of rest
cut_off [] rest h = refl
cut_off (b ∷ l) rest h =
    let parts = and_parts (line_byte b) (line_bytes l) h in
    let other_byte : eqb b 10 ≡ false = no_end b (eqb b 10) refl parts.0 in
    rw other_byte (ap (onto_line b) (cut_off l rest parts.1))

said_cut : (l rest : List ℕ) (f : Line) (fs : List Line) → line_form l ≡ Some f → Said (lines_of rest) fs → Said (lines_of (l ++ 10 ∷ rest)) (f ∷ fs)
said_cut l rest f fs h s = subst (λ (xs : List Piece). Said xs (f ∷ fs)) (sym (cut_off l rest (formed_bytes l f h))) (h, s)

forms_said : (ls : List (List ℕ)) (fs : List Line) → Forms ls fs → Said (lines_of (text_of ls)) fs
forms_said [] [] s = tt
forms_said [] (f ∷ fs) s = absurd s
forms_said (l ∷ ls) [] s = absurd s
forms_said (l ∷ ls) (f ∷ fs) s = said_cut l (text_of ls) f fs s.0 (forms_said ls fs s.1)

-- what the reader accepts is spelt by the text, and what a text spells is accepted
pub record Agrees (text : List ℕ) (hs : List Read) : Type 0 where
  pub fs : List Line
  pub spells : Spells text fs
  pub all : heard hs ≡ onto fs []

pub reads_spelt : (p : ℕ) (text : List ℕ) (hs : List Read) → read_lines p [] (lines_of text) ≡ Ok hs → Agrees text hs
reads_spelt p text hs h =
    let r = heard_all p [] (lines_of text) hs h in
    record {
      fs = r.fs;
      spells = record { lines = bytes_of (lines_of text); whole = sym (rejoined text (said_ended (lines_of text) r.fs r.says)); forms = said_forms (lines_of text) r.fs r.says; once = r.once };
      all = r.all;
    }

pub record Taken (p : ℕ) (text : List ℕ) (fs : List Line) : Type 0 where
  pub hs : List Read
  pub is : read_lines p [] (lines_of text) ≡ Ok hs
  pub all : heard hs ≡ onto fs []

pub spelt_reads : (p : ℕ) (text : List ℕ) (fs : List Line) → Spells text fs → Taken p text fs
spelt_reads p text fs s =
    let r = accepts p [] (lines_of text) fs (subst (λ (t : List ℕ). Said (lines_of t) fs) (sym s.whole) (forms_said s.lines fs s.forms)) s.once in
    record { hs = r.hs; is = r.is; all = r.all }
