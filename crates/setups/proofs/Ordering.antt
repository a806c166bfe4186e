-- The order of the lines does not matter.
use Rattle.std.proofs.Common.{◌≡◌, ℕ, Bool, true, false, ◌||◌, List, [], ◌∷◌, is_some, Some, None, codes, Option, sym, refl, ap, ◌∙◌}
use borrow.Author.Tests.{clash}
use Rattle.std.proofs.lemmas.Slice.Eq.{bytes_eq-Decides}
use Rattle.std.proofs.lemmas.Bool.{or_parts, or_from}
use Rattle.std.specs.Str.{bytes_eq}
use Rattle.lines.specs.declared.form.Line.{Line}
use Rattle.setups.specs.declared.held.Placed.{Placed}
use Rattle.setups.specs.Texts.{text_of}
use Rattle.setups.specs.Lines.{first_word, Read, code_in, rll_in, taps_in, measure_in, start_in, end_in, or_else, pick, gathered}
use Rattle.setups.specs.Setups.{trellis_of, setup_from, content, held_setup, or_later, chosen, setup_of}
use Rattle.setups.specs.Described.{Forms, named, OnceAfter, Once, Spells, Reordered, nothing, keep, swap, after}
use Rattle.setups.proofs.Holding.{names_code, names_rll, names_taps, names_measure, names_start, names_end}
use Rattle.setups.proofs.Spelling.{onto, heard}

content_else : {X : Type 0} (o : Option X) (p : ℕ) (rest : Option (Placed X)) → content (or_else o p rest) ≡ or_later o (content rest)
content_else None p rest = refl
content_else (Some x) p rest = refl

-- what is picked with its place is what is chosen without
content_pick : {X : Type 0} (f : Line → Option X) (hs : List Read) → content (pick f hs) ≡ chosen f (heard hs)
content_pick f [] = refl
content_pick f (h ∷ hs) = content_else (f h.0) h.1 (pick f hs) ∙ ap (or_later (f h.0)) (content_pick f hs)

-- a setup depends on what is chosen alone
pub record Alike (ks ls : List Line) : Type 0 where
  pub code : chosen code_in ks ≡ chosen code_in ls
  pub rll : chosen rll_in ks ≡ chosen rll_in ls
  pub taps : chosen taps_in ks ≡ chosen taps_in ls
  pub measure : chosen measure_in ks ≡ chosen measure_in ls
  pub start : chosen start_in ks ≡ chosen start_in ls
  pub end : chosen end_in ks ≡ chosen end_in ls

pub alike_setups : (ks ls : List Line) → Alike ks ls → setup_of ks ≡ setup_of ls
alike_setups ks ls a = λ i. setup_from (trellis_of (a.code i) (a.rll i) (a.taps i)) (a.measure i) (a.start i) (a.end i)

pub gathered_setup : (hs : List Read) → held_setup (gathered hs) ≡ setup_of (heard hs)
gathered_setup hs = λ i. setup_from (trellis_of (content_pick code_in hs i) (content_pick rll_in hs i) (content_pick taps_in hs i)) (content_pick measure_in hs i) (content_pick start_in hs i) (content_pick end_in hs i)

later_none : {X : Type 0} (o : Option X) → or_later o None ≡ o
later_none None = refl
later_none (Some x) = refl

-- two words are the same, either way round
same_back : (v w : List ℕ) (t : Bool) → bytes_eq v w ≡ t → bytes_eq w v ≡ false → t ≡ false
same_back v w true e h = absurd (clash (sym h ∙ (bytes_eq-Decides w v).1 (sym ((bytes_eq-Decides v w).0 e))))
same_back v w false e h = refl

once_same : (d e : List Line) (fs : List Line) → ((w : List ℕ) → named w d ≡ named w e) → OnceAfter d fs → OnceAfter e fs
once_same d e [] h o = tt
once_same d e (f ∷ fs) h o = (sym (h (first_word f)) ∙ o.0, once_same (f ∷ d) (f ∷ e) fs (λ w. ap (λ (b : Bool). bytes_eq w (first_word f) || b) (h w)) o.1)

or_swap : (a b c : Bool) → (a || (b || c)) ≡ (b || (a || c))
or_swap true true c = refl
or_swap true false c = refl
or_swap false true c = refl
or_swap false false c = refl

-- in another order still no first word stands twice
pub once_reordered : {fs gs : List Line} (earlier : List Line) → Reordered fs gs → OnceAfter earlier fs → OnceAfter earlier gs
once_reordered earlier nothing o = tt
once_reordered earlier (keep x r) o = (o.0, once_reordered (x ∷ earlier) r o.1)
once_reordered earlier (swap x y xs) o =
    let parts = or_parts (bytes_eq (first_word y) (first_word x)) (named (first_word y) earlier) o.1.0 in
    (parts.1, (or_from _ _ (same_back (first_word x) (first_word y) (bytes_eq (first_word x) (first_word y)) refl parts.0) o.0, once_same (y ∷ x ∷ earlier) (x ∷ y ∷ earlier) xs (λ w. or_swap (bytes_eq w (first_word y)) (bytes_eq w (first_word x)) (named w earlier)) o.1.1))
once_reordered earlier (after r s) o = once_reordered earlier s (once_reordered earlier r o)

module _ {X : Type 0} (f : Line → Option X) (w : List ℕ) (names : (l : Line) → bytes_eq w (first_word l) ≡ is_some (f l)) where
  -- a first word that is not there chooses nothing
  not_named : (ls : List Line) → named w ls ≡ false → chosen f ls ≡ None
  not_named [] h = refl
  not_named (l ∷ ls) h =
      let parts = or_parts (bytes_eq w (first_word l)) (named w ls) h in
      none_first (f l) (sym (names l) ∙ parts.0) (not_named ls parts.1) where
        none_first : (o : Option X) {rest : Option X} → is_some o ≡ false → rest ≡ None → or_later o rest ≡ None
        none_first None e k = k
        none_first (Some x) e k = absurd (clash (sym e))

  word_is : (l : Line) (x : X) → f l ≡ Some x → w ≡ first_word l
  word_is l x e = (bytes_eq-Decides w (first_word l)).0 (names l ∙ ap is_some e)

  -- a line of this form, whose first word is not among others, stands alone
  alone : (l : Line) (x : X) (ls : List Line) → f l ≡ Some x → named (first_word l) ls ≡ false → chosen f ls ≡ None
  alone l x ls e h = not_named ls (ap (λ (v : List ℕ). named v ls) (word_is l x e) ∙ h)

  exchange : (l : Line) (o : Option X) (ls : List Line) (rest : Option X) → f l ≡ o → named (first_word l) ls ≡ false → or_later (or_later o (chosen f ls)) rest ≡ or_later (chosen f ls) (or_later o rest)
  exchange l None ls rest e h = refl
  exchange l (Some x) ls rest e h = ap (λ (c : Option X). or_later c (Some x)) (sym (alone l x ls e h))

  -- lines read one after the other choose what the lines in their order choose
  pub chosen_onto : (fs earlier : List Line) → OnceAfter earlier fs → chosen f (onto fs earlier) ≡ or_later (chosen f earlier) (chosen f fs)
  chosen_onto [] earlier o = sym (later_none (chosen f earlier))
  chosen_onto (l ∷ fs) earlier o = chosen_onto fs (l ∷ earlier) o.1 ∙ exchange l (f l) earlier (chosen f fs) refl o.0

  both : (k l : Line) (o p : Option X) (rest : Option X) → f k ≡ o → f l ≡ p → bytes_eq (first_word l) (first_word k) ≡ false → or_later o (or_later p rest) ≡ or_later p (or_later o rest)
  both k l None None rest d e h = refl
  both k l None (Some y) rest d e h = refl
  both k l (Some x) None rest d e h = refl
  both k l (Some x) (Some y) rest d e h =
      let same : first_word l ≡ first_word k = sym (word_is l y e) ∙ word_is k x d in
      absurd (clash (sym h ∙ (bytes_eq-Decides (first_word l) (first_word k)).1 same))

  pub chosen_reordered : {fs gs : List Line} (earlier : List Line) → Reordered fs gs → OnceAfter earlier fs → chosen f fs ≡ chosen f gs
  chosen_reordered earlier nothing o = refl
  chosen_reordered earlier (keep x r) o = ap (or_later (f x)) (chosen_reordered (x ∷ earlier) r o.1)
  chosen_reordered earlier (swap x y xs) o =
      let parts = or_parts (bytes_eq (first_word y) (first_word x)) (named (first_word y) earlier) o.1.0 in
      both x y (f x) (f y) (chosen f xs) refl refl parts.0
  chosen_reordered earlier (after r s) o = chosen_reordered earlier r o ∙ chosen_reordered earlier s (once_reordered earlier r o)

pub onto_alike : (fs : List Line) → Once fs → setup_of (onto fs []) ≡ setup_of fs
onto_alike fs o =
    alike_setups (onto fs []) fs (record {
      code = chosen_onto code_in (codes "code") names_code fs [] o;
      rll = chosen_onto rll_in (codes "rll") names_rll fs [] o;
      taps = chosen_onto taps_in (codes "taps") names_taps fs [] o;
      measure = chosen_onto measure_in (codes "measure") names_measure fs [] o;
      start = chosen_onto start_in (codes "start") names_start fs [] o;
      end = chosen_onto end_in (codes "end") names_end fs [] o;
    })

pub reordered_alike : {fs gs : List Line} → Reordered fs gs → Once fs → setup_of fs ≡ setup_of gs
reordered_alike {fs} {gs} r o =
    alike_setups fs gs (record {
      code = chosen_reordered code_in (codes "code") names_code [] r o;
      rll = chosen_reordered rll_in (codes "rll") names_rll [] r o;
      taps = chosen_reordered taps_in (codes "taps") names_taps [] r o;
      measure = chosen_reordered measure_in (codes "measure") names_measure [] r o;
      start = chosen_reordered start_in (codes "start") names_start [] r o;
      end = chosen_reordered end_in (codes "end") names_end [] r o;
    })

-- lines in another order have their forms in another order
pub record Moved (ks : List (List ℕ)) (fs : List Line) : Type 0 where
  pub gs : List Line
  pub forms : Forms ks gs
  pub order : Reordered fs gs

moved_nothing : (fs : List Line) → Forms [] fs → Moved [] fs
moved_nothing [] h = record { gs = []; forms = tt; order = nothing }
moved_nothing (f ∷ fs) h = absurd h

moved_keep : (l : List ℕ) (ls ks : List (List ℕ)) (fs : List Line) → ((gs : List Line) → Forms ls gs → Moved ks gs) → Forms (l ∷ ls) fs → Moved (l ∷ ks) fs
moved_keep l ls ks [] m h = absurd h
moved_keep l ls ks (f ∷ fs) m h = let r = m fs h.1 in record { gs = f ∷ r.gs; forms = (h.0, r.forms); order = keep f r.order }

moved_swap : (k l : List ℕ) (ls : List (List ℕ)) (fs : List Line) → Forms (k ∷ l ∷ ls) fs → Moved (l ∷ k ∷ ls) fs
moved_swap k l ls [] h = absurd h
moved_swap k l ls (f ∷ []) h = absurd h.1
moved_swap k l ls (f ∷ g ∷ fs) h = record { gs = g ∷ f ∷ fs; forms = (h.1.0, (h.0, h.1.1)); order = swap f g fs }

pub moved : {ls ks : List (List ℕ)} → Reordered ls ks → (fs : List Line) → Forms ls fs → Moved ks fs
moved nothing fs h = moved_nothing fs h
moved (keep x r) fs h = moved_keep x _ _ fs (moved r) h
moved (swap x y xs) fs h = moved_swap x y xs fs h
moved (after r s) fs h =
    let a = moved r fs h in
    let b = moved s a.gs a.forms in
    record { gs = b.gs; forms = b.forms; order = after a.order b.order }

-- a text with the same lines in another order spells the same setup
pub record Respelt (lines : List (List ℕ)) (fs : List Line) : Type 0 where
  pub gs : List Line
  pub spells : Spells (text_of lines) gs
  pub alike : setup_of gs ≡ setup_of fs

pub respelt : (text : List ℕ) (fs : List Line) (s : Spells text fs) (lines : List (List ℕ)) → Reordered s.lines lines → Respelt lines fs
respelt text fs s lines r =
    let m = moved r fs s.forms in
    record { gs = m.gs; spells = record { lines = lines; whole = refl; forms = m.forms; once = once_reordered [] m.order s.once }; alike = sym (reordered_alike m.order s.once) }
