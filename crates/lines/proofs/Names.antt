-- A name writes no number, and a figure is not `any`.
use Rattle.std.proofs.Common.{◌≡◌, ℕ, ◌+◌, ◌-◌, ◌*◌, ◌≤◌, Bool, true, false, cond, ◌&&◌, eqb, ltb, leb, List, [], ◌∷◌, length, drop, pos, Some, None, codes, Option, sym, refl, ap, ◌∙◌, subst, arith, Bor, le-leb}
use borrow.Author.Tests.{clash}
use Rattle.std.proofs.lemmas.Slice.Eq.{bytes_eq-Decides}
use Rattle.std.proofs.lemmas.Bool.{and_parts, ltb-true, eqb-true}
use Rattle.std.specs.Option.{option_map}
use Rattle.std.specs.Str.{bytes_eq}
use Rattle.lines.specs.declared.lexer.Lexer.{Lexer}
use Rattle.lines.specs.declared.lexer.Word.{Word}
use Rattle.lines.specs.declared.lexer.Word.TheVariants.{Name, Figure}
use Rattle.lines.specs.declared.number.Radix.{Radix}
use Rattle.lines.specs.declared.number.Radix.TheVariants.{Decimal, Octal}
use Rattle.lines.specs.Words.{all_digits, some_digits, figure, first}
use Rattle.lines.specs.Lexers.{Spelled, spelled, word_bytes, next_word, word_at, spaces, pending}
use Rattle.lines.specs.Numbers.{is_digit, digits_after, numeral, negative, number_in}
use Rattle.lines.specs.Lists.{first_number}
use Rattle.lines.proofs.NumberLists.{first_of}

-- what the lexer says of a word's kind is right of its bytes
abbrev Rightly : Option Spelled → Type 0
Rightly None = Unit {0}
Rightly (Some s) = s.is_figure ≡ figure s.bytes

rightly_by : (t : Bool) (text : List ℕ) (p : ℕ) → Rightly (cond t (Some (word_at text p)) None)
rightly_by true text p = refl
rightly_by false text p = tt

pub kind_is : (l : Lexer) (s : Spelled) → Some s ≡ next_word l → s.is_figure ≡ figure s.bytes
kind_is l s e = subst Rightly (sym e) (rightly_by _ (drop (spaces l.rest.now) l.rest.now) (l.at + spaces l.rest.now))

-- bytes that are not all digits write no number
digit_by : (base b n : ℕ) (bs : List ℕ) (t : Bool) → base ≤ 10 → is_digit base b ≡ t → (leb 48 b && leb b 57 && all_digits bs) ≡ false → ((m : ℕ) → all_digits bs ≡ false → digits_after base m bs ≡ None) → cond t (digits_after base (n * base + (b - 48)) bs) None ≡ None
digit_by base b n bs false few e h k = refl
digit_by base b n bs true few e h k =
    let p = and_parts (leb 48 b) (ltb b (48 + base)) e in
    let low : leb 48 b ≡ true = p.0 in
    let high : leb b 57 ≡ true = le-leb _ _ (omega (arith, ltb-true _ _ p.1)) in
    k (n * base + (b - 48)) (rw (low, high) at h)

pub no_digits : (base n : ℕ) (bs : List ℕ) → base ≤ 10 → all_digits bs ≡ false → digits_after base n bs ≡ None
no_digits base n [] few h = absurd (clash (sym h))
no_digits base n (b ∷ bs) few h = digit_by base b n bs (is_digit base b) few refl h (λ m. no_digits base m bs few)

either_none : (b : Bool) (o : Option ℕ) → o ≡ None → cond b o None ≡ None
either_none true o e = e
either_none false o e = refl

no_numeral : (base : ℕ) (bs : List ℕ) → base ≤ 10 → some_digits bs ≡ false → numeral base bs ≡ None
no_numeral base [] few h = refl
no_numeral base (b ∷ bs) few h = either_none (leb 1 (length (b ∷ bs)) && leb (length (b ∷ bs)) 6) _ (no_digits base 0 (b ∷ bs) few h)

-- a minus is no digit
minus_no_digit : (b : ℕ) (bs : List ℕ) → eqb b 45 ≡ true → all_digits (b ∷ bs) ≡ false
minus_no_digit b bs e = let m : b ≡ 45 = eqb-true _ _ e in rw m

decimal_by : (b : ℕ) (bs : List ℕ) (t : Bool) → cond t (some_digits bs) (all_digits (b ∷ bs)) ≡ false → cond t (option_map negative (numeral 10 bs)) (option_map pos (numeral 10 (b ∷ bs))) ≡ None
decimal_by b bs true h = ap (option_map negative) (no_numeral 10 bs (omega arith) h)
decimal_by b bs false h = ap (option_map pos) (no_numeral 10 (b ∷ bs) (omega arith) h)

octal_by : (b : ℕ) (bs : List ℕ) (t : Bool) → eqb b 45 ≡ t → cond t (some_digits bs) (all_digits (b ∷ bs)) ≡ false → all_digits (b ∷ bs) ≡ false
octal_by b bs true e h = minus_no_digit b bs e
octal_by b bs false e h = h

pub name_no_number : (r : Radix) (w : List ℕ) → false ≡ figure w → None ≡ number_in r w
name_no_number Decimal [] h = refl
name_no_number Decimal (b ∷ bs) h = sym (decimal_by b bs (eqb b 45) (sym h))
name_no_number Octal [] h = refl
name_no_number Octal (b ∷ bs) h = sym (ap (option_map pos) (no_numeral 8 (b ∷ bs) (omega arith) (octal_by b bs (eqb b 45) refl (sym h))))

-- a figure is another word than `any`
any_by : (w : List ℕ) (t : Bool) → bytes_eq w (codes "any") ≡ t → true ≡ figure w → t ≡ false
any_by w true e h = let same : w ≡ codes "any" = (bytes_eq-Decides w (codes "any")).0 e in absurd (clash (sym (h ∙ ap figure same)))
any_by w false e h = refl

pub figure_not_any : (w : List ℕ) → true ≡ figure w → bytes_eq w (codes "any") ≡ false
figure_not_any w h = any_by w (bytes_eq w (codes "any")) refl h

-- the number of the first word
pub first_number_at : (r : Radix) (ws : List (List ℕ)) {w : List ℕ} → Some w ≡ first ws → number_in r w ≡ first_number r ws
first_number_at r ws {w} e = ap (first_number r) (sym (first_of ws e))

module _ (l : Lexer) (word : Word) (says : Some (spelled word) ≡ next_word l) (bytes : Some (word_bytes word) ≡ first (pending l)) where
  same_bytes : (x : Word) → (spelled x).bytes ≡ word_bytes x
  same_bytes (Name w p) = refl
  same_bytes (Figure w p) = refl

  kind : (spelled word).is_figure ≡ figure (word_bytes word)
  kind = kind_is l (spelled word) says ∙ ap figure (same_bytes word)

  pub name_first : (b : Bor (List ℕ)) (p : ℕ) (r : Radix) → word ≡ Name b p → None ≡ number_in r b.now
  name_first b p r e = name_no_number r b.now (sym (ap (λ (x : Word). (spelled x).is_figure) e) ∙ kind ∙ ap (λ (x : Word). figure (word_bytes x)) e)

  pub figure_first : (b : Bor (List ℕ)) (p : ℕ) → word ≡ Figure b p → bytes_eq b.now (codes "any") ≡ false
  figure_first b p e = figure_not_any b.now (sym (ap (λ (x : Word). (spelled x).is_figure) e) ∙ kind ∙ ap (λ (x : Word). figure (word_bytes x)) e)
