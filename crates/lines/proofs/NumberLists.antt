-- How a list of numbers is read, word by word.
use Rattle.std.proofs.Common.{◌≡◌, ℕ, suc, ◌+◌, ◌-◌, ◌<◌, ◌≤◌, Bool, true, false, cond, ◌&&◌, ltb, leb, List, [], ◌∷◌, ◌++◌, length, set, replicate, ℤ, pos, Some, None, Option, sym, refl, ap, ◌∙◌, append_assoc, append-nil, length-append, length-take, arith, le-leb}
use borrow.Author.Tests.{lt-leb}
use Rattle.std.proofs.lemmas.List.{set_at, length_push, length-replicate}
use Rattle.std.proofs.lemmas.Bool.{ltb-false, and_right}
use Rattle.std.specs.Option.{option_map}
use Rattle.arrays.specs.declared.list.FixedList.{FixedList}
use Rattle.arrays.specs.Lists.{list_items, with_last}
use Rattle.lines.specs.declared.number.Radix.{Radix}
use Rattle.lines.specs.Words.{first, others}
use Rattle.lines.specs.Numbers.{number_in}
use Rattle.lines.specs.Lists.{list_from, in_front, all_numbers, number_list}

pub list_push : (xs : List ℤ) (x : ℤ) → length xs < 7 → with_last (list_from xs) x ≡ list_from (xs ++ x ∷ [])
list_push xs x h =
    let more : 7 - length xs ≡ suc (7 - length (xs ++ x ∷ [])) = omega (arith, length_push xs x) in
    let items : set (xs ++ replicate (7 - length xs) (pos 0)) (length xs) x ≡ (xs ++ x ∷ []) ++ replicate (7 - length (xs ++ x ∷ [])) (pos 0) =
    ap (λ (k : ℕ). set (xs ++ replicate k (pos 0)) (length xs) x) more
    ∙ set_at xs (pos 0) (replicate (7 - length (xs ++ x ∷ [])) (pos 0)) x (length xs) refl
    ∙ sym (append_assoc xs (x ∷ []) (replicate (7 - length (xs ++ x ∷ [])) (pos 0))) in
    let len : length xs + 1 ≡ length (xs ++ x ∷ []) = sym (length_push xs x) in
    λ i. record { items = items i; len = len i }

length_back : (xs : List ℤ) → length xs ≤ 7 → length (list_items (list_from xs)) ≡ length xs
length_back xs h = simp (length-take, length-append, length-replicate) (omega arith)

-- the first word of a list, taken off
pub first_of : {X : List ℕ} (ws : List (List ℕ)) → Some X ≡ first ws → ws ≡ X ∷ others ws
first_of {X} [] e = let z : ◌≡◌ {A = ℕ} 0 1 = cc in absurd (omega arith)
first_of {X} (w ∷ ws) e = let same : X ≡ w = cc in ap (λ (y : List ℕ). y ∷ ws) (sym same)

pub none_of : (ws : List (List ℕ)) → None ≡ first ws → ws ≡ []
none_of [] e = refl
none_of (w ∷ ws) e = let z : ◌≡◌ {A = ℕ} 0 1 = cc in absurd (omega arith)

-- numbers in front of others, if the others are numbers
abbrev pub onto : List ℤ → Option (List ℤ) → Option (List ℤ)
onto xs None = None
onto xs (Some ys) = Some (xs ++ ys)

onto_more : (xs : List ℤ) (x : ℤ) (o : Option (List ℤ)) → onto xs (in_front (Some x) o) ≡ onto (xs ++ x ∷ []) o
onto_more xs x None = refl
onto_more xs x (Some ys) = ap (λ (l : List ℤ). Some l) (sym (append_assoc xs (x ∷ []) ys))

either_none : (b : Bool) (o : Option (List ℤ)) → None ≡ o → None ≡ option_map list_from (cond b o None)
either_none true o e = ap (option_map list_from) e
either_none false o e = refl

module _ (r : Radix) (ws : List (List ℕ)) where
  -- how far the reading has come: the numbers so far, and the words that are left
  pub record Reads (n : FixedList ℤ 7) (left : List (List ℕ)) : Type 0 where
    pub xs : List ℤ
    pub is : n ≡ list_from xs
    pub few : length xs ≤ 7
    pub count : length ws ≡ length xs + length left
    pub values : all_numbers r ws ≡ onto xs (all_numbers r left)

  same_onto_nothing : (o : Option (List ℤ)) → o ≡ onto [] o
  same_onto_nothing None = refl
  same_onto_nothing (Some ys) = refl

  pub reads_none : Reads (list_from []) ws
  reads_none = record { xs = []; is = refl; few = omega arith; count = omega arith; values = same_onto_nothing (all_numbers r ws) }

  module _ (n : FixedList ℤ 7) (left : List (List ℕ)) (h : Reads n left) where
    len_is : n.len ≡ length h.xs
    len_is = ap (λ (m : FixedList ℤ 7). m.len) h.is

    pub reads_more : {w : List ℕ} (x : ℤ) → Some w ≡ first left → Some x ≡ number_in r w → length (list_items n) < 7 → (after : FixedList ℤ 7) → after ≡ with_last n x → Reads after (others left)
    reads_more {w} x e v room after pushed =
        let cut = first_of left e in
        let small : length h.xs < 7 = omega (arith, ap (λ (m : FixedList ℤ 7). length (list_items m)) h.is, length_back h.xs h.few, room) in
        let l : length left ≡ suc (length (others left)) = ap length cut in
        record {
          xs = h.xs ++ x ∷ [];
          is = pushed ∙ ap (λ (m : FixedList ℤ 7). with_last m x) h.is ∙ list_push h.xs x small;
          few = omega (arith, length_push h.xs x);
          count = omega (arith, h.count, length_push h.xs x);
          values = h.values ∙ ap (λ (k : List (List ℕ)). onto h.xs (all_numbers r k)) cut ∙ ap (λ (o : Option ℤ). onto h.xs (in_front o (all_numbers r (others left)))) (sym v) ∙ onto_more h.xs x (all_numbers r (others left));
        }

    pub reads_bad : {w : List ℕ} → Some w ≡ first left → None ≡ number_in r w → None ≡ option_map list_from (number_list r ws)
    reads_bad {w} e v =
        let cut = first_of left e in
        let none : None ≡ all_numbers r ws = sym (h.values ∙ ap (λ (k : List (List ℕ)). onto h.xs (all_numbers r k)) cut ∙ ap (λ (o : Option ℤ). onto h.xs (in_front o (all_numbers r (others left)))) (sym v)) in
        either_none (leb 1 (length ws) && leb (length ws) 7) (all_numbers r ws) none

    pub reads_full : {w : List ℕ} → Some w ≡ first left → ltb n.len 7 ≡ false → None ≡ option_map list_from (number_list r ws)
    reads_full {w} e full =
        let l : length left ≡ suc (length (others left)) = ap length (first_of left e) in
        let many : leb (length ws) 7 ≡ false = lt-leb _ _ (omega (arith, ltb-false _ _ full, len_is, h.count)) in
        let no : (leb 1 (length ws) && leb (length ws) 7) ≡ false = and_right _ _ many in
        rw no

    ended : None ≡ first left → length ws ≡ length h.xs
    ended e = let l : length left ≡ 0 = ap length (none_of left e) in omega (arith, h.count)

    pub reads_nothing : None ≡ first left → n.len ≡ 0 → None ≡ option_map list_from (number_list r ws)
    reads_nothing e zero-long =
        let no : leb 1 (length ws) ≡ false = lt-leb _ _ (omega (arith, ended e, len_is)) in
        rw no

    pub reads_all : None ≡ first left → (n.len ≡ 0 → ⊥) → Some n ≡ option_map list_from (number_list r ws)
    reads_all e some =
        let a : leb 1 (length ws) ≡ true = le-leb _ _ (omega (arith, ended e, len_is)) in
        let b : leb (length ws) 7 ≡ true = le-leb _ _ (omega (arith, ended e, h.few)) in
        let values : all_numbers r ws ≡ Some h.xs = h.values ∙ ap (λ (k : List (List ℕ)). onto h.xs (all_numbers r k)) (none_of left e) ∙ ap (λ (l : List ℤ). Some l) (append-nil h.xs) in
        rw (a, b) (ap (λ (m : FixedList ℤ 7). Some m) h.is ∙ ap (option_map list_from) (sym values))
