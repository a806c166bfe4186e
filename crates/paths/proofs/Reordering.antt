-- A sum over a list does not depend on its order.
use Rattle.std.proofs.Common.{◌≡◌, ℕ, zero, suc, ◌<◌, List, [], ◌∷◌, ◌++◌, length, get_or, set, ℤ, Option, sym, refl, ap, ◌∙◌, subst, inl, inr, arith}
use Rattle.std.specs.List.Sorted.{IsPermutation}
use Rattle.std.specs.List.{swap}
use Rattle.std.proofs.lemmas.List.Sorted.{IsPermutation-keeps}
use Rattle.model.specs.Trellises.{Diagram, Lawful}
use Rattle.algebras.specs.Semirings.{Semiring, Laws}
use Rattle.paths.specs.Paths.{path_weight}
use Rattle.paths.specs.Lists.{In, NoRepeats}
use Rattle.paths.specs.Listings.{admissible_paths}
use Rattle.paths.specs.Sums.{total, path_sum}
use Rattle.paths.specs.Laws.{AnyOrder, AnyList}
use Rattle.paths.proofs.Listing.{in_left, in_right, in_parts, admissible_listed}

module _ {W X : Type 0} (r : Semiring W) (laws : Laws r) (f : X → W) where
  -- a + (b + c) is b + (a + c)
  three : (a b c : W) → r.plus a (r.plus b c) ≡ r.plus b (r.plus a c)
  three a b c = sym (laws.plus_assoc a b c) ∙ ap (λ t. r.plus t c) (laws.plus_comm a b) ∙ laws.plus_assoc b a c

  -- ---- exchanges

  -- what is put at a place in exchange for what stood there
  total_set : (xs : List X) (i : ℕ) (a c : X) → i < length xs → r.plus (f (get_or xs i c)) (total r f (set xs i a)) ≡ r.plus (f a) (total r f xs)
  total_set [] i a c h = absurd (omega arith)
  total_set (x ∷ xs) zero a c h = three (f x) (f a) (total r f xs)
  total_set (x ∷ xs) (suc i) a c h =
      three (f (get_or xs i c)) (f x) (total r f (set xs i a))
      ∙ ap (r.plus (f x)) (total_set xs i a c (omega arith))
      ∙ three (f x) (f a) (total r f xs)

  total_exchanged : (xs : List X) (i j : ℕ) (c : X) → i < length xs → j < length xs → total r f (set (set xs i (get_or xs j c)) j (get_or xs i c)) ≡ total r f xs
  total_exchanged [] i j c h k = absurd (omega arith)
  total_exchanged (x ∷ xs) zero zero c h k = refl
  total_exchanged (x ∷ xs) zero (suc j) c h k = total_set xs j x c (omega arith)
  total_exchanged (x ∷ xs) (suc i) zero c h k = total_set xs i x c (omega arith)
  total_exchanged (x ∷ xs) (suc i) (suc j) c h k = ap (r.plus (f x)) (total_exchanged xs i j c (omega arith) (omega arith))

  by_exchange : (xs : List X) (i j : ℕ) → i < length xs → j < length xs → total r f (swap xs i j) ≡ total r f xs
  by_exchange [] i j h k = absurd (omega arith)
  by_exchange (x ∷ xs) i j h k = total_exchanged (x ∷ xs) i j x h k

  pub total_shuffled : (xs ys : List X) → IsPermutation xs ys → total r f ys ≡ total r f xs
  total_shuffled xs ys = IsPermutation-keeps xs (λ l. total r f l ≡ total r f xs) refl (λ l i j h k e. by_exchange l i j h k ∙ e) ys

  -- ---- lists with the same elements

  total_out : (us vs : List X) (x : X) → total r f (us ++ x ∷ vs) ≡ r.plus (f x) (total r f (us ++ vs))
  total_out [] vs x = refl
  total_out (a ∷ us) vs x = ap (r.plus (f a)) (total_out us vs x) ∙ three (f a) (f x) (total r f (us ++ vs))

-- a list with x in it, taken apart there
split : {X : Type 0} (x : X) (ys : List X) → In x ys → (us : List X) × (vs : List X) × (ys ≡ us ++ x ∷ vs)
split x [] h = absurd h
split x (y ∷ ys) (inl e) = ([], ys, λ i. sym e i ∷ ys)
split x (y ∷ ys) (inr h) = let s = split x ys h in (y ∷ s.0, s.1, ap (λ l. y ∷ l) s.2)

once_out : {X : Type 0} (us vs : List X) (x : X) → NoRepeats (us ++ x ∷ vs) → NoRepeats (us ++ vs) × (In x (us ++ vs) → ⊥)
once_out [] vs x h = (h.1, h.0)
once_out (a ∷ us) vs x h =
    let k = once_out us vs x h.1 in (
      (λ m. h.0 (elim (in_parts a us vs m) [ inl p ↦ in_left a us (x ∷ vs) p | inr p ↦ in_right a us (x ∷ vs) (inr p) ]), k.0),
      λ m. elim m [ inl e ↦ h.0 (subst (λ z. In z (us ++ x ∷ vs)) e (in_right x us (x ∷ vs) (inl refl))) | inr p ↦ k.1 p ],
    )

module _ {W X : Type 0} (r : Semiring W) (laws : Laws r) (f : X → W) where
  pub total_same : (xs ys : List X) → NoRepeats xs → NoRepeats ys → ((x : X) → In x xs → In x ys) → ((x : X) → In x ys → In x xs) → total r f xs ≡ total r f ys
  total_same [] [] a b to back = refl
  total_same [] (y ∷ ys) a b to back = absurd (back y (inl refl))
  total_same (x ∷ xs) ys a b to back =
      ap (r.plus (f x)) (total_same xs (us ++ vs) a.1 less.0 over under) ∙ sym (total_out r laws f us vs x) ∙ ap (total r f) (sym cut)
    where
      parts : (us : List X) × (vs : List X) × (ys ≡ us ++ x ∷ vs)
      parts = split x ys (to x (inl refl))

      us : List X
      us = parts.0

      vs : List X
      vs = parts.1

      cut : ys ≡ us ++ x ∷ vs
      cut = parts.2

      less : NoRepeats (us ++ vs) × (In x (us ++ vs) → ⊥)
      less = once_out us vs x (subst NoRepeats cut b)

      over : (z : X) → In z xs → In z (us ++ vs)
      over z h = elim (in_parts z us (x ∷ vs) (subst (In z) cut (to z (inr h)))) [
        | inl p ↦ in_left z us vs p
        | inr p ↦ elim p [ inl e ↦ absurd (a.0 (subst (λ v. In v xs) e h)) | inr q ↦ in_right z us vs q ]
      ]

      under : (z : X) → In z (us ++ vs) → In z xs
      under z h = elim (back z (subst (In z) (sym cut) (elim (in_parts z us vs h) [ inl p ↦ in_left z us (x ∷ vs) p | inr p ↦ in_right z us (x ∷ vs) (inr p) ]))) [
        | inl e ↦ absurd (less.1 (subst (λ v. In v (us ++ vs)) e h))
        | inr k ↦ k
      ]

module _ {W : Type 0} (d : Diagram) (cost : ℤ → ℤ → ℕ) (r : Semiring W) (laws : Laws r) (start end : Option ℕ) (xs : List ℤ) where
  pub any_order : AnyOrder d cost r start end xs (path_sum d cost r start end xs)
  unfolding path_sum
  any_order ps h = sym (total_shuffled r laws (path_weight d cost r xs) (admissible_paths d start end (length xs)) ps h)

  pub any_list : Lawful d → AnyList d cost r start end xs (path_sum d cost r start end xs)
  unfolding path_sum
  any_list lawful ps h =
      let k = admissible_listed d lawful start end (length xs) in
      total_same r laws (path_weight d cost r xs) (admissible_paths d start end (length xs)) ps k.once h.once (λ p m. h.each p (k.only p m)) (λ p m. k.each p (h.only p m))
