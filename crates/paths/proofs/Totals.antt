-- Laws of sums over lists.
use Rattle.std.proofs.Common.{◌≡◌, ℕ, zero, suc, ◌+◌, ◌<◌, ◌≤◌, Bool, true, false, cond, eqb, List, [], ◌∷◌, ◌++◌, map, filter, sym, refl, ap, ◌∙◌, add-one, arith, ne_eqb, eqb-true}
use mathlib.Core.Path.{fun_ext}
use borrow.Author.Tests.{eqb-false}
use Rattle.std.specs.List.{flat_map}
use Rattle.algebras.specs.Semirings.{Semiring, Laws}
use Rattle.paths.specs.Listings.{below}
use Rattle.paths.specs.Sums.{total}

module _ {W : Type 0} (r : Semiring W) (laws : Laws r) where
  pub plus_zero : (x : W) → r.plus x r.zero ≡ x
  plus_zero x = laws.plus_comm x r.zero ∙ laws.zero_plus x

  pub total_append : {X : Type 0} (f : X → W) (xs ys : List X) → total r f (xs ++ ys) ≡ r.plus (total r f xs) (total r f ys)
  total_append f [] ys = sym (laws.zero_plus (total r f ys))
  total_append f (x ∷ xs) ys = ap (r.plus (f x)) (total_append f xs ys) ∙ sym (laws.plus_assoc (f x) (total r f xs) (total r f ys))

  pub total_push : {X : Type 0} (f : X → W) (xs : List X) (x : X) → total r f (xs ++ x ∷ []) ≡ r.plus (total r f xs) (f x)
  total_push f xs x = total_append f xs (x ∷ []) ∙ ap (r.plus (total r f xs)) (plus_zero (f x))

  pub total_zero : {X : Type 0} (xs : List X) → total r (λ (x : X). r.zero) xs ≡ r.zero
  total_zero [] = refl
  total_zero (x ∷ xs) = laws.zero_plus (total r (λ y. r.zero) xs) ∙ total_zero xs

  -- (a + b) + (c + e) is (a + c) + (b + e)
  four : (a b c e : W) → r.plus (r.plus a b) (r.plus c e) ≡ r.plus (r.plus a c) (r.plus b e)
  four a b c e =
      laws.plus_assoc a b (r.plus c e)
      ∙ ap (r.plus a) (sym (laws.plus_assoc b c e) ∙ ap (λ t. r.plus t e) (laws.plus_comm b c) ∙ laws.plus_assoc c b e)
      ∙ sym (laws.plus_assoc a c (r.plus b e))

  pub total_plus : {X : Type 0} (f g : X → W) (xs : List X) → total r (λ x. r.plus (f x) (g x)) xs ≡ r.plus (total r f xs) (total r g xs)
  total_plus f g [] = sym (laws.zero_plus r.zero)
  total_plus f g (x ∷ xs) = ap (r.plus (r.plus (f x) (g x))) (total_plus f g xs) ∙ four (f x) (g x) (total r f xs) (total r g xs)

  pub total_swap : {X Y : Type 0} (f : X → Y → W) (xs : List X) (ys : List Y) → total r (λ x. total r (f x) ys) xs ≡ total r (λ y. total r (λ x. f x y) xs) ys
  total_swap f [] ys = sym (total_zero ys)
  total_swap f (x ∷ xs) ys = ap (r.plus (total r (f x) ys)) (total_swap f xs ys) ∙ sym (total_plus (f x) (λ y. total r (λ z. f z y) xs) ys)

  pub total_joined : {X Y : Type 0} (f : Y → W) (g : X → List Y) (xs : List X) → total r f (flat_map g xs) ≡ total r (λ x. total r f (g x)) xs
  total_joined f g [] = refl
  total_joined f g (x ∷ xs) = total_append f (g x) (flat_map g xs) ∙ ap (r.plus (total r f (g x))) (total_joined f g xs)

  pub total_map : {X Y : Type 0} (f : Y → W) (g : X → Y) (xs : List X) → total r f (map g xs) ≡ total r (λ x. f (g x)) xs
  total_map f g [] = refl
  total_map f g (x ∷ xs) = ap (r.plus (f (g x))) (total_map f g xs)

  pub total_ext : {X : Type 0} (f g : X → W) (xs : List X) → ((x : X) → f x ≡ g x) → total r f xs ≡ total r g xs
  total_ext f g xs h = ap (λ t. total r t xs) (fun_ext h)

  pub total_below : (f g : ℕ → W) (n : ℕ) → ((k : ℕ) → k < n → f k ≡ g k) → total r f (below n) ≡ total r g (below n)
  total_below f g zero h = refl
  total_below f g (suc n) h =
      total_push f (below n) n
      ∙ ap (λ t. r.plus t (f n)) (total_below f g n (λ k l. h k (omega arith)))
      ∙ ap (r.plus (total r g (below n))) (h n (omega arith))
      ∙ sym (total_push g (below n) n)

  pub total_more : (f : ℕ → W) (n : ℕ) → total r f (below (n + 1)) ≡ r.plus (total r f (below n)) (f n)
  total_more f n = ap (λ k. total r f (below k)) (add-one n) ∙ total_push f (below n) n

  pub total_kept : {X : Type 0} (p : X → Bool) (f : X → W) (xs : List X) → total r f (filter p xs) ≡ total r (λ x. cond (p x) (f x) r.zero) xs
  total_kept p f [] = refl
  total_kept p f (x ∷ xs) =
      elim (p x) as (λ b. total r f (cond b (x ∷ filter p xs) (filter p xs)) ≡ r.plus (cond b (f x) r.zero) (total r (λ y. cond (p y) (f y) r.zero) xs)) [
        | true ↦ ap (r.plus (f x)) (total_kept p f xs)
        | false ↦ total_kept p f xs ∙ sym (laws.zero_plus _)
      ]

  -- a sum in which one place counts
  none_below : (f : ℕ → W) (n t : ℕ) → n ≤ t → total r (λ s. cond (eqb s t) (f s) r.zero) (below n) ≡ r.zero
  none_below f n t h =
      total_below (λ s. cond (eqb s t) (f s) r.zero) (λ s. r.zero) n (λ k l. ap (λ b. cond b (f k) r.zero) (ne_eqb k t (λ e. omega arith))) ∙ total_zero (below n)

  pick_last : (f : ℕ → W) (n t : ℕ) (b : Bool) → eqb n t ≡ b → t < suc n → (t < n → total r (λ s. cond (eqb s t) (f s) r.zero) (below n) ≡ f t) → r.plus (total r (λ s. cond (eqb s t) (f s) r.zero) (below n)) (cond b (f n) r.zero) ≡ f t
  pick_last f n t true e h under =
      ap (λ x. r.plus x (f n)) (none_below f n t (omega (arith, eqb-true n t e))) ∙ laws.zero_plus (f n) ∙ ap f (eqb-true n t e)
  pick_last f n t false e h under =
      let ne : n ≡ t → ⊥ = eqb-false n t e in
      plus_zero (total r (λ s. cond (eqb s t) (f s) r.zero) (below n)) ∙ under (omega arith)

  pub total_pick : (f : ℕ → W) (n t : ℕ) → t < n → total r (λ s. cond (eqb s t) (f s) r.zero) (below n) ≡ f t
  total_pick f zero t h = absurd (omega arith)
  total_pick f (suc n) t h = total_push (λ s. cond (eqb s t) (f s) r.zero) (below n) n ∙ pick_last f n t (eqb n t) refl h (λ l. total_pick f n t l)

  -- what keeps zero and sums keeps totals
  pub total_through : {X : Type 0} (h : W → W) → h r.zero ≡ r.zero → ((x y : W) → h (r.plus x y) ≡ r.plus (h x) (h y)) → (f : X → W) (xs : List X) → h (total r f xs) ≡ total r (λ x. h (f x)) xs
  total_through h z p f [] = z
  total_through h z p f (x ∷ xs) = p (f x) (total r f xs) ∙ ap (r.plus (h (f x))) (total_through h z p f xs)
