-- The order is one: of two paths that differ one is before the other, and only one way round.
use Rattle.std.proofs.Common.{◌≡◌, ℕ, suc, ◌<◌, Bool, true, false, ◌&&◌, ◌||◌, eqb, ltb, ◌⊎◌, List, [], ◌∷◌, map, reverse, length, is_some, Some, None, unwrap_or, sym, refl, ap, ◌∙◌, inl, inr, arith, ltb-true, le-ltb, lt-ltb, eq-eqb, eqb-true}
use borrow.Author.Tests.{clash}
use Rattle.std.proofs.lemmas.Bool.{cases_order, or_cases, and_parts}
use Rattle.std.proofs.lemmas.List.{reverse-reverse, length-reverse}
use Rattle.model.specs.Trellises.{Diagram}
use Rattle.paths.specs.Paths.{Path, PathOn, along, reached, last_state}
use Rattle.paths.specs.Orders.{lower, earlier, steps_from, steps_back}
use Rattle.paths.specs.Laws.{TotalOrder, OneWay, Transitive}

-- ---- two numbers, and then the rest

pub lower_lt : (i j : ℕ) (b : Bool) → i < j → lower i j b ≡ true
lower_lt i j b h = ap (λ t. t || (eqb i j && b)) (lt-ltb i j h)

pub lower_eq : (i j : ℕ) (b : Bool) → i ≡ j → lower i j b ≡ b
lower_eq i j b e = ap (λ t. t || (eqb i j && b)) (le-ltb i j (omega arith)) ∙ ap (λ t. false || (t && b)) (eq-eqb i j e)

pub lower_says : (i j : ℕ) (b : Bool) → lower i j b ≡ true → (i < j) ⊎ ((i ≡ j) × (b ≡ true))
lower_says i j b h = elim (or_cases (ltb i j) (eqb i j && b) h) [ inl l ↦ inl (ltb-true i j l) | inr l ↦ let p = and_parts (eqb i j) b l in inr (eqb-true i j p.0, p.1) ]

lower_one_way : (i j : ℕ) (b c : Bool) → (b ≡ true → c ≡ true → ⊥) → lower i j b ≡ true → lower j i c ≡ true → ⊥
lower_one_way i j b c r p q = go (lower_says i j b p) (lower_says j i c q)
  where
    go : (i < j) ⊎ ((i ≡ j) × (b ≡ true)) → (j < i) ⊎ ((j ≡ i) × (c ≡ true)) → ⊥
    go (inl l) (inl m) = omega arith
    go (inl l) (inr m) = omega (arith, m.0)
    go (inr l) (inl m) = omega (arith, l.0)
    go (inr l) (inr m) = r l.1 m.1

lower_transitive : (i j k : ℕ) (b c d : Bool) → (b ≡ true → c ≡ true → d ≡ true) → lower i j b ≡ true → lower j k c ≡ true → lower i k d ≡ true
lower_transitive i j k b c d r p q = go (lower_says i j b p) (lower_says j k c q)
  where
    go : (i < j) ⊎ ((i ≡ j) × (b ≡ true)) → (j < k) ⊎ ((j ≡ k) × (c ≡ true)) → lower i k d ≡ true
    go (inl l) (inl m) = lower_lt i k d (omega arith)
    go (inl l) (inr m) = lower_lt i k d (omega (arith, m.0))
    go (inr l) (inl m) = lower_lt i k d (omega (arith, l.0))
    go (inr l) (inr m) = lower_eq i k d (l.0 ∙ m.0) ∙ r l.1 m.1

-- alike, or one lower than the other, or decided by the rest
lower_total : (i j : ℕ) (b c : Bool) {R : Type 0} → (i ≡ j → R ⊎ ((b ≡ true) ⊎ (c ≡ true))) → R ⊎ ((lower i j b ≡ true) ⊎ (lower j i c ≡ true))
lower_total i j b c {R} rest = go (cases_order i j)
  where
    alike : (e : i ≡ j) → R ⊎ ((b ≡ true) ⊎ (c ≡ true)) → R ⊎ ((lower i j b ≡ true) ⊎ (lower j i c ≡ true))
    alike e (inl x) = inl x
    alike e (inr (inl x)) = inr (inl (lower_eq i j b e ∙ x))
    alike e (inr (inr x)) = inr (inr (lower_eq j i c (sym e) ∙ x))

    go : (i ≡ j) ⊎ ((i < j) ⊎ (j < i)) → R ⊎ ((lower i j b ≡ true) ⊎ (lower j i c ≡ true))
    go (inl e) = alike e (rest e)
    go (inr (inl l)) = inr (inl (lower_lt i j b l))
    go (inr (inr l)) = inr (inr (lower_lt j i c l))

-- ---- lists of steps

earlier_one_way : (ps qs : List (ℕ × ℕ)) → earlier ps qs ≡ true → earlier qs ps ≡ true → ⊥
earlier_one_way [] qs p q = clash p
earlier_one_way (x ∷ ps) [] p q = clash p
earlier_one_way (x ∷ ps) (y ∷ qs) p q =
    lower_one_way x.0 y.0 (lower x.1 y.1 (earlier ps qs)) (lower y.1 x.1 (earlier qs ps))
    (lower_one_way x.1 y.1 (earlier ps qs) (earlier qs ps) (earlier_one_way ps qs)) p q

earlier_transitive : (ps qs rs : List (ℕ × ℕ)) → earlier ps qs ≡ true → earlier qs rs ≡ true → earlier ps rs ≡ true
earlier_transitive [] qs rs p q = absurd (clash p)
earlier_transitive (x ∷ ps) [] rs p q = absurd (clash p)
earlier_transitive (x ∷ ps) (y ∷ qs) [] p q = absurd (clash q)
earlier_transitive (x ∷ ps) (y ∷ qs) (z ∷ rs) p q =
    lower_transitive x.0 y.0 z.0 (lower x.1 y.1 (earlier ps qs)) (lower y.1 z.1 (earlier qs rs)) (lower x.1 z.1 (earlier ps rs))
    (lower_transitive x.1 y.1 z.1 (earlier ps qs) (earlier qs rs) (earlier ps rs) (earlier_transitive ps qs rs)) p q

earlier_total : (ps qs : List (ℕ × ℕ)) → length ps ≡ length qs → (ps ≡ qs) ⊎ ((earlier ps qs ≡ true) ⊎ (earlier qs ps ≡ true))
earlier_total [] [] h = inl refl
earlier_total [] (y ∷ qs) h = absurd (omega arith)
earlier_total (x ∷ ps) [] h = absurd (omega arith)
earlier_total (x ∷ ps) (y ∷ qs) h =
    lower_total x.0 y.0 (lower x.1 y.1 (earlier ps qs)) (lower y.1 x.1 (earlier qs ps)) (λ e.
    lower_total x.1 y.1 (earlier ps qs) (earlier qs ps) (λ f. joined e f (earlier_total ps qs (omega arith))))
  where
    joined : x.0 ≡ y.0 → x.1 ≡ y.1 → (ps ≡ qs) ⊎ ((earlier ps qs ≡ true) ⊎ (earlier qs ps ≡ true)) → (x ∷ ps ≡ y ∷ qs) ⊎ ((earlier ps qs ≡ true) ⊎ (earlier qs ps ≡ true))
    joined e f (inl r) = inl (λ i. (e i, f i) ∷ r i)
    joined e f (inr r) = inr r

-- ---- a path is told by its steps and its last state

module _ (d : Diagram) where
  -- what holds of a path where each letter has a branch
  pub steps_letters : (s : ℕ) (w : List ℕ) → is_some (reached d s w) ≡ true → map (λ t. t.1) (steps_from d s w) ≡ w
  steps_letters s [] h = refl
  steps_letters s (a ∷ w) h =
      (elim (d.branch s a) as (λ b. is_some (along b None (λ t l. reached d t w)) ≡ true → map (λ t. t.1) (along b [] (λ t l. (s, a) ∷ steps_from d t w)) ≡ a ∷ w) [
        | None ↦ λ k. absurd (clash k)
        | Some b ↦ λ k. ap (λ v. a ∷ v) (steps_letters b.0 w k)
      ]) h

  pub steps_length : (s : ℕ) (w : List ℕ) → is_some (reached d s w) ≡ true → length (steps_from d s w) ≡ length w
  steps_length s [] h = refl
  steps_length s (a ∷ w) h =
      (elim (d.branch s a) as (λ b. is_some (along b None (λ t l. reached d t w)) ≡ true → length (along b [] (λ t l. (s, a) ∷ steps_from d t w)) ≡ suc (length w)) [
        | None ↦ λ k. absurd (clash k)
        | Some b ↦ λ k. ap suc (steps_length b.0 w k)
      ]) h

  -- the state before the first step, or the last state where there is no step
  first_of_steps : List (ℕ × ℕ) → ℕ → ℕ
  first_of_steps [] t = t
  first_of_steps (x ∷ xs) t = x.0

  steps_first : (s : ℕ) (w : List ℕ) → is_some (reached d s w) ≡ true → first_of_steps (steps_from d s w) (unwrap_or (reached d s w) 0) ≡ s
  unfolding first_of_steps
  steps_first s [] h = refl
  steps_first s (a ∷ w) h =
      (elim (d.branch s a) as (λ b. is_some (along b None (λ t l. reached d t w)) ≡ true → first_of_steps (along b [] (λ t l. (s, a) ∷ steps_from d t w)) (unwrap_or (along b None (λ t l. reached d t w)) 0) ≡ s) [
        | None ↦ λ k. absurd (clash k)
        | Some b ↦ λ k. refl
      ]) h

  same_from_steps : (n : ℕ) (p q : Path) → PathOn d n p → PathOn d n q → unwrap_or (last_state d p) 0 ≡ unwrap_or (last_state d q) 0 → steps_back d p ≡ steps_back d q → p ≡ q
  same_from_steps n p q h k e f = λ i. record { first = firsts i; letters = words i }
    where
      forth : steps_from d p.first p.letters ≡ steps_from d q.first q.letters
      forth = sym (reverse-reverse (steps_from d p.first p.letters)) ∙ ap reverse f ∙ reverse-reverse (steps_from d q.first q.letters)

      firsts : p.first ≡ q.first
      firsts = sym (steps_first p.first p.letters h.branches) ∙ ap (λ xs. first_of_steps xs (unwrap_or (last_state d p) 0)) forth ∙ ap (first_of_steps (steps_from d q.first q.letters)) e ∙ steps_first q.first q.letters k.branches

      words : p.letters ≡ q.letters
      words = sym (steps_letters p.first p.letters h.branches) ∙ ap (map (λ t. t.1)) forth ∙ steps_letters q.first q.letters k.branches

  back_length : (n : ℕ) (p : Path) → PathOn d n p → length (steps_back d p) ≡ n
  back_length n p h = length-reverse (steps_from d p.first p.letters) ∙ steps_length p.first p.letters h.branches ∙ h.steps

pub total_order : TotalOrder
total_order d n p q h k =
    lower_total (unwrap_or (last_state d p) 0) (unwrap_or (last_state d q) 0) (earlier (steps_back d p) (steps_back d q)) (earlier (steps_back d q) (steps_back d p))
    (λ e. told e (earlier_total (steps_back d p) (steps_back d q) (back_length d n p h ∙ sym (back_length d n q k))))
  where
    told : unwrap_or (last_state d p) 0 ≡ unwrap_or (last_state d q) 0 → (steps_back d p ≡ steps_back d q) ⊎ ((earlier (steps_back d p) (steps_back d q) ≡ true) ⊎ (earlier (steps_back d q) (steps_back d p) ≡ true)) → (p ≡ q) ⊎ ((earlier (steps_back d p) (steps_back d q) ≡ true) ⊎ (earlier (steps_back d q) (steps_back d p) ≡ true))
    told e (inl f) = inl (same_from_steps d n p q h k e f)
    told e (inr f) = inr f

pub one_way : OneWay
one_way d p q = lower_one_way (unwrap_or (last_state d p) 0) (unwrap_or (last_state d q) 0) _ _ (earlier_one_way (steps_back d p) (steps_back d q))

pub transitive : Transitive
transitive d p q r = lower_transitive (unwrap_or (last_state d p) 0) (unwrap_or (last_state d q) 0) (unwrap_or (last_state d r) 0) _ _ _ (earlier_transitive (steps_back d p) (steps_back d q) (steps_back d r))
