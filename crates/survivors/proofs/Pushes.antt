-- A path, and one letter more at its end.
use Rattle.std.proofs.Common.{◌≡◌, ℕ, suc, ◌+◌, ◌<◌, true, List, [], ◌∷◌, ◌++◌, reverse, length, ℤ, is_some, Some, None, sum, Option, sym, refl, ap, ◌∙◌, subst, arith, eq-eqb, eqb-true}
use mathlib.Core.List.{reverse-append}
use borrow.Author.Tests.{clash}
use Rattle.std.proofs.lemmas.Bool.{and_parts, and_from}
use Rattle.std.proofs.lemmas.List.Sums.{sum_by_push}
use Rattle.model.specs.Trellises.{Diagram, Lawful, StaysIn}
use Rattle.paths.specs.Paths.{Path, Admissible, along, reached, labels, last_state, permits, permits_last, costs_against, path_cost}
use Rattle.paths.specs.Orders.{steps_from, steps_back}
use Rattle.paths.proofs.Listing.{never}
use Rattle.survivors.specs.Laws.{push}

pub same_some : {X : Type 0} {o : Option X} {c d : X} → o ≡ Some c → o ≡ Some d → c ≡ d
same_some p q = cc

pub length_push : {X : Type 0} (v : List X) (y : X) → length (v ++ (y ∷ [])) ≡ suc (length v)
length_push [] y = refl
length_push (z ∷ v) y = ap suc (length_push v y)

-- a list that is not empty, as all but its last and that
pub unpushed : {X : Type 0} (n : ℕ) (v : List X) → length v ≡ suc n → (w : List X) × (y : X) × (v ≡ w ++ (y ∷ []))
unpushed n [] h = absurd (omega arith)
unpushed n (y ∷ []) h = ([], y, refl)
unpushed n (z ∷ y ∷ v) h = let r = unpushed (length v) (y ∷ v) refl in (z ∷ r.0, r.1, ap (λ u. z ∷ u) r.2)

module _ (d : Diagram) where
  pub reached_push : (w : List ℕ) (s t a : ℕ) (b : ℕ × ℤ) → reached d s w ≡ Some t → d.branch t a ≡ Some b → reached d s (w ++ (a ∷ [])) ≡ Some b.0
  reached_push [] s t a b h q = ap (λ e. along e None (λ u l. Some u)) (ap (λ z. d.branch z a) (same_some refl h) ∙ q)
  reached_push (x ∷ w) s t a b h q =
      (elim (d.branch s x) as (λ e. along e None (λ u l. reached d u w) ≡ Some t → along e None (λ u l. reached d u (w ++ (a ∷ []))) ≡ Some b.0) [
        | None ↦ λ p. absurd (never p refl)
        | Some c ↦ λ p. reached_push w c.0 t a b p q
      ]) h

  -- the last branch of a path that leads to u
  pub last_branch : (w : List ℕ) (s a u : ℕ) → reached d s (w ++ (a ∷ [])) ≡ Some u → (t : ℕ) × (b : ℕ × ℤ) × (reached d s w ≡ Some t) × (d.branch t a ≡ Some b) × (b.0 ≡ u)
  last_branch [] s a u h =
      (elim (d.branch s a) as (λ e. d.branch s a ≡ e → along e None (λ t l. Some t) ≡ Some u → (t : ℕ) × (b : ℕ × ℤ) × (Some s ≡ Some t) × (d.branch t a ≡ Some b) × (b.0 ≡ u)) [
        | None ↦ λ e p. absurd (never p refl)
        | Some c ↦ λ e p. (s, c, refl, e, same_some refl p)
      ]) refl h
  last_branch (x ∷ w) s a u h =
      (elim (d.branch s x) as (λ e. along e None (λ t l. reached d t (w ++ (a ∷ []))) ≡ Some u → (t : ℕ) × (b : ℕ × ℤ) × (along e None (λ t l. reached d t w) ≡ Some t) × (d.branch t a ≡ Some b) × (b.0 ≡ u)) [
        | None ↦ λ p. absurd (never p refl)
        | Some c ↦ λ p. last_branch w c.0 a u p
      ]) h

  labels_push : (w : List ℕ) (s t a : ℕ) (b : ℕ × ℤ) → reached d s w ≡ Some t → d.branch t a ≡ Some b → labels d s (w ++ (a ∷ [])) ≡ labels d s w ++ (b.1 ∷ [])
  labels_push [] s t a b h q = ap (λ e. along e [] (λ u l. l ∷ [])) (ap (λ z. d.branch z a) (same_some refl h) ∙ q)
  labels_push (x ∷ w) s t a b h q =
      (elim (d.branch s x) as (λ e. along e None (λ u l. reached d u w) ≡ Some t → along e [] (λ u l. l ∷ labels d u (w ++ (a ∷ []))) ≡ along e [] (λ u l. l ∷ labels d u w) ++ (b.1 ∷ [])) [
        | None ↦ λ p. absurd (never p refl)
        | Some c ↦ λ p. ap (λ ls. c.1 ∷ ls) (labels_push w c.0 t a b p q)
      ]) h

  labels_length : (w : List ℕ) (s t : ℕ) → reached d s w ≡ Some t → length (labels d s w) ≡ length w
  labels_length [] s t h = refl
  labels_length (x ∷ w) s t h =
      (elim (d.branch s x) as (λ e. along e None (λ u l. reached d u w) ≡ Some t → length (along e [] (λ u l. l ∷ labels d u w)) ≡ suc (length w)) [
        | None ↦ λ p. absurd (never p refl)
        | Some c ↦ λ p. ap suc (labels_length w c.0 t p)
      ]) h

  steps_push : (w : List ℕ) (s t a : ℕ) (b : ℕ × ℤ) → reached d s w ≡ Some t → d.branch t a ≡ Some b → steps_from d s (w ++ (a ∷ [])) ≡ steps_from d s w ++ ((t, a) ∷ [])
  steps_push [] s t a b h q =
      let z : s ≡ t = same_some refl h in
      ap (λ e. along e [] (λ u l. (s, a) ∷ [])) (ap (λ y. d.branch y a) z ∙ q) ∙ ap (λ y. (y, a) ∷ []) z
  steps_push (x ∷ w) s t a b h q =
      (elim (d.branch s x) as (λ e. along e None (λ u l. reached d u w) ≡ Some t → along e [] (λ u l. (s, x) ∷ steps_from d u (w ++ (a ∷ []))) ≡ along e [] (λ u l. (s, x) ∷ steps_from d u w) ++ ((t, a) ∷ [])) [
        | None ↦ λ p. absurd (never p refl)
        | Some c ↦ λ p. ap (λ ss. (s, x) ∷ ss) (steps_push w c.0 t a b p q)
      ]) h

  pub back_push : (p : Path) (t a : ℕ) (b : ℕ × ℤ) → last_state d p ≡ Some t → d.branch t a ≡ Some b → steps_back d (push p a) ≡ (t, a) ∷ steps_back d p
  back_push p t a b h q = ap reverse (steps_push p.letters p.first t a b h q) ∙ reverse-append (steps_from d p.first p.letters) ((t, a) ∷ [])

  against_push : (cost : ℤ → ℤ → ℕ) (ls xs : List ℤ) (l x : ℤ) → length ls ≡ length xs → costs_against cost (ls ++ (l ∷ [])) (xs ++ (x ∷ [])) ≡ costs_against cost ls xs ++ (cost l x ∷ [])
  against_push cost [] [] l x h = refl
  against_push cost [] (y ∷ xs) l x h = absurd (omega arith)
  against_push cost (m ∷ ls) [] l x h = absurd (omega arith)
  against_push cost (m ∷ ls) (y ∷ xs) l x h = ap (λ cs. cost m y ∷ cs) (against_push cost ls xs l x (omega arith))

  pub cost_push : (cost : ℤ → ℤ → ℕ) (xs : List ℤ) (x : ℤ) (p : Path) (t a : ℕ) (b : ℕ × ℤ) → length p.letters ≡ length xs → last_state d p ≡ Some t → d.branch t a ≡ Some b →
      path_cost d cost (xs ++ (x ∷ [])) (push p a) ≡ path_cost d cost xs p + cost b.1 x
  cost_push cost xs x p t a b len h q =
      ap (λ ls. sum (costs_against cost ls (xs ++ (x ∷ [])))) (labels_push p.letters p.first t a b h q)
      ∙ ap sum (against_push cost (labels d p.first p.letters) xs b.1 x (labels_length p.letters p.first t h ∙ len))
      ∙ sum_by_push (λ c. c) (costs_against cost (labels d p.first p.letters) xs) (cost b.1 x)

  -- ---- an admissible path to one state

  pub arrives : (start : Option ℕ) (n t : ℕ) (p : Path) → Admissible d start (Some t) n p → (permits start p.first ≡ true) × (last_state d p ≡ Some t)
  arrives start n t p h =
      let k = and_parts (permits start p.first) (permits_last (Some t) (last_state d p)) h.permitted in
      (k.0, go (last_state d p) k.1)
    where
      go : (o : Option ℕ) → permits_last (Some t) o ≡ true → o ≡ Some t
      go None e = absurd (clash e)
      go (Some u) e = ap Some (eqb-true u t e)

  pub admit : (start end : Option ℕ) (n t : ℕ) (p : Path) → p.first < d.states → length p.letters ≡ n → permits start p.first ≡ true → last_state d p ≡ Some t → permits end t ≡ true → Admissible d start end n p
  admit start end n t p l len s e q = record {
    path = record { state = l; steps = len; branches = ap is_some e };
    permitted = and_from (permits start p.first) (permits_last end (last_state d p)) s (ap (permits_last end) e ∙ q);
  }

  pub admit_to : (start : Option ℕ) (n t : ℕ) (p : Path) → p.first < d.states → length p.letters ≡ n → permits start p.first ≡ true → last_state d p ≡ Some t → Admissible d start (Some t) n p
  admit_to start n t p l len s e = admit start (Some t) n t p l len s e (eq-eqb t t refl)

  -- one step more
  pub admit_push : (start : Option ℕ) (n t a : ℕ) (b : ℕ × ℤ) (p : Path) → Admissible d start (Some t) n p → d.branch t a ≡ Some b → Admissible d start (Some b.0) (suc n) (push p a)
  admit_push start n t a b p h q =
      let k = arrives start n t p h in
      admit_to start (suc n) b.0 (push p a) h.path.state (length_push p.letters a ∙ ap suc h.path.steps) k.0 (reached_push p.letters p.first t a b k.1 q)

  -- one step less
  pub admit_last : (start : Option ℕ) (n u a : ℕ) (p : Path) → Admissible d start (Some u) (suc n) (push p a) → (t : ℕ) × (b : ℕ × ℤ) × Admissible d start (Some t) n p × (d.branch t a ≡ Some b) × (b.0 ≡ u)
  admit_last start n u a p h =
      let k = arrives start (suc n) u (push p a) h in
      let r = last_branch p.letters p.first a u k.1 in
      let e : suc (length p.letters) ≡ suc n = sym (length_push p.letters a) ∙ h.path.steps in
      (r.0, r.1, admit_to start n r.0 p h.path.state (omega arith) k.0 r.2, r.3, r.4)

  -- every path on one sample or more is such a one
  pub push_of : (n : ℕ) (p : Path) → length p.letters ≡ suc n → (q : Path) × (a : ℕ) × (p ≡ push q a)
  push_of n p h = let r = unpushed n p.letters h in (record { first = p.first; letters = r.0 }, r.1, λ i. record { first = p.first; letters = r.2 i })

  -- a path has a branch only where the trellis has
  pub branch_low : Lawful d → (t a : ℕ) (b : ℕ × ℤ) → d.branch t a ≡ Some b → b.0 < d.states
  branch_low lawful t a b e = (subst (StaysIn d.states) e (lawful.stays t a)).0
