-- Rows from sample to sample.
use Rattle.std.proofs.Common.{◌≡◌, ℕ, ◌+◌, ◌-◌, ◌<◌, ◌≤◌, cond, List, [], ◌∷◌, ◌++◌, length, get_or, take, drop, ℤ, pos, Some, Option, sym, refl, ap, ◌∙◌, subst, arith, take-append-drop, take_all}
use Rattle.std.specs.Borrow.{MutBor}
use Rattle.std.proofs.lemmas.List.{get_or_default, take_more}
use Rattle.model.specs.Trellises.{Diagram, Lawful}
use Rattle.algebras.specs.Semirings.{Semiring, Laws}
use Rattle.paths.specs.declared.branch.ListedBranch.{ListedBranch}
use Rattle.paths.specs.Paths.{permits}
use Rattle.paths.specs.Listings.{below}
use Rattle.paths.specs.Sums.{total, path_sum}
use Rattle.paths.specs.Rows.{Entries, Copied, SameSlice}
use Rattle.paths.specs.Branches.{branches_of}
use Rattle.paths.specs.Recursion.{from_state, stepped, after, Advanced, opened}
use Rattle.paths.specs.FlatRecursion.{with_branches}
use Rattle.paths.proofs.Totals.{total_below}
use Rattle.paths.proofs.Branching.{all_within, all_bring}
use Rattle.paths.proofs.Rowing.{extended_clear}
use Rattle.paths.proofs.Summing.{answer, entry, after_push}

-- a row on its way: after the samples ys that are left it is what the row us is after all of xs
pub record Underway {W : Type 0} (d : Diagram) (cost : ℤ → ℤ → ℕ) (r : Semiring W) (xs ys : List ℤ) (us ws : List W) : Type 0 where
  pub entry : (k : ℕ) → k < d.states → after d cost r (λ s. get_or ws s r.zero) ys k ≡ after d cost r (λ s. get_or us s r.zero) xs k
  pub rest : drop d.states ws ≡ drop d.states us

module _ {W : Type 0} (r : Semiring W) (laws : Laws r) (cost : ℤ → ℤ → ℕ) (d : Diagram) (lawful : Lawful d) where
  -- a step reads no more than the states' entries
  pub stepped_same : (x : ℤ) (f g : ℕ → W) → ((s : ℕ) → s < d.states → f s ≡ g s) → (t : ℕ) → stepped d cost r x f t ≡ stepped d cost r x g t
  unfolding stepped
  stepped_same x f g h t = total_below r laws (λ s. from_state d cost r x s (f s) t) (λ s. from_state d cost r x s (g s) t) d.states (λ s l. ap (λ v. from_state d cost r x s v t) (h s l))

  pub after_same : (xs : List ℤ) (f g : ℕ → W) → ((s : ℕ) → s < d.states → f s ≡ g s) → (t : ℕ) → t < d.states → after d cost r f xs t ≡ after d cost r g xs t
  after_same [] f g h t l = h t l
  after_same (x ∷ xs) f g h t l = after_same xs (stepped d cost r x f) (stepped d cost r x g) (λ s k. stepped_same x f g h s) t l

  -- a row that was cleared, and then extended by all branches
  pub step_row : (x : ℤ) (us vs₀ vs₁ vs₂ : List W) (bs : List ListedBranch) → bs ≡ branches_of d → d.states ≤ length vs₁ → Entries d.states (λ k. r.zero) vs₀ vs₁ →
      vs₂ ≡ with_branches cost r x (λ s. get_or us s r.zero) vs₁ bs → Entries d.states (stepped d cost r x (λ s. get_or us s r.zero)) vs₀ vs₂
  step_row x us vs₀ vs₁ vs₂ bs e h p q =
      let w = extended_clear r laws cost x (λ s. get_or us s r.zero) d.states (branches_of d) vs₀ vs₁ vs₂ (all_within d lawful) h p (q ∙ ap (with_branches cost r x (λ s. get_or us s r.zero) vs₁) e) in
      record { entry = λ k c l. w.entry k c l ∙ all_bring r laws cost d x (λ s. get_or us s r.zero) k; rest = w.rest }

  -- two samples, by way of another row
  pub run_two : (x y : ℤ) (u v w v₀ : List W) → Entries d.states (stepped d cost r x (λ s. get_or u s r.zero)) v₀ v → Entries d.states (stepped d cost r y (λ s. get_or v s r.zero)) u w →
      Advanced d cost r (x ∷ y ∷ []) u w
  run_two x y u v w v₀ p q = record {
    entry = λ k c l. q.entry k c l ∙ stepped_same y (λ s. get_or v s r.zero) (stepped d cost r x (λ s. get_or u s r.zero)) (λ s m. p.entry s r.zero m) k;
    rest = q.rest;
  }

  -- from two samples to what is left
  pub run_more : (xs ys : List ℤ) (u v w : List W) → 2 ≤ length ys → Underway d cost r xs ys u v → Advanced d cost r (get_or ys 0 (pos 0) ∷ get_or ys 1 (pos 0) ∷ []) v w →
      Underway d cost r xs (take (length ys - 2) (drop 2 ys)) u w
  run_more xs [] u v w h p q = absurd (omega arith)
  run_more xs (x ∷ []) u v w h p q = absurd (omega arith)
  run_more xs (x ∷ y ∷ ys) u v w h p q = record {
    entry = λ k l.
        after_same (take (length (x ∷ y ∷ ys) - 2) ys) (λ s. get_or w s r.zero) (after d cost r (λ s. get_or v s r.zero) (x ∷ y ∷ [])) (λ s m. q.entry s r.zero m) k l
        ∙ ap (λ zs. after d cost r (λ s. get_or v s r.zero) (x ∷ y ∷ zs) k) (take_all (length (x ∷ y ∷ ys) - 2) ys (omega arith))
        ∙ p.entry k l;
    rest = q.rest ∙ p.rest;
  }

  -- at the end
  pub run_all : (xs ys : List ℤ) (u v : List W) → length ys ≡ 0 → d.states ≤ length v → Underway d cost r xs ys u v → Advanced d cost r xs u v
  run_all xs [] u v e h p = record { entry = λ k c l. get_or_default v k c r.zero (omega arith) ∙ p.entry k l; rest = p.rest }
  run_all xs (y ∷ ys) u v e h p = absurd (omega arith)

  -- with one sample left, by way of another row, from which it is copied
  pub run_last : (xs ys : List ℤ) (u v w z z₀ : List W) → length ys ≡ 1 → Underway d cost r xs ys u v →
      Entries d.states (stepped d cost r (get_or ys 0 (pos 0)) (λ s. get_or v s r.zero)) z₀ z → Copied d.states z v w → Advanced d cost r xs u w
  run_last xs [] u v w z z₀ e p q c = absurd (omega arith)
  run_last xs (y ∷ []) u v w z z₀ e p q c = record { entry = λ k b l. c.entry k b l ∙ q.entry k b l ∙ p.entry k l; rest = c.rest ∙ p.rest }
  run_last xs (y ∷ x ∷ ys) u v w z z₀ e p q c = absurd (omega arith)

  module _ (start : Option ℕ) (xs : List ℤ) (u u₁ u₂ : List W) (p : Entries d.states (opened r start) u u₁) (q : Entries d.states (after d cost r (λ s. get_or u₁ s r.zero) xs) u₁ u₂) where
    arrives : (k : ℕ) (e : W) → k < d.states → get_or u₂ k e ≡ after d cost r (opened r start) xs k
    arrives k e l = q.entry k e l ∙ after_same xs (λ s. get_or u₁ s r.zero) (opened r start) (λ s m. p.entry s r.zero m) k l

    pub left_first : Entries d.states (λ s. path_sum d cost r start (Some s) xs) u u₂
    left_first = record {
      entry = λ k e l. arrives k e l ∙ sym (entry d cost r laws lawful start k xs l);
      rest = q.rest ∙ p.rest;
    }

    pub answered : (end : Option ℕ) → total r (λ s. cond (permits end s) (get_or u₂ s r.zero) r.zero) (below d.states) ≡ path_sum d cost r start end xs
    answered end =
        total_below r laws (λ s. cond (permits end s) (get_or u₂ s r.zero) r.zero) (λ s. cond (permits end s) (after d cost r (opened r start) xs s) r.zero) d.states
        (λ s l. ap (λ y. cond (permits end s) y r.zero) (arrives s r.zero l))
        ∙ sym (answer d cost r laws lawful start end xs)

  -- two samples more, of any row before the first
  pub run_more_two : (row : ℕ → W) (xs : List ℤ) (i : ℕ) (x y : ℤ) (u v w : List W) → i + 1 < length xs → x ≡ get_or xs i x → y ≡ get_or xs (i + 1) y →
      Entries d.states (after d cost r row (take i xs)) u v →
      Entries d.states (after d cost r (λ s. get_or v s r.zero) (x ∷ y ∷ [])) v w →
      Entries d.states (after d cost r row (take (i + 2) xs)) u w
  run_more_two row xs i x y u v w h e f p q = record {
    entry = λ k c l.
        q.entry k c l
        ∙ after_same (x ∷ y ∷ []) (λ s. get_or v s r.zero) (after d cost r row (take i xs)) (λ s m. p.entry s r.zero m) k l
        ∙ sym (ap (λ g. g k) (
        ap (after d cost r row) (ap (λ j. take j xs) (let z : i + 2 ≡ i + 1 + 1 = omega arith in z) ∙ take_more xs (i + 1) y h ∙ ap (λ z. take (i + 1) xs ++ (z ∷ [])) (sym f))
        ∙ after_push d cost r laws row (take (i + 1) xs) y
        ∙ ap (stepped d cost r y) (ap (after d cost r row) (take_more xs i x (omega arith) ∙ ap (λ z. take i xs ++ (z ∷ [])) (sym e)) ∙ after_push d cost r laws row (take i xs) x)));
    rest = q.rest ∙ p.rest;
  }

  after_append : (row : ℕ → W) (xs ys : List ℤ) → after d cost r row (xs ++ ys) ≡ after d cost r (after d cost r row xs) ys
  after_append row [] ys = refl
  after_append row (x ∷ xs) ys = after_append (stepped d cost r x row) xs ys

  -- the samples up to i, and then the others
  pub run_rest : (row : ℕ → W) (xs : List ℤ) (i : ℕ) (u v w : List W) →
      Entries d.states (after d cost r row (take i xs)) u v →
      Entries d.states (after d cost r (λ s. get_or v s r.zero) (drop i xs)) v w →
      Entries d.states (after d cost r row xs) u w
  run_rest row xs i u v w p q = record {
    entry = λ k c l.
        q.entry k c l
        ∙ after_same (drop i xs) (λ s. get_or v s r.zero) (after d cost r row (take i xs)) (λ s m. p.entry s r.zero m) k l
        ∙ ap (λ g. g k) (sym (after_append row (take i xs) (drop i xs)) ∙ ap (after d cost r row) (take-append-drop i xs));
    rest = q.rest ∙ p.rest;
  }

  -- a row of zeros counts as cleared
  pub zero_none : (v : List W) → d.states ≤ length v → ((k : ℕ) → k < d.states → get_or v k r.zero ≡ r.zero) → Entries d.states (λ k. r.zero) v v
  zero_none v h clear = record { entry = λ k e l. get_or_default v k e r.zero (omega arith) ∙ clear k l; rest = refl }

-- entries that are written over
pub over : {W : Type 0} (n : ℕ) (f g : ℕ → W) (u v w : List W) → Entries n f u v → Entries n g v w → Entries n g u w
over n f g u v w p q = record { entry = q.entry; rest = q.rest ∙ p.rest }

pub still_same : {W : Type 0} {u v w : MutBor (List W)} → SameSlice u v → SameSlice v w → SameSlice u w
still_same p q = record { name = q.name ∙ p.name; len = q.len ∙ p.len }

pub cleared : {W : Type 0} (m n : ℕ) (y z : W) (u v : List W) → m ≡ n → y ≡ z → Entries m (λ k. y) u v → Entries n (λ k. z) u v
cleared m n y z u v e a p = subst (λ j. Entries j (λ k. z) u v) e (subst (λ w. Entries m (λ k. w) u v) a p)
