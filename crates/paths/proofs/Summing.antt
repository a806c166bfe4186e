-- The forward recursion sums over all paths.
use Rattle.std.proofs.Common.{◌≡◌, ℕ, suc, ◌<◌, Bool, true, false, cond, ◌&&◌, eqb, List, [], ◌∷◌, ◌++◌, map, length, ℤ, is_some, Some, None, Option, sym, refl, ap, ◌∙◌}
use Rattle.model.specs.Trellises.{Branch, Diagram, StaysIn, Lawful}
use Rattle.algebras.specs.Semirings.{Semiring, Laws}
use Rattle.paths.specs.Paths.{Path, along, reached, labels, last_state, permits, permits_last, admissible, costs_against, product, path_weight}
use Rattle.paths.specs.Listings.{below, words, candidates, all_paths}
use Rattle.paths.specs.Sums.{total, path_sum}
use Rattle.paths.specs.Recursion.{brings_into, from_state, stepped, after, opened}
use Rattle.paths.proofs.Totals.{plus_zero, total_zero, total_swap, total_joined, total_map, total_ext, total_kept, total_pick, total_through}

module _ {W : Type 0} (d : Diagram) (cost : ℤ → ℤ → ℕ) (r : Semiring W) (laws : Laws r) where
  product_zero : (cs : List ℕ) → product r r.zero cs ≡ r.zero
  product_zero [] = refl
  product_zero (c ∷ cs) = ap (λ v. product r v cs) (laws.zero_times (r.weight c)) ∙ product_zero cs

  product_plus : (u v : W) (cs : List ℕ) → product r (r.plus u v) cs ≡ r.plus (product r u cs) (product r v cs)
  product_plus u v [] = refl
  product_plus u v (c ∷ cs) = ap (λ w. product r w cs) (laws.plus_times u v (r.weight c)) ∙ product_plus (r.times u (r.weight c)) (r.times v (r.weight c)) cs

  -- what a path from s brings of a weight v, if the end permits its last state
  abbrev brings : Option ℕ → List ℤ → ℕ → List ℕ → W → W
  brings end xs s w v = cond (permits_last end (reached d s w)) (product r v (costs_against cost (labels d s w) xs)) r.zero

  brings_zero : (end : Option ℕ) (xs : List ℤ) (s : ℕ) (w : List ℕ) → brings end xs s w r.zero ≡ r.zero
  brings_zero end xs s w =
      elim (permits_last end (reached d s w)) as (λ b. cond b (product r r.zero (costs_against cost (labels d s w) xs)) r.zero ≡ r.zero) [
        | true ↦ product_zero (costs_against cost (labels d s w) xs)
        | false ↦ refl
      ]

  brings_plus : (end : Option ℕ) (xs : List ℤ) (s : ℕ) (w : List ℕ) (u v : W) → brings end xs s w (r.plus u v) ≡ r.plus (brings end xs s w u) (brings end xs s w v)
  brings_plus end xs s w u v =
      let p : W → W = λ y. product r y (costs_against cost (labels d s w) xs) in
      elim (permits_last end (reached d s w)) as (λ b. cond b (p (r.plus u v)) r.zero ≡ r.plus (cond b (p u) r.zero) (cond b (p v) r.zero)) [
        | true ↦ product_plus u v (costs_against cost (labels d s w) xs)
        | false ↦ sym (laws.zero_plus r.zero)
      ]

  -- one branch, and then every list of m letters
  module _ (end : Option ℕ) (x : ℤ) (xs : List ℤ) (m : ℕ) where
    abbrev rest : List (List ℕ)
    rest = words d.letters m

    brings_cond : (c : Bool) (s : ℕ) (v : W) → total r (λ w. brings end xs s w (cond c v r.zero)) rest ≡ cond c (total r (λ w. brings end xs s w v) rest) r.zero
    brings_cond true s v = refl
    brings_cond false s v = total_ext r laws (λ w. brings end xs s w r.zero) (λ w. r.zero) rest (λ w. brings_zero end xs s w) ∙ total_zero r laws rest

    through_branch : (b : Branch) (v : W) → StaysIn d.states b →
        total r (λ t. total r (λ w. brings end xs t w (brings_into cost r x t b v)) rest) (below d.states)
        ≡ total r (λ w. cond (permits_last end (along b None (λ t l. reached d t w))) (product r v (costs_against cost (along b [] (λ t l. l ∷ labels d t w)) (x ∷ xs))) r.zero) rest
    through_branch None v h =
        total_ext r laws (λ t. total r (λ w. brings end xs t w r.zero) rest) (λ t. r.zero) (below d.states) (λ t. brings_cond false t v)
        ∙ total_zero r laws (below d.states)
        ∙ sym (total_zero r laws rest)
    through_branch (Some b) v h =
        let u = r.times v (r.weight (cost b.1 x)) in
        total_ext r laws (λ t. total r (λ w. brings end xs t w (cond (eqb t b.0) u r.zero)) rest) (λ t. cond (eqb t b.0) (total r (λ w. brings end xs t w u) rest) r.zero) (below d.states) (λ t. brings_cond (eqb t b.0) t u)
        ∙ total_pick r laws (λ t. total r (λ w. brings end xs t w u) rest) d.states b.0 h.0

  module _ (lawful : Lawful d) where
    abbrev all : List ℕ
    all = below d.states

    abbrev some : List ℕ
    some = below d.letters

    -- one step ahead of a sum over paths
    ahead : (end : Option ℕ) (x : ℤ) (xs : List ℤ) (m : ℕ) (row : ℕ → W) →
        total r (λ t. total r (λ w. brings end xs t w (stepped d cost r x row t)) (words d.letters m)) all
        ≡ total r (λ s. total r (λ w. brings end (x ∷ xs) s w (row s)) (words d.letters (suc m))) all
    unfolding stepped from_state
    ahead end x xs m row =
        total_ext r laws (λ t. total r (λ w. brings end xs t w (stepped d cost r x row t)) ws) (λ t. total r (λ w. total r (λ s. total r (λ a. F t w s a) some) all) ws) all
        (λ t. total_ext r laws (λ w. brings end xs t w (stepped d cost r x row t)) (λ w. total r (λ s. total r (λ a. F t w s a) some) all) ws (λ w. apart t w))
        ∙ total_ext r laws (λ t. total r (λ w. total r (λ s. total r (λ a. F t w s a) some) all) ws) (λ t. total r (λ s. total r (λ w. total r (λ a. F t w s a) some) ws) all) all
        (λ t. total_swap r laws (λ w s. total r (λ a. F t w s a) some) ws all)
        ∙ total_swap r laws (λ t s. total r (λ w. total r (λ a. F t w s a) some) ws) all all
        ∙ total_ext r laws (λ s. total r (λ t. total r (λ w. total r (λ a. F t w s a) some) ws) all) (λ s. total r (λ w. brings end (x ∷ xs) s w (row s)) (words d.letters (suc m))) all (λ s. one_state s)
      where
        ws : List (List ℕ)
        ws = words d.letters m

        F : ℕ → List ℕ → ℕ → ℕ → W
        F t w s a = brings end xs t w (brings_into cost r x t (d.branch s a) (row s))

        apart : (t : ℕ) (w : List ℕ) → brings end xs t w (stepped d cost r x row t) ≡ total r (λ s. total r (λ a. F t w s a) some) all
        apart t w =
            total_through r laws (brings end xs t w) (brings_zero end xs t w) (brings_plus end xs t w) (λ s. from_state d cost r x s (row s) t) all
            ∙ total_ext r laws (λ s. brings end xs t w (from_state d cost r x s (row s) t)) (λ s. total r (λ a. F t w s a) some) all
            (λ s. total_through r laws (brings end xs t w) (brings_zero end xs t w) (brings_plus end xs t w) (λ a. brings_into cost r x t (d.branch s a) (row s)) some)

        one_state : (s : ℕ) → total r (λ t. total r (λ w. total r (λ a. F t w s a) some) ws) all ≡ total r (λ w. brings end (x ∷ xs) s w (row s)) (words d.letters (suc m))
        one_state s =
            total_ext r laws (λ t. total r (λ w. total r (λ a. F t w s a) some) ws) (λ t. total r (λ a. total r (λ w. F t w s a) ws) some) all (λ t. total_swap r laws (λ w a. F t w s a) ws some)
            ∙ total_swap r laws (λ t a. total r (λ w. F t w s a) ws) all some
            ∙ total_ext r laws (λ a. total r (λ t. total r (λ w. F t w s a) ws) all) (λ a. total r (λ w. brings end (x ∷ xs) s w (row s)) (map (λ w. a ∷ w) ws)) some
            (λ a. through_branch end x xs m (d.branch s a) (row s) (lawful.stays s a) ∙ sym (total_map r laws (λ w. brings end (x ∷ xs) s w (row s)) (λ w. a ∷ w) ws))
            ∙ sym (total_joined r laws (λ w. brings end (x ∷ xs) s w (row s)) (λ a. map (λ w. a ∷ w) ws) some)

    -- the recursion from any row, summed over the permitted last states, is the sum over all paths that end there
    sums : (end : Option ℕ) (xs : List ℤ) (row : ℕ → W) →
        total r (λ s. cond (permits end s) (after d cost r row xs s) r.zero) all
        ≡ total r (λ s. total r (λ w. brings end xs s w (row s)) (words d.letters (length xs))) all
    sums end [] row = total_ext r laws (λ s. cond (permits end s) (row s) r.zero) (λ s. r.plus (cond (permits end s) (row s) r.zero) r.zero) all (λ s. sym (plus_zero r laws (cond (permits end s) (row s) r.zero)))
    sums end (x ∷ xs) row = sums end xs (stepped d cost r x row) ∙ ahead end x xs (length xs) row

    -- a path is kept where it may start, has branches, and may end
    kept : (xs : List ℤ) (start end : Option ℕ) (s : ℕ) (w : List ℕ) →
        cond (is_some (reached d s w)) (cond (permits start s && permits_last end (reached d s w)) (product r r.one (costs_against cost (labels d s w) xs)) r.zero) r.zero
        ≡ brings end xs s w (opened r start s)
    kept xs start end s w =
        let one : W = product r r.one (costs_against cost (labels d s w) xs) in
        drop_test (reached d s w) one
        ∙ elim (permits start s) as (λ b. cond (b && permits_last end (reached d s w)) one r.zero ≡ brings end xs s w (cond b r.one r.zero)) [
          | true ↦ refl
          | false ↦ sym (brings_zero end xs s w)
        ]
      where
        -- without branches there is no last state to permit
        drop_test : (o : Option ℕ) (v : W) → cond (is_some o) (cond (permits start s && permits_last end o) v r.zero) r.zero ≡ cond (permits start s && permits_last end o) v r.zero
        drop_test None v = elim (permits start s) as (λ b. r.zero ≡ cond (b && false) v r.zero) [ true ↦ refl | false ↦ refl ]
        drop_test (Some t) v = refl

    pub answer : (start end : Option ℕ) (xs : List ℤ) → path_sum d cost r start end xs ≡ total r (λ s. cond (permits end s) (after d cost r (opened r start) xs s) r.zero) all
    unfolding path_sum
    answer start end xs =
        total_kept r laws (admissible d start end) f (all_paths d (length xs))
        ∙ total_kept r laws (λ p. is_some (last_state d p)) g (candidates d (length xs))
        ∙ total_joined r laws h (λ s. map (path s) ws) all
        ∙ total_ext r laws (λ s. total r h (map (path s) ws)) (λ s. total r (λ w. brings end xs s w (opened r start s)) ws) all
        (λ s. total_map r laws h (path s) ws ∙ total_ext r laws (λ w. h (path s w)) (λ w. brings end xs s w (opened r start s)) ws (λ w. kept xs start end s w))
        ∙ sym (sums end xs (opened r start))
      where
        ws : List (List ℕ)
        ws = words d.letters (length xs)

        path : ℕ → List ℕ → Path
        path s w = record { first = s; letters = w }

        f : Path → W
        f p = path_weight d cost r xs p

        g : Path → W
        g p = cond (admissible d start end p) (f p) r.zero

        h : Path → W
        h p = cond (is_some (last_state d p)) (g p) r.zero

    pub entry : (start : Option ℕ) (t : ℕ) (xs : List ℤ) → t < d.states → path_sum d cost r start (Some t) xs ≡ after d cost r (opened r start) xs t
    entry start t xs h = answer start (Some t) xs ∙ total_pick r laws (after d cost r (opened r start) xs) d.states t h

  pub after_push : (row : ℕ → W) (xs : List ℤ) (x : ℤ) → after d cost r row (xs ++ x ∷ []) ≡ stepped d cost r x (after d cost r row xs)
  after_push row [] x = refl
  after_push row (y ∷ xs) x = after_push (stepped d cost r y row) xs x
