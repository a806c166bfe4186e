-- The first of the cheapest paths, one step after another.
use Rattle.std.proofs.Common.{◌≡◌, ℕ, zero, suc, ◌+◌, ◌*◌, ◌/◌, ◌%◌, ◌<◌, ◌≤◌, true, ◌⊎◌, List, [], ◌∷◌, ◌++◌, length, get_or, take, ℤ, pos, Some, None, Option, unwrap_or, sym, refl, ap, ◌∙◌, subst, ap₂, inl, inr, add-one, arith}
use mathlib.Core.List.{append_cancel_right}
use borrow.Author.Tests.{clash}
use Rattle.std.proofs.lemmas.List.{take_more, get_or_default, same_lists, nil_from_length}
use Rattle.std.proofs.lemmas.Bool.{cases_Bool, cases_lt, cases_order, and_parts, both_ways}
use Rattle.model.specs.Trellises.{Diagram, Lawful}
use Rattle.paths.proofs.Ordering.{lower_lt, lower_eq}
use Rattle.paths.specs.Paths.{Path, Admissible, reached, last_state, permits, permits_last, path_cost}
use Rattle.paths.specs.Orders.{lower, earlier, steps_back, before}
use Rattle.paths.specs.Cheapest.{first_path, same_path}
use Rattle.paths.specs.Laws.{First, Ahead, IsFirst}
use Rattle.paths.proofs.Firsts.{first_found, one_first, same_path_says, same_path_self}
use Rattle.survivors.specs.Choices.{TableOf, Chosen, byte_at, last_byte, leading_byte}
use Rattle.survivors.specs.Laws.{push, Substructure, path_back, LeadsBack, OneTable, OverEnds}
use Rattle.paths.proofs.Listing.{never}
use Rattle.survivors.proofs.Pushes.{same_some, length_push, reached_push, back_push, cost_push, arrives, admit, admit_to, admit_push, admit_last, push_of, branch_low}

-- ---- one step more on both paths

same_push : (p q : Path) (a : ℕ) → push p a ≡ push q a → p ≡ q
same_push p q a e =
    let f : p.letters ≡ q.letters = append_cancel_right p.letters q.letters (a ∷ []) (ap (λ r. r.letters) e) in
    λ i. record { first = (ap (λ r. r.first) e) i; letters = f i }

less_both : (m n i j c : ℕ) → i ≡ m + c → j ≡ n + c → i < j → m < n
less_both m n i j c e f h = omega arith

same_both : (m n i j c : ℕ) → i ≡ m + c → j ≡ n + c → i ≡ j → m ≡ n
same_both m n i j c e f h = omega arith

module _ (d : Diagram) where
  -- between paths to one state the steps decide
  pub before_at : (p q : Path) (t : ℕ) → last_state d p ≡ Some t → last_state d q ≡ Some t → before d p q ≡ earlier (steps_back d p) (steps_back d q)
  before_at p q t e f = lower_eq (unwrap_or (last_state d p) 0) (unwrap_or (last_state d q) 0) (earlier (steps_back d p) (steps_back d q)) (ap (λ o. unwrap_or o 0) (e ∙ sym f))

  pub lower_first : (p q : Path) (t u : ℕ) → last_state d p ≡ Some t → last_state d q ≡ Some u → t < u → before d p q ≡ true
  lower_first p q t u e f l =
      let a : unwrap_or (last_state d p) 0 ≡ t = ap (λ o. unwrap_or o 0) e in
      let b : unwrap_or (last_state d q) 0 ≡ u = ap (λ o. unwrap_or o 0) f in
      lower_lt (unwrap_or (last_state d p) 0) (unwrap_or (last_state d q) 0) (earlier (steps_back d p) (steps_back d q)) (omega arith)

  before_push : (p q : Path) (t a : ℕ) (b : ℕ × ℤ) → last_state d p ≡ Some t → last_state d q ≡ Some t → d.branch t a ≡ Some b → before d (push p a) (push q a) ≡ before d p q
  before_push p q t a b e f br =
      before_at (push p a) (push q a) b.0 (reached_push d p.letters p.first t a b e br) (reached_push d q.letters q.first t a b f br)
      ∙ ap₂ earlier (back_push d p t a b e br) (back_push d q t a b f br)
      ∙ lower_eq t t (lower a a (earlier (steps_back d p) (steps_back d q))) refl
      ∙ lower_eq a a (earlier (steps_back d p) (steps_back d q)) refl
      ∙ sym (before_at p q t e f)

  -- a path has a branch only from a state, by a letter
  pub branch_from : Lawful d → (t a : ℕ) (b : ℕ × ℤ) → d.branch t a ≡ Some b → (t < d.states) × (a < 4)
  branch_from lawful t a b e = (low_state (cases_lt t d.states), low_letter (cases_lt a d.letters))
    where
      low_state : (t < d.states) ⊎ (d.states ≤ t) → t < d.states
      low_state (inl h) = h
      low_state (inr h) = absurd (never e (lawful.no_state t a h))

      low_letter : (a < d.letters) ⊎ (d.letters ≤ a) → a < 4
      low_letter (inl h) = omega (arith, lawful.few_letters)
      low_letter (inr h) = absurd (never e (lawful.no_letter t a h))

  module _ (cost : ℤ → ℤ → ℕ) (start : Option ℕ) where
    -- the last step of a path to t that is first on the samples xs and x
    pub record LastStep (xs : List ℤ) (x : ℤ) (t : ℕ) (p : Path) : Type 0 where
      pub rest : Path
      pub letter : ℕ
      pub from : ℕ
      pub branch : ℕ × ℤ
      pub is : p ≡ push rest letter
      pub first : First d cost start (Some from) xs rest
      pub arrives : last_state d rest ≡ Some from
      pub has : d.branch from letter ≡ Some branch
      pub leads : branch.0 ≡ t
      pub costs : path_cost d cost (xs ++ x ∷ []) p ≡ path_cost d cost xs rest + cost branch.1 x
      pub steps : steps_back d p ≡ (from, letter) ∷ steps_back d rest

    pub unstep : (xs : List ℤ) (x : ℤ) (t a : ℕ) (p : Path) → First d cost start (Some t) (xs ++ x ∷ []) (push p a) → LastStep xs x t (push p a)
    unstep xs x t a p f =
        record {
          rest = p;
          letter = a;
          from = r.0;
          branch = r.1;
          is = refl;
          first = record { path = r.2; ahead = λ q h ne. ahead q h ne (arrives d start (length xs) r.0 q h).1 };
          arrives = k;
          has = r.3;
          leads = r.4;
          costs = cost_push d cost xs x p r.0 a r.1 r.2.path.steps k r.3;
          steps = back_push d p r.0 a r.1 k r.3;
        }
      where
        r : (s : ℕ) × (b : ℕ × ℤ) × Admissible d start (Some s) (length xs) p × (d.branch s a ≡ Some b) × (b.0 ≡ t)
        r = admit_last d start (length xs) t a p (subst (λ n. Admissible d start (Some t) n (push p a)) (length_push xs x) f.path)

        k : last_state d p ≡ Some r.0
        k = (arrives d start (length xs) r.0 p r.2).1

        ahead : (q : Path) → Admissible d start (Some r.0) (length xs) q → (p ≡ q → ⊥) → last_state d q ≡ Some r.0 → Ahead d cost xs p q
        ahead q h ne m =
            elim (f.ahead (push q a) pushed (λ e. ne (same_push p q a e))) [
              | inl l ↦ inl (less_both (path_cost d cost xs p) (path_cost d cost xs q) _ _ (cost r.1.1 x) cp cq l)
              | inr e ↦ inr (same_both (path_cost d cost xs p) (path_cost d cost xs q) _ _ (cost r.1.1 x) cp cq e.0, sym (before_push p q r.0 a r.1 k m r.3) ∙ e.1)
            ]
          where
            pushed : Admissible d start (Some t) (length (xs ++ x ∷ [])) (push q a)
            pushed = subst (λ n. Admissible d start (Some t) n (push q a)) (sym (length_push xs x)) (subst (λ u. Admissible d start (Some u) (suc (length xs)) (push q a)) r.4 (admit_push d start (length xs) r.0 a r.1 q h r.3))

            cp : path_cost d cost (xs ++ x ∷ []) (push p a) ≡ path_cost d cost xs p + cost r.1.1 x
            cp = cost_push d cost xs x p r.0 a r.1 r.2.path.steps k r.3

            cq : path_cost d cost (xs ++ x ∷ []) (push q a) ≡ path_cost d cost xs q + cost r.1.1 x
            cq = cost_push d cost xs x q r.0 a r.1 h.path.steps m r.3

    pub last_step : (xs : List ℤ) (x : ℤ) (t : ℕ) (p : Path) → First d cost start (Some t) (xs ++ x ∷ []) p → LastStep xs x t p
    last_step xs x t p f =
        let q = push_of d (length xs) p (f.path.path.steps ∙ length_push xs x) in
        subst (LastStep xs x t) (sym q.2) (unstep xs x t q.1 q.0 (subst (First d cost start (Some t) (xs ++ x ∷ [])) q.2 f))

    -- one answer at most is the first path
    pub is_first_some : (end : Option ℕ) (xs : List ℤ) (o : Option Path) (p : Path) → IsFirst d cost start end xs o → First d cost start end xs p → o ≡ Some p
    is_first_some end xs None p h f = absurd (h p f.path)
    is_first_some end xs (Some q) p h f = ap Some (one_first d cost start end xs q p h f)

pub substructure : Substructure
unfolding unstep
substructure d lawful cost start xs x t a p f = let r = unstep d cost start xs x t a p f in (r.from, r.arrives, r.first)

-- ---- the way back

pub take_suc_more : (xs : List ℤ) (k : ℕ) → k < length xs → take (suc k) xs ≡ take k xs ++ get_or xs k (pos 0) ∷ []
take_suc_more xs k h = ap (λ j. take j xs) (sym (add-one k)) ∙ take_more xs k (pos 0) h

-- one step back, and from there as the bytes lead
back_more : (d : Diagram) → Lawful d → (cost : ℤ → ℤ → ℕ) (start : Option ℕ) (xs : List ℤ) (table : List ℕ) → TableOf d cost start xs table →
    (k : ℕ) → suc k ≤ length xs → ((t : ℕ) (p : Path) → First d cost start (Some t) (take k xs) p → path_back table k t ≡ p) →
    (t : ℕ) (p : Path) → First d cost start (Some t) (take (suc k) xs) p → path_back table (suc k) t ≡ p
back_more d lawful cost start xs table tab k le before-it t p f = go (tab.chosen k t le low)
  where
    r : LastStep d cost start (take k xs) (get_or xs k (pos 0)) t p
    r = last_step d cost start (take k xs) (get_or xs k (pos 0)) t p (subst (λ ys. First d cost start (Some t) ys p) (take_suc_more xs k le) f)

    low : t < d.states
    low = subst (λ u. u < d.states) r.leads (branch_low d lawful r.from r.letter r.branch r.has)

    go : Chosen d cost start (take (k + 1) xs) t (byte_at table k t) → path_back table (suc k) t ≡ p
    go h =
        let one : h.0 ≡ Some p = is_first_some d cost start (Some t) (take (suc k) xs) h.0 p (subst (λ j. IsFirst d cost start (Some t) (take j xs) h.0) (add-one k) h.1) f in
        let byte : byte_at table k t ≡ r.from * 4 + r.letter = h.2 ∙ ap (last_byte d) one ∙ ap leading_byte r.steps in
        let small : r.letter < 4 = (branch_from d lawful r.from r.letter r.branch r.has).1 in
        let state : byte_at table k t / 4 ≡ r.from = omega arith in
        let letter : byte_at table k t % 4 ≡ r.letter = omega arith in
        (λ i. push (path_back table k (state i)) (letter i)) ∙ ap (λ q. push q r.letter) (before-it r.from r.rest r.first) ∙ sym r.is

pub leads_back : LeadsBack
leads_back d lawful cost start xs table tab zero le t p f =
    let e : p.letters ≡ [] = nil_from_length p.letters f.path.path.steps in
    let q : Some p.first ≡ Some t = ap (reached d p.first) (sym e) ∙ (arrives d start 0 t p f.path).1 in
    let z : t ≡ p.first = same_some refl (sym q) in
    λ i. record { first = z i; letters = (sym e) i }
leads_back d lawful cost start xs table tab (suc k) le t p f = back_more d lawful cost start xs table tab k le (leads_back d lawful cost start xs table tab k (omega arith)) t p f

-- ---- over all permitted ends

pub ends_at : (d : Diagram) (start end : Option ℕ) (n : ℕ) (p : Path) → Admissible d start end n p → (t : ℕ) × Admissible d start (Some t) n p × (permits end t ≡ true) × (last_state d p ≡ Some t)
ends_at d start end n p h =
    let k = and_parts (permits start p.first) (permits_last end (last_state d p)) h.permitted in
    go (last_state d p) refl k.0 k.1
  where
    go : (o : Option ℕ) → last_state d p ≡ o → permits start p.first ≡ true → permits_last end o ≡ true → (t : ℕ) × Admissible d start (Some t) n p × (permits end t ≡ true) × (last_state d p ≡ Some t)
    go None e s q = absurd (clash q)
    go (Some t) e s q = (t, admit_to d start n t p h.path.state h.path.steps s e, q, e)

-- p to t is ahead of q to u
ahead_first : (d : Diagram) (cost : ℤ → ℤ → ℕ) (xs : List ℤ) (p q r : Path) (t u : ℕ) → last_state d p ≡ Some t → last_state d q ≡ Some u → last_state d r ≡ Some u →
    (path_cost d cost xs p < path_cost d cost xs r) ⊎ ((path_cost d cost xs p ≡ path_cost d cost xs r) × (t < u)) → (r ≡ q) ⊎ Ahead d cost xs r q → Ahead d cost xs p q
ahead_first d cost xs p q r t u lp lq lr (inl l) (inl e) = inl (omega (arith, ap (path_cost d cost xs) e))
ahead_first d cost xs p q r t u lp lq lr (inl l) (inr (inl m)) = inl (omega arith)
ahead_first d cost xs p q r t u lp lq lr (inl l) (inr (inr m)) = inl (omega (arith, m.0))
ahead_first d cost xs p q r t u lp lq lr (inr l) (inr (inl m)) = inl (omega (arith, l.0))
ahead_first d cost xs p q r t u lp lq lr (inr l) (inl e) = inr (l.0 ∙ ap (path_cost d cost xs) e, lower_first d p q t u lp lq l.1)
ahead_first d cost xs p q r t u lp lq lr (inr l) (inr (inr m)) = inr (l.0 ∙ m.0, lower_first d p q t u lp lq l.1)

pub over_ends : OverEnds
over_ends d lawful cost start end xs t p f perm least = record {
  path = admit d start end (length xs) t p f.path.path.state f.path.path.steps at.0 at.1 perm;
  ahead = λ q h ne. let m = ends_at d start end (length xs) q h in go q m.0 m.1 m.2 m.3 ne (first_path d cost start (Some m.0) xs) (first_found d lawful cost start (Some m.0) xs) (cases_order t m.0);
}
  where
    at : (permits start p.first ≡ true) × (last_state d p ≡ Some t)
    at = arrives d start (length xs) t p f.path

    same_or_ahead : (q r : Path) (u : ℕ) → Admissible d start (Some u) (length xs) q → First d cost start (Some u) xs r → (r ≡ q) ⊎ Ahead d cost xs r q
    same_or_ahead q r u h g = elim (cases_Bool (same_path r q)) [
      | inl e ↦ inl (same_path_says r q e)
      | inr e ↦ inr (g.ahead q h (λ z. both_ways (same_path r q) e (ap (same_path r) (sym z) ∙ same_path_self r)))
    ]

    go : (q : Path) (u : ℕ) → Admissible d start (Some u) (length xs) q → permits end u ≡ true → last_state d q ≡ Some u → (p ≡ q → ⊥) → (o : Option Path) → IsFirst d cost start (Some u) xs o → (t ≡ u) ⊎ ((t < u) ⊎ (u < t)) → Ahead d cost xs p q
    go q u h pu lq ne None g o = absurd (g q h)
    go q u h pu lq ne (Some r) g (inl e) = f.ahead q (subst (λ s. Admissible d start (Some s) (length xs) q) (sym e) h) ne
    go q u h pu lq ne (Some r) g (inr (inl l)) = ahead_first d cost xs p q r t u at.1 lq (arrives d start (length xs) u r g.path).1 (elim (least u r pu g) [ inl m ↦ inl m | inr m ↦ inr (m.0, l) ]) (same_or_ahead q r u h g)
    go q u h pu lq ne (Some r) g (inr (inr l)) = ahead_first d cost xs p q r t u at.1 lq (arrives d start (length xs) u r g.path).1 (elim (least u r pu g) [ inl m ↦ inl m | inr m ↦ absurd (omega (arith, m.1)) ]) (same_or_ahead q r u h g)

-- ---- one table

same_first : (d : Diagram) (cost : ℤ → ℤ → ℕ) (start end : Option ℕ) (xs : List ℤ) (o u : Option Path) → IsFirst d cost start end xs o → IsFirst d cost start end xs u → o ≡ u
same_first d cost start end xs None None h k = refl
same_first d cost start end xs None (Some q) h k = absurd (h q k.path)
same_first d cost start end xs (Some p) u h k = sym (is_first_some d cost start end xs u p k h)

pub one_table : OneTable
one_table d cost start xs table other h k = same_lists table other (h.size ∙ sym k.size) same
  where
    bytes : (i s : ℕ) → s < 64 → byte_at table i s ≡ byte_at other i s
    bytes i s m = by (cases_lt i (length xs)) (cases_lt s d.states)
      where
        by : (i < length xs) ⊎ (length xs ≤ i) → (s < d.states) ⊎ (d.states ≤ s) → byte_at table i s ≡ byte_at other i s
        by (inl l) (inl n) =
            let a = h.chosen i s l n in
            let b = k.chosen i s l n in
            a.2 ∙ ap (last_byte d) (same_first d cost start (Some s) (take (i + 1) xs) a.0 b.0 a.1 b.1) ∙ sym b.2
        by (inl l) (inr n) = h.no_state i s n m ∙ sym (k.no_state i s n m)
        by (inr l) n = h.no_sample i s l ∙ sym (k.no_sample i s l)

    same : (i e : ℕ) → i < length table → get_or table i e ≡ get_or other i e
    same i e l =
        let at : i / 64 * 64 + i % 64 ≡ i = omega arith in
        let m : i < length other = omega (arith, h.size, k.size) in
        get_or_default table i e 0 l ∙ ap (λ j. get_or table j 0) (sym at) ∙ bytes (i / 64) (i % 64) (omega arith) ∙ ap (λ j. get_or other j 0) at ∙ get_or_default other i 0 e m
