-- The cheapest branch that a scan finds is the last one of the first of the cheapest paths.
use Rattle.std.proofs.Common.{◌≡◌, ℕ, suc, ◌+◌, ◌*◌, ◌/◌, ◌%◌, ◌<◌, ◌≤◌, Bool, true, false, cond, eqb, ◌⊎◌, List, [], ◌∷◌, ◌++◌, length, ℤ, Some, None, Option, sym, refl, ap, ◌∙◌, subst, inl, inr, arith, eq-eqb, eqb-true}
use Rattle.std.proofs.lemmas.List.{nil_from_length}
use Rattle.std.proofs.lemmas.Bool.{cases_order, both_ways}
use Rattle.model.specs.Trellises.{Branch, Diagram, Lawful}
use Rattle.paths.specs.Paths.{Path, Admissible, reached, permits, path_cost}
use Rattle.paths.specs.Orders.{lower, earlier, steps_back}
use Rattle.paths.specs.Cheapest.{first_path}
use Rattle.paths.specs.Laws.{First, IsFirst}
use Rattle.paths.proofs.Firsts.{first_found}
use Rattle.survivors.specs.Choices.{Chosen, Costs, last_byte, leading_byte, cost_of}
use Rattle.survivors.specs.Laws.{push}
use Rattle.survivors.specs.Survivors.{offer, offered, best, cost_in, byte_in, opening}
use Rattle.paths.proofs.Listing.{never}
use Rattle.survivors.proofs.Pushes.{same_some, length_push, back_push, cost_push, arrives, admit_to, admit_push, branch_low}
use Rattle.survivors.proofs.Scans.{Sooner, Least, scan_least}
use Rattle.paths.proofs.Ordering.{lower_says}
use Rattle.survivors.proofs.Firsts.{before_at, branch_from, LastStep, last_step, is_first_some}

-- what an offer comes from
offer_says : (cost : ℤ → ℤ → ℕ) (x : ℤ) (t c : ℕ) (e : Branch) (v : Option ℕ) → offer cost x t e v ≡ Some c →
    (b : ℕ × ℤ) × (u : ℕ) × (e ≡ Some b) × (v ≡ Some u) × (b.0 ≡ t) × (u + cost b.1 x ≡ c)
offer_says cost x t c None v h = absurd (never h refl)
offer_says cost x t c (Some b) None h = absurd (never h refl)
offer_says cost x t c (Some b) (Some u) h = go (eqb t b.0) refl h
  where
    go : (q : Bool) → eqb t b.0 ≡ q → cond q (Some (u + cost b.1 x)) None ≡ Some c → (b' : ℕ × ℤ) × (u' : ℕ) × (Some b ≡ Some b') × (Some u ≡ Some u') × (b'.0 ≡ t) × (u' + cost b'.1 x ≡ c)
    go true e k = (b, u, refl, refl, sym (eqb-true t b.0 e), same_some refl k)
    go false e k = absurd (never k refl)

-- an offer of a branch that is there
offer_made : (d : Diagram) (cost : ℤ → ℤ → ℕ) (x : ℤ) (row : ℕ → Option ℕ) (t s a c : ℕ) (b : ℕ × ℤ) → a < 4 → d.branch s a ≡ Some b → b.0 ≡ t → row s ≡ Some c → offered d cost x row t (s * 4 + a) ≡ Some (c + cost b.1 x)
offer_made d cost x row t s a c b h e z p =
    let q : (s * 4 + a) / 4 ≡ s = omega arith in
    let r : (s * 4 + a) % 4 ≡ a = omega arith in
    ap (λ i. offer cost x t (d.branch i ((s * 4 + a) % 4)) (row i)) q ∙ ap (λ j. offer cost x t (d.branch s j) (row s)) r
    ∙ ap (λ w. offer cost x t w (row s)) e ∙ ap (offer cost x t (Some b)) p
    ∙ ap (λ y. cond y (Some (c + cost b.1 x)) None) (eq-eqb t b.0 (sym z))

-- what is held of a state that a first path arrives at, and what is not
pub cost_known : (d : Diagram) (cost : ℤ → ℤ → ℕ) (start : Option ℕ) (xs : List ℤ) (s : ℕ) (v : Option ℕ) (p : Path) → Costs d cost start xs s v → First d cost start (Some s) xs p → v ≡ Some (path_cost d cost xs p)
cost_known d cost start xs s v p h f = h.2 ∙ ap (cost_of d cost xs) (is_first_some d cost start (Some s) xs h.0 p h.1 f)

pub path_known : (d : Diagram) (cost : ℤ → ℤ → ℕ) (start : Option ℕ) (xs : List ℤ) (s c : ℕ) (v : Option ℕ) → Costs d cost start xs s v → v ≡ Some c → (p : Path) × First d cost start (Some s) xs p × (path_cost d cost xs p ≡ c)
path_known d cost start xs s c v h e = go h.0 h.1 (sym h.2 ∙ e)
  where
    go : (o : Option Path) → IsFirst d cost start (Some s) xs o → cost_of d cost xs o ≡ Some c → (p : Path) × First d cost start (Some s) xs p × (path_cost d cost xs p ≡ c)
    go None g q = absurd (never q refl)
    go (Some p) g q = (p, g, same_some refl q)

module _ (d : Diagram) (lawful : Lawful d) (cost : ℤ → ℤ → ℕ) (start : Option ℕ) (xs : List ℤ) (x : ℤ) (row : ℕ → Option ℕ) (held : (s : ℕ) → s < d.states → Costs d cost start xs s (row s)) (t : ℕ) where
  abbrev more : List ℤ
  more = xs ++ x ∷ []

  abbrev f : ℕ → Option ℕ
  f = offered d cost x row t

  -- what the scan found, and the first path
  abbrev Agree : Option (ℕ × ℕ) → Option Path → Type 0
  Agree m o = (cost_in m ≡ cost_of d cost more o) × (byte_in m ≡ last_byte d o)

  -- the offer of the last branch of a first path
  made : (p : Path) (r : LastStep d cost start xs x t p) → f (r.from * 4 + r.letter) ≡ Some (path_cost d cost more p)
  made p r =
      let l = branch_from d lawful r.from r.letter r.branch r.has in
      offer_made d cost x row t r.from r.letter (path_cost d cost xs r.rest) r.branch l.1 r.has r.leads (cost_known d cost start xs r.from (row r.from) r.rest (held r.from l.0) r.first)
      ∙ ap Some (sym r.costs)

  low : (p : Path) (r : LastStep d cost start xs x t p) → r.from * 4 + r.letter < d.states * 4
  low p r = let l = branch_from d lawful r.from r.letter r.branch r.has in omega (arith, l.0, l.1)

  -- an offer is made by a path
  pub record Offers (i c : ℕ) : Type 0 where
    pub path : Path
    pub goes : Admissible d start (Some t) (length more) path
    pub costs : path_cost d cost more path ≡ c
    pub rest : List (ℕ × ℕ)
    pub steps : steps_back d path ≡ (i / 4, i % 4) ∷ rest

  offers : (i c : ℕ) → i < d.states * 4 → f i ≡ Some c → Offers i c
  offers i c l e =
      let p = offer_says cost x t c (d.branch (i / 4) (i % 4)) (row (i / 4)) e in
      let s : i / 4 < d.states = omega arith in
      let q = path_known d cost start xs (i / 4) p.1 (row (i / 4)) (held (i / 4) s) p.3 in
      let k = arrives d start (length xs) (i / 4) q.0 q.1.path in
      record {
        path = push q.0 (i % 4);
        goes = subst (λ n. Admissible d start (Some t) n (push q.0 (i % 4))) (sym (length_push xs x)) (subst (λ u. Admissible d start (Some u) (suc (length xs)) (push q.0 (i % 4))) p.4 (admit_push d start (length xs) (i / 4) (i % 4) p.0 q.0 q.1.path p.2));
        costs = cost_push d cost xs x q.0 (i / 4) (i % 4) p.0 q.1.path.path.steps k.1 p.2 ∙ ap (λ z. z + cost p.0.1 x) q.2 ∙ p.5;
        rest = steps_back d q.0;
        steps = back_push d q.0 (i / 4) (i % 4) p.0 k.1 p.2;
      }

  -- the order between an offer's path and the first path, where their last branches differ
  not_before : (i s a : ℕ) (us vs : List (ℕ × ℕ)) → a < 4 → i < s * 4 + a → earlier ((s, a) ∷ us) ((i / 4, i % 4) ∷ vs) ≡ true → ⊥
  not_before i s a us vs h l e = elim (lower_says s (i / 4) (lower a (i % 4) (earlier us vs)) e) [
    | inl m ↦ omega arith
    | inr m ↦ let z = m.0 in elim (lower_says a (i % 4) (earlier us vs) m.1) [ inl k ↦ omega arith | inr k ↦ let y = k.0 in omega arith ]
  ]

  agree : (m : Option (ℕ × ℕ)) → Least f (d.states * 4) m → (o : Option Path) → IsFirst d cost start (Some t) more o → Agree m o
  agree None least None first = (refl, refl)
  agree None least (Some p) first =
      let r = last_step d cost start xs x t p first in
      absurd (never (made p r) (least (r.from * 4 + r.letter) (low p r)))
  agree (Some m) least None first = absurd (first (offers m.1 m.0 least.0 least.1).path (offers m.1 m.0 least.0 least.1).goes)
  agree (Some m) least (Some p) first = go (cases_order m.1 (r.from * 4 + r.letter))
    where
      r : LastStep d cost start xs x t p
      r = last_step d cost start xs x t p first

      q : Offers m.1 m.0
      q = offers m.1 m.0 least.0 least.1

      small : r.letter < 4
      small = (branch_from d lawful r.from r.letter r.branch r.has).1

      sooner : Sooner m.0 m.1 (path_cost d cost more p) (r.from * 4 + r.letter)
      sooner = least.2 (r.from * 4 + r.letter) (low p r) (path_cost d cost more p) (made p r)

      -- the byte of the offer's path, and that of the first
      offer_byte : leading_byte (steps_back d q.path) ≡ m.1
      offer_byte = ap leading_byte q.steps ∙ (let z : m.1 / 4 * 4 + m.1 % 4 ≡ m.1 = omega arith in z)

      first_byte : leading_byte (steps_back d p) ≡ r.from * 4 + r.letter
      first_byte = ap leading_byte r.steps

      differ : (m.1 ≡ r.from * 4 + r.letter → ⊥) → p ≡ q.path → ⊥
      differ ne e = ne (sym offer_byte ∙ sym (ap (λ z. leading_byte (steps_back d z)) e) ∙ first_byte)

      go : (m.1 ≡ r.from * 4 + r.letter) ⊎ ((m.1 < r.from * 4 + r.letter) ⊎ (r.from * 4 + r.letter < m.1)) → Agree (Some m) (Some p)
      go (inl e) = (sym least.1 ∙ ap f e ∙ made p r, e ∙ sym first_byte)
      go (inr (inl l)) = absurd (elim (first.ahead q.path q.goes (differ (λ e. let z = e in omega arith))) [
        | inl k ↦ let c = q.costs in elim sooner [ inl j ↦ omega arith | inr j ↦ omega (arith, j.0) ]
        | inr k ↦ not_before m.1 r.from r.letter (steps_back d r.rest) q.rest small l
            (sym (ap (λ z. earlier z ((m.1 / 4, m.1 % 4) ∷ q.rest)) r.steps) ∙ sym (ap (earlier (steps_back d p)) q.steps)
            ∙ sym (before_at d p q.path t (arrives d start (length more) t p first.path).1 (arrives d start (length more) t q.path q.goes).1) ∙ k.1)
      ])
      go (inr (inr l)) = absurd (elim (first.ahead q.path q.goes (differ (λ e. let z = e in omega arith))) [
        | inl k ↦ let c = q.costs in elim sooner [ inl j ↦ omega arith | inr j ↦ omega (arith, j.0) ]
        | inr k ↦ let c = q.costs in let z = k.0 in elim sooner [ inl j ↦ omega arith | inr j ↦ omega (arith, j.1) ]
      ])

  agreed : Agree (best d cost x row t) (first_path d cost start (Some t) more)
  unfolding best
  agreed = agree (best d cost x row t) (scan_least f (d.states * 4)) (first_path d cost start (Some t) more) (first_found d lawful cost start (Some t) more)

  pub best_costs : Costs d cost start more t (cost_in (best d cost x row t))
  best_costs = (first_path d cost start (Some t) more, first_found d lawful cost start (Some t) more, agreed.0)

  pub best_chosen : Chosen d cost start more t (byte_in (best d cost x row t))
  best_chosen = (first_path d cost start (Some t) more, first_found d lawful cost start (Some t) more, agreed.1)

  -- and none leads where there is no state
  none_past : (m : Option (ℕ × ℕ)) → Least f (d.states * 4) m → d.states ≤ t → byte_in m ≡ 0
  none_past None least h = refl
  none_past (Some m) least h =
      let p = offer_says cost x t m.0 (d.branch (m.1 / 4) (m.1 % 4)) (row (m.1 / 4)) least.1 in
      let l : p.0.0 < d.states = branch_low d lawful (m.1 / 4) (m.1 % 4) p.0 p.2 in
      let e : p.0.0 ≡ t = p.4 in absurd (omega arith)

  pub best_past : d.states ≤ t → byte_in (best d cost x row t) ≡ 0
  unfolding best
  best_past h = none_past (best d cost x row t) (scan_least f (d.states * 4)) h

-- ---- before any sample

module _ (d : Diagram) (cost : ℤ → ℤ → ℕ) (start : Option ℕ) (s : ℕ) where
  abbrev single : Path
  single = record { first = s; letters = [] }

  -- a path to s on no samples is s itself
  only_single : (q : Path) → Admissible d start (Some s) 0 q → (permits start s ≡ true) × (single ≡ q)
  only_single q h =
      let k = arrives d start 0 s q h in
      let e : q.letters ≡ [] = nil_from_length q.letters h.path.steps in
      let f : q.first ≡ s = same_some refl (ap (reached d q.first) (sym e) ∙ k.1) in
      (ap (permits start) (sym f) ∙ k.0, λ i. record { first = (sym f) i; letters = (sym e) i })

  pub opening_costs : s < d.states → Costs d cost start [] s (opening start s)
  opening_costs low = go (permits start s) refl
    where
      go : (b : Bool) → permits start s ≡ b → Costs d cost start [] s (cond b (Some 0) None)
      go true e = (
        Some single,
        record { path = admit_to d start 0 s single low refl e refl; ahead = λ q h ne. absurd (ne (only_single q h).1) },
        refl,
      )
      go false e = (None, λ q h. both_ways (permits start s) e (only_single q h).0, refl)
