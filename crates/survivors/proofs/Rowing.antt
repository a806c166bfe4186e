-- Rows of costs and bytes, one branch after another.
use Rattle.std.proofs.Common.{◌≡◌, ℕ, zero, suc, ◌+◌, ◌-◌, ◌*◌, ◌/◌, ◌%◌, ◌<◌, ◌≤◌, Bool, true, false, cond, eqb, ltb, List, [], length, get_or, take, set, ℤ, Some, None, fold, Option, sym, refl, ap, ◌∙◌, subst, inl, inr, arith, get_or-set_other, get_or-set_same, le-ltb, lt-ltb, eqb-true}
use borrow.Author.Tests.{eqb-false}
use Rattle.std.proofs.lemmas.List.{flat_map_more}
use Rattle.std.proofs.lemmas.List.Sums.{fold_more, fold-append}
use Rattle.std.proofs.lemmas.Bool.{cases_lt}
use Rattle.std.specs.List.{flat_map}
use Rattle.model.specs.Trellises.{Branch, Diagram, Lawful}
use Rattle.paths.specs.declared.branch.ListedBranch.{ListedBranch}
use Rattle.paths.specs.Listings.{below}
use Rattle.paths.specs.Branches.{listed, branches_from, branches_of}
use Rattle.survivors.specs.Survivors.{pick, scan, offer, offered, offered_by, best, best_of, cost_in, byte_in}
use Rattle.survivors.specs.Reaches.{unreached, as_cost, reached_at, KeptNumbers, Capped}
use Rattle.paths.proofs.Listing.{never}
use Rattle.survivors.proofs.Pushes.{same_some}

-- ---- numbers that stand for costs

pub as_below : (v : ℕ) → v < unreached → as_cost v ≡ Some v
as_below v h = ap (λ b. cond b (Some v) None) (lt-ltb v unreached h)

pub as_above : (v : ℕ) → unreached ≤ v → as_cost v ≡ None
as_above v h = ap (λ b. cond b (Some v) None) (le-ltb v unreached h)

pub as_some : (v c : ℕ) → as_cost v ≡ Some c → (v < unreached) × (v ≡ c)
as_some v c e = elim (cases_lt v unreached) [
  | inl l ↦ (l, same_some refl (sym (as_below v l) ∙ e))
  | inr l ↦ absurd (never e (as_above v l))
]

as_none : (v : ℕ) → as_cost v ≡ None → unreached ≤ v
as_none v e = elim (cases_lt v unreached) [ inl l ↦ absurd (never (as_below v l) e) | inr l ↦ l ]

-- ---- the cheaper of two

-- a cost, if there is one, and w more
abbrev plus_cost : Option ℕ → ℕ → Option ℕ
plus_cost None w = None
plus_cost (Some c) w = Some (c + w)

abbrev Picked : ℕ → ℕ → ℕ → ℕ → ℕ → Option (ℕ × ℕ) → Option ℕ → Type 0
Picked c v i j w o u = (as_cost (cond (ltb c v) c v) ≡ cost_in (pick o i (plus_cost u w))) × (cond (ltb c v) i j ≡ byte_in (pick o i (plus_cost u w)))

module _ (u w v i j : ℕ) (cap : v ≤ unreached) (room : u < unreached → u + w < unreached) where
  by_cost : (o : Option (ℕ × ℕ)) → u < unreached → as_cost v ≡ cost_in o → j ≡ byte_in o → Picked (u + w) v i j w o (Some u)
  by_cost None l e f =
      let far : unreached ≤ v = as_none v e in
      let less : u + w < unreached = room l in
      let b : ltb (u + w) v ≡ true = lt-ltb (u + w) v (omega arith) in
      (ap (λ q. as_cost (cond q (u + w) v)) b ∙ as_below (u + w) less, ap (λ q. cond q i j) b)
  by_cost (Some m) l e f =
      let is : v ≡ m.0 = (as_some v m.0 e).1 in
      let less : u + w < unreached = room l in
      go (ltb (u + w) m.0) (ap (ltb (u + w)) is)
    where
      go : (q : Bool) → ltb (u + w) v ≡ q →
          (as_cost (cond (ltb (u + w) v) (u + w) v) ≡ cost_in (cond q (Some (u + w, i)) (Some m))) × (cond (ltb (u + w) v) i j ≡ byte_in (cond q (Some (u + w, i)) (Some m)))
      go true b = (ap (λ q. as_cost (cond q (u + w) v)) b ∙ as_below (u + w) (room l), ap (λ q. cond q i j) b)
      go false b = (ap (λ q. as_cost (cond q (u + w) v)) b ∙ e, ap (λ q. cond q i j) b ∙ f)

  pub picked : (o : Option (ℕ × ℕ)) → as_cost v ≡ cost_in o → j ≡ byte_in o → Picked (u + w) v i j w o (as_cost u)
  picked o e f = elim (cases_lt u unreached) [
    | inl l ↦ subst (Picked (u + w) v i j w o) (sym (as_below u l)) (by_cost o l e f)
    | inr l ↦ subst (Picked (u + w) v i j w o) (sym (as_above u l)) (
        let b : ltb (u + w) v ≡ false = le-ltb (u + w) v (omega arith) in
        (ap (λ q. as_cost (cond q (u + w) v)) b ∙ e, ap (λ q. cond q i j) b ∙ f)
        )
  ]

-- ---- one branch more

offer_at : (cost : ℤ → ℤ → ℕ) (x : ℤ) (k t : ℕ) (l : ℤ) (v : Option ℕ) (q : Bool) → eqb k t ≡ q → offer cost x k (Some (t, l)) v ≡ cond q (plus_cost v (cost l x)) None
offer_at cost x k t l None true e = refl
offer_at cost x k t l None false e = refl
offer_at cost x k t l (Some c) q e = ap (λ b. cond b (Some (c + cost l x)) None) e

module _ (cost : ℤ → ℤ → ℕ) (x : ℤ) (from : List ℕ) (n : ℕ) (b : ListedBranch) (row bytes : List ℕ) (inside : b.next < n) (long : n ≤ length row) (wide : n ≤ length bytes) (cap : Capped n row) where
  abbrev t : ℕ
  t = b.next

  abbrev u : ℕ
  u = get_or from b.from 0

  abbrev w : ℕ
  w = cost b.label x

  abbrev v : ℕ
  v = get_or row t 0

  -- the rows after it
  abbrev row' : List ℕ
  row' = set row t (cond (ltb (u + w) v) (u + w) v)

  abbrev bytes' : List ℕ
  bytes' = set bytes t (cond (ltb (u + w) v) b.byte (get_or bytes t 0))

  module _ (room : u < unreached → u + w < unreached) (f : ℕ → Option (ℕ × ℕ)) (kept : KeptNumbers n f row bytes) where
    abbrev g : ℕ → Option (ℕ × ℕ)
    g k = pick (f k) b.byte (offered_by cost x (reached_at from) k b)

    here : Picked (u + w) v b.byte (get_or bytes t 0) w (f t) (as_cost u)
    here = picked u w v b.byte (get_or bytes t 0) (cap t inside) room (f t) (kept.cost t inside) (kept.byte t)

    at_cost : (k : ℕ) → k < n → (q : Bool) → eqb k t ≡ q → reached_at row' k ≡ cost_in (g k)
    at_cost k l true p =
        let e : k ≡ t = eqb-true k t p in
        ap (reached_at row') e ∙ ap as_cost (get_or-set_same row t (cond (ltb (u + w) v) (u + w) v) 0 (omega arith)) ∙ here.0
        ∙ ap (λ j. cost_in (pick (f j) b.byte (plus_cost (as_cost u) w))) (sym e)
        ∙ ap (λ o. cost_in (pick (f k) b.byte o)) (sym (offer_at cost x k t b.label (as_cost u) true p))
    at_cost k l false p =
        ap as_cost (get_or-set_other row t k (cond (ltb (u + w) v) (u + w) v) 0 (eqb-false k t p)) ∙ kept.cost k l
        ∙ ap (λ o. cost_in (pick (f k) b.byte o)) (sym (offer_at cost x k t b.label (as_cost u) false p))

    at_byte : (k : ℕ) → (q : Bool) → eqb k t ≡ q → get_or bytes' k 0 ≡ byte_in (g k)
    at_byte k true p =
        let e : k ≡ t = eqb-true k t p in
        ap (λ j. get_or bytes' j 0) e ∙ get_or-set_same bytes t (cond (ltb (u + w) v) b.byte (get_or bytes t 0)) 0 (omega arith) ∙ here.1
        ∙ ap (λ j. byte_in (pick (f j) b.byte (plus_cost (as_cost u) w))) (sym e)
        ∙ ap (λ o. byte_in (pick (f k) b.byte o)) (sym (offer_at cost x k t b.label (as_cost u) true p))
    at_byte k false p =
        get_or-set_other bytes t k (cond (ltb (u + w) v) b.byte (get_or bytes t 0)) 0 (eqb-false k t p) ∙ kept.byte k
        ∙ ap (λ o. byte_in (pick (f k) b.byte o)) (sym (offer_at cost x k t b.label (as_cost u) false p))

    pub kept_branch : KeptNumbers n g row' bytes'
    kept_branch = record { cost = λ k l. at_cost k l (eqb k t) refl; byte = λ k. at_byte k (eqb k t) refl }

-- before any branch
pub kept_none : (cost : ℤ → ℤ → ℕ) (x : ℤ) (from row bytes : List ℕ) (n : ℕ) → ((k : ℕ) → k < n → get_or row k 0 ≡ unreached) → ((k : ℕ) → get_or bytes k 0 ≡ 0) → KeptNumbers n (best_of cost x (reached_at from) []) row bytes
unfolding best_of
kept_none cost x from row bytes n clear zeros = record { cost = λ k l. ap as_cost (clear k l); byte = zeros }

pub best_more : (cost : ℤ → ℤ → ℕ) (x : ℤ) (row : ℕ → Option ℕ) (bs : List ListedBranch) (i : ℕ) (b : ListedBranch) → i < length bs → (k : ℕ) →
    pick (best_of cost x row (take i bs) k) (get_or bs i b).byte (offered_by cost x row k (get_or bs i b)) ≡ best_of cost x row (take (i + 1) bs) k
unfolding best_of
best_more cost x row bs i b h k = sym (fold_more (λ o e. pick o e.byte (offered_by cost x row k e)) None bs i b h)

-- ---- a list of branches as a scan over bytes

pub kept_same : (n : ℕ) (f g : ℕ → Option (ℕ × ℕ)) (row bytes : List ℕ) → ((k : ℕ) → f k ≡ g k) → KeptNumbers n f row bytes → KeptNumbers n g row bytes
kept_same n f g row bytes h kept = record { cost = λ k l. kept.cost k l ∙ ap cost_in (h k); byte = λ k. kept.byte k ∙ ap byte_in (h k) }

-- a scan over numbers that have no cost
pub scan_idle : (f : ℕ → Option ℕ) (i d : ℕ) → ((j : ℕ) → i ≤ j → j < i + d → f j ≡ None) → scan f i ≡ scan f (i + d)
scan_idle f i zero h = ap (scan f) (let e : i ≡ i + 0 = omega arith in e)
scan_idle f i (suc d) h =
    scan_idle f i d (λ j l m. h j l (omega arith)) ∙ sym (ap (pick (scan f (i + d)) (i + d)) (h (i + d) (omega arith) (omega arith)))
    ∙ ap (scan f) (let e : suc (i + d) ≡ i + suc d = omega arith in e)

module _ (d : Diagram) (lawful : Lawful d) (cost : ℤ → ℤ → ℕ) (x : ℤ) (row : ℕ → Option ℕ) (t : ℕ) where
  abbrev f : ℕ → Option ℕ
  f = offered d cost x row t

  abbrev more : Option (ℕ × ℕ) → ListedBranch → Option (ℕ × ℕ)
  more o b = pick o b.byte (offered_by cost x row t b)

  -- the offer of a byte, by its state and letter
  offered_at : (s a : ℕ) → a < 4 → f (s * 4 + a) ≡ offer cost x t (d.branch s a) (row s)
  offered_at s a h =
      let q : (s * 4 + a) / 4 ≡ s = omega arith in
      let r : (s * 4 + a) % 4 ≡ a = omega arith in
      ap (λ i. offer cost x t (d.branch i ((s * 4 + a) % 4)) (row i)) q ∙ ap (λ j. offer cost x t (d.branch s j) (row s)) r

  one_more : (o : Option (ℕ × ℕ)) (s a : ℕ) (b : Branch) → fold more o (listed s a b) ≡ pick o (s * 4 + a) (offer cost x t b (row s))
  one_more o s a None = refl
  one_more o s a (Some b) = refl

  letters_more : (s a : ℕ) → a ≤ 4 → fold more (scan f (s * 4)) (flat_map (λ l. listed s l (d.branch s l)) (below a)) ≡ scan f (s * 4 + a)
  letters_more s zero h = ap (scan f) (let e : s * 4 ≡ s * 4 + 0 = omega arith in e)
  letters_more s (suc a) h =
      let h4 : a < 4 = omega arith in
      ap (fold more (scan f (s * 4))) (sym (flat_map_more (λ l. listed s l (d.branch s l)) [] (below a) a))
      ∙ fold-append more (scan f (s * 4)) (flat_map (λ l. listed s l (d.branch s l)) (below a)) (listed s a (d.branch s a))
      ∙ ap (λ o. fold more o (listed s a (d.branch s a))) (letters_more s a (omega arith))
      ∙ one_more (scan f (s * 4 + a)) s a (d.branch s a)
      ∙ ap (pick (scan f (s * 4 + a)) (s * 4 + a)) (sym (offered_at s a h4))
      ∙ ap (scan f) (let e : suc (s * 4 + a) ≡ s * 4 + suc a = omega arith in e)

  -- the letters that are left have no branch
  state_more : (s : ℕ) → fold more (scan f (s * 4)) (branches_from d s) ≡ scan f (suc s * 4)
  unfolding branches_from
  state_more s =
      let few : d.letters ≤ 4 = lawful.few_letters in
      letters_more s d.letters few
      ∙ scan_idle f (s * 4 + d.letters) (4 - d.letters) (λ j l m. ap (λ e. offer cost x t e (row (j / 4))) (lawful.no_letter (j / 4) (j % 4) (omega arith)))
      ∙ ap (scan f) (let e : s * 4 + d.letters + (4 - d.letters) ≡ suc s * 4 = omega arith in e)

  states_more : (n : ℕ) → fold more None (flat_map (branches_from d) (below n)) ≡ scan f (n * 4)
  states_more zero = refl
  states_more (suc n) =
      ap (fold more None) (sym (flat_map_more (branches_from d) [] (below n) n))
      ∙ fold-append more None (flat_map (branches_from d) (below n)) (branches_from d n)
      ∙ ap (λ o. fold more o (branches_from d n)) (states_more n)
      ∙ state_more n

  best_same : best_of cost x row (branches_of d) t ≡ best d cost x row t
  unfolding best_of best branches_of
  best_same = states_more d.states

pub kept_best : (d : Diagram) → Lawful d → (cost : ℤ → ℤ → ℕ) (x : ℤ) (from row bytes : List ℕ) (n : ℕ) (bs : List ListedBranch) → bs ≡ branches_of d → KeptNumbers n (best_of cost x (reached_at from) bs) row bytes → KeptNumbers n (best d cost x (reached_at from)) row bytes
kept_best d lawful cost x from row bytes n bs e kept =
    kept_same n (best_of cost x (reached_at from) bs) (best d cost x (reached_at from)) row bytes (λ k. ap (λ z. best_of cost x (reached_at from) z k) e ∙ best_same d lawful cost x (reached_at from) k) kept
