-- The least of a list of costs, and how often it stands there.
use Rattle.std.proofs.Common.{◌≡◌, ℕ, ◌+◌, ◌<◌, ◌≤◌, min, true, false, cond, eqb, leb, List, [], ◌∷◌, length, Some, None, filter, Option, unwrap_or, sym, refl, ap, ◌∙◌, subst, ap₂, inl, inr, zero-add, one-add, arith, le-leb, leb-true}
use Rattle.std.proofs.lemmas.Bool.{and_parts, and_from, cases_eq}
use Rattle.algebras.specs.Numbers.{inf}
use Rattle.algebras.specs.CostCounts.{cost_count, cheapest_with_count}
use Rattle.algebras.specs.CostCountLaws.{cost_count_laws}
use Rattle.paths.specs.Lists.{In}
use Rattle.paths.specs.Sums.{total}
use Rattle.paths.specs.Cheapest.{at_most_each, lesser, least}
use Rattle.paths.proofs.Totals.{plus_zero}
use Rattle.paths.proofs.Reading.{where_same, at_same, at_other, tied_plus}

-- ---- the least

-- none where the list is empty, else one of the list that is at most each
abbrev pub IsLeast : List ℕ → Option ℕ → Type 0
IsLeast cs None = (c : ℕ) → In c cs → ⊥
IsLeast cs (Some m) = In m cs × ((c : ℕ) → In c cs → m ≤ c)

pub least_is : (cs : List ℕ) → IsLeast cs (least cs)
least_is [] = λ c h. h
least_is (c ∷ cs) = go (least cs) (least_is cs)
  where
    go : (o : Option ℕ) → IsLeast cs o → IsLeast (c ∷ cs) (Some (lesser c o))
    go None h = (inl refl, λ b k. elim k [ inl e ↦ omega arith | inr l ↦ absurd (h b l) ])
    go (Some m) h = (
      elim (cases_eq (min c m) c) [ inl e ↦ inl e | inr e ↦ inr (subst (λ z. In z cs) (let f : m ≡ min c m = omega arith in f) h.0) ],
      λ b k. elim k [ inl e ↦ omega arith | inr l ↦ let le : m ≤ b = h.1 b l in omega arith ],
    )

-- one of the list that is at most each is the least
pub least_from : (cs : List ℕ) (m : ℕ) → In m cs → ((c : ℕ) → In c cs → m ≤ c) → least cs ≡ Some m
least_from cs m h low = go (least cs) (least_is cs)
  where
    go : (o : Option ℕ) → IsLeast cs o → o ≡ Some m
    go None k = absurd (k m h)
    go (Some b) k =
        let p : m ≤ b = low b k.0 in
        let q : b ≤ m = k.1 m h in
        let e : b ≡ m = omega arith in
        ap Some e

pub at_most_says : (c : ℕ) (cs : List ℕ) → at_most_each c cs ≡ true → (b : ℕ) → In b cs → c ≤ b
at_most_says c [] e b h = absurd h
at_most_says c (x ∷ cs) e b (inl f) = let p : c ≤ x = leb-true c x (and_parts (leb c x) (at_most_each c cs) e).0 in omega arith
at_most_says c (x ∷ cs) e b (inr h) = at_most_says c cs (and_parts (leb c x) (at_most_each c cs) e).1 b h

pub at_most_from : (c : ℕ) (cs : List ℕ) → ((b : ℕ) → In b cs → c ≤ b) → at_most_each c cs ≡ true
at_most_from c [] h = refl
at_most_from c (x ∷ cs) h = and_from (leb c x) (at_most_each c cs) (le-leb c x (h x (inl refl))) (at_most_from c cs (λ b k. h b (inr k)))

-- ---- how often

abbrev pub how_often : ℕ → List ℕ → ℕ
how_often m cs = length (filter (λ c. eqb c m) cs)

often_cons : (m c : ℕ) (cs : List ℕ) → how_often m (c ∷ cs) ≡ where_same c m 1 + how_often m cs
often_cons m c cs = elim (eqb c m) as (λ b. length (cond b (c ∷ filter (λ x. eqb x m) cs) (filter (λ x. eqb x m) cs)) ≡ cond b 1 0 + how_often m cs) [
  | true ↦ sym (one-add (how_often m cs))
  | false ↦ sym (zero-add (how_often m cs))
]

often_never : (m : ℕ) (cs : List ℕ) → ((c : ℕ) → In c cs → m < c) → how_often m cs ≡ 0
often_never m [] h = refl
often_never m (c ∷ cs) h =
    let l : m < c = h c (inl refl) in
    often_cons m c cs ∙ ap₂ (λ x y. x + y) (at_other c m 1 (λ e. omega arith)) (often_never m cs (λ b k. h b (inr k)))

-- at or below the least
often_low : (m b : ℕ) (cs : List ℕ) → ((c : ℕ) → In c cs → m ≤ c) → b ≤ m → how_often b cs ≡ where_same m b (how_often m cs)
often_low m b cs low h = elim (cases_eq m b) [
  | inl e ↦ ap (λ z. how_often z cs) (sym e) ∙ sym (at_same m b (how_often m cs) e)
  | inr e ↦ often_never b cs (λ c k. let p : m ≤ c = low c k in omega arith) ∙ sym (at_other m b (how_often m cs) e)
]

-- in cheapest with count: the least cost, and how often it stands there
pub tied_costs : (cs : List ℕ) → total cheapest_with_count (λ c. cost_count c 1) cs ≡ cost_count (unwrap_or (least cs) inf) (how_often (unwrap_or (least cs) inf) cs)
tied_costs [] = refl
tied_costs (c ∷ cs) = ap (cheapest_with_count.plus (cost_count c 1)) (tied_costs cs) ∙ go cs (least cs) (least_is cs)
  where
    go : (cs : List ℕ) (o : Option ℕ) → IsLeast cs o → cheapest_with_count.plus (cost_count c 1) (cost_count (unwrap_or o inf) (how_often (unwrap_or o inf) cs)) ≡ cost_count (lesser c o) (how_often (lesser c o) (c ∷ cs))
    go cs (Some m) h =
        tied_plus c m 1 (how_often m cs)
        ∙ ap (cost_count (min c m)) (ap (λ n. where_same c (min c m) 1 + n) (sym (often_low m (min c m) cs h.1 (omega arith))) ∙ sym (often_cons (min c m) c cs))
    go [] None h =
        plus_zero cheapest_with_count cost_count_laws (cost_count c 1)
        ∙ ap (cost_count c) (sym (often_cons c c [] ∙ ap (λ n. n + 0) (at_same c c 1 refl)))
    go (b ∷ cs) None h = absurd (h b (inl refl))
