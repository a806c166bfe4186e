-- What the sums over paths say in the five algebras.
use Rattle.std.proofs.Common.{◌≡◌, ℕ, suc, ◌+◌, ◌*◌, ◌≤◌, min, max, Bool, true, false, cond, eqb, ltb, ◌⊎◌, List, [], ◌∷◌, map, length, ℤ, Some, None, sum, filter, Option, unwrap_or, sym, refl, ap, ◌∙◌, ap₂, inl, inr, arith, eq-eqb, eqb-true}
use Rattle.std.proofs.lemmas.Bool.{cases_Bool, both_ways}
use Rattle.std.proofs.lemmas.List.{length-map}
use Rattle.std.proofs.lemmas.List.Sums.{sum_by-cons}
use Rattle.std.specs.List.{AllByRecursion}
use Rattle.model.specs.Ranges.{InRange, most_cost}
use Rattle.model.specs.Trellises.{Diagram, StaysIn, Lawful}
use Rattle.algebras.specs.declared.weights.TwoCosts.{TwoCosts}
use Rattle.algebras.specs.Numbers.{inf}
use Rattle.algebras.specs.Semirings.{Semiring}
use Rattle.algebras.specs.Booleans.{boolean}
use Rattle.algebras.specs.Counts.{count_of, counting}
use Rattle.algebras.specs.Costs.{cost_of, cheapest}
use Rattle.algebras.specs.CostCounts.{cost_count, cheapest_with_count}
use Rattle.algebras.specs.TwoCosts.{pair, with_cost, two_smallest, two_cheapest}
use Rattle.algebras.specs.TwoLaws.{same_two, two_laws}
use Rattle.paths.specs.Paths.{Path, along, labels, costs_against, step_costs, path_cost, product, path_weight}
use Rattle.paths.specs.Lists.{In}
use Rattle.paths.specs.Listings.{admissible_paths}
use Rattle.paths.specs.Sums.{total, path_sum}
use Rattle.paths.specs.Cheapest.{at_most_each, cheapest_of, lesser, least, same_path, all_costs, ties, second}
use Rattle.paths.specs.Laws.{First, IsSecond}
use Rattle.paths.specs.Readings.{BooleanSays, CountingSays, CheapestSays, CheapestWithCountSays, TwoCheapestSays, FirstSays, FirstSaysBelowInf, CostsBounded}
use Rattle.paths.proofs.Reading.{product_by_cost, some_paths, count_more, counted_paths, cost_more, least_cost, tied_more, two_more, two_with, two_costs, count_low}
use Rattle.paths.proofs.Leasts.{IsLeast, least_is, least_from, at_most_says, at_most_from, how_often, tied_costs}
use Rattle.paths.proofs.Listing.{in_map, from_map, admissible_listed}
use Rattle.paths.proofs.Firsts.{others, same_path_says, same_path_self, total_others, second_found}

-- a sum over paths whose weight goes by their cost is one over their costs
module _ {W : Type 0} (r : Semiring W) (g : ℕ → W) (one : r.one ≡ g 0) (more : (a b : ℕ) → r.times (g a) (r.weight b) ≡ g (a + b)) (d : Diagram) (cost : ℤ → ℤ → ℕ) (xs : List ℤ) where
  weight_by_cost : (p : Path) → path_weight d cost r xs p ≡ g (path_cost d cost xs p)
  weight_by_cost p = ap (λ v. product r v (step_costs d cost xs p)) one ∙ product_by_cost r g more 0 (step_costs d cost xs p)

  total_by_cost : (ps : List Path) → total r (path_weight d cost r xs) ps ≡ total r g (map (path_cost d cost xs) ps)
  total_by_cost [] = refl
  total_by_cost (p ∷ ps) = ap₂ r.plus (weight_by_cost p) (total_by_cost ps)

pub boolean_says : BooleanSays
unfolding path_sum
boolean_says d cost start end xs =
    let ps = admissible_paths d start end (length xs) in
    total_by_cost boolean (λ c. true) refl (λ a b. refl) d cost xs ps
    ∙ some_paths (map (path_cost d cost xs) ps)
    ∙ ap (ltb 0) (length-map ps (path_cost d cost xs))

pub counting_says : CountingSays
unfolding path_sum
counting_says d cost start end xs =
    let ps = admissible_paths d start end (length xs) in
    total_by_cost counting (λ c. count_of 1) refl count_more d cost xs ps
    ∙ counted_paths (map (path_cost d cost xs) ps)
    ∙ ap count_of (length-map ps (path_cost d cost xs))

pub cheapest_says : CheapestSays
unfolding path_sum
cheapest_says d cost start end xs =
    total_by_cost cheapest cost_of refl cost_more d cost xs (admissible_paths d start end (length xs)) ∙ least_cost (all_costs d cost start end xs)

pub two_cheapest_says : TwoCheapestSays
unfolding path_sum
two_cheapest_says d cost start end xs =
    total_by_cost two_cheapest (λ c. pair c inf) refl two_more d cost xs (admissible_paths d start end (length xs)) ∙ two_costs (all_costs d cost start end xs)

-- ---- ties

length_kept_map : {X Y : Type 0} (q : Y → Bool) (f : X → Y) (xs : List X) → length (filter q (map f xs)) ≡ length (filter (λ x. q (f x)) xs)
length_kept_map q f [] = refl
length_kept_map q f (x ∷ xs) = elim (q (f x)) as (λ b. length (cond b (f x ∷ filter q (map f xs)) (filter q (map f xs))) ≡ length (cond b (x ∷ filter (λ y. q (f y)) xs) (filter (λ y. q (f y)) xs))) [
  | true ↦ ap suc (length_kept_map q f xs)
  | false ↦ length_kept_map q f xs
]

kept_same : {X : Type 0} (p q : X → Bool) (xs : List X) → ((x : X) → In x xs → p x ≡ q x) → filter p xs ≡ filter q xs
kept_same p q [] h = refl
kept_same p q (x ∷ xs) h = ap₂ (λ b ys. cond b (x ∷ ys) ys) (h x (inl refl)) (kept_same p q xs (λ y k. h y (inr k)))

same_tests : (a b : Bool) → (a ≡ true → b ≡ true) → (b ≡ true → a ≡ true) → a ≡ b
same_tests true b h k = sym (h refl)
same_tests false true h k = k refl
same_tests false false h k = refl

-- the cheapest are those that cost the least
cheapest_often : (cost : Path → ℕ) (ps : List Path) → length (cheapest_of cost ps) ≡ how_often (unwrap_or (least (map cost ps)) inf) (map cost ps)
cheapest_often cost ps = go (least (map cost ps)) (least_is (map cost ps))
  where
    test : (m : ℕ) → IsLeast (map cost ps) (Some m) → (p : Path) → In p ps → at_most_each (cost p) (map cost ps) ≡ eqb (cost p) m
    test m h p k = same_tests (at_most_each (cost p) (map cost ps)) (eqb (cost p) m)
        (λ e.
        let a : cost p ≤ m = at_most_says (cost p) (map cost ps) e m h.0 in
        let b : m ≤ cost p = h.1 (cost p) (in_map cost p ps k) in
        eq-eqb (cost p) m (omega arith))
        (λ e.
        let f : cost p ≡ m = eqb-true (cost p) m e in
        at_most_from (cost p) (map cost ps) (λ b i. let a : m ≤ b = h.1 b i in omega arith))

    go : (o : Option ℕ) → IsLeast (map cost ps) o → length (cheapest_of cost ps) ≡ how_often (unwrap_or o inf) (map cost ps)
    go (Some m) h = ap length (kept_same (λ p. at_most_each (cost p) (map cost ps)) (λ p. eqb (cost p) m) ps (test m h)) ∙ sym (length_kept_map (λ c. eqb c m) cost ps)
    go None h = ap length (kept_same (λ p. at_most_each (cost p) (map cost ps)) (λ p. eqb (cost p) inf) ps (λ p k. absurd (h (cost p) (in_map cost p ps k)))) ∙ sym (length_kept_map (λ c. eqb c inf) cost ps)

pub cheapest_with_count_says : CheapestWithCountSays
unfolding path_sum
cheapest_with_count_says d cost start end xs =
    let ps = admissible_paths d start end (length xs) in
    total_by_cost cheapest_with_count (λ c. cost_count c 1) refl tied_more d cost xs ps
    ∙ tied_costs (map (path_cost d cost xs) ps)
    ∙ ap (cost_count (unwrap_or (least (map (path_cost d cost xs) ps)) inf)) (sym (cheapest_often (path_cost d cost xs) ps))

-- ---- by the first path

-- what is least of two, where one is at most the other, if there is another
two_first : (cs : List ℕ) → (two_smallest cs).first ≡ min (unwrap_or (least cs) inf) inf
two_first [] = refl
two_first (c ∷ cs) = ap (min c) (two_first cs) ∙ go (least cs)
  where
    go : (o : Option ℕ) → min c (min (unwrap_or o inf) inf) ≡ min (lesser c o) inf
    go None = omega arith
    go (Some b) = omega arith

-- the second of a pair is the larger, if it is below INF
pair_second : (c b : ℕ) → (c ≤ b) ⊎ (b ≡ inf) → (pair c b).second ≡ min b inf
pair_second c b (inl l) = omega arith
pair_second c b (inr l) = omega arith

two_joined : (c b : ℕ) (w : TwoCosts) → w.first ≡ min b inf → (c ≤ b) ⊎ (b ≡ inf) → with_cost c w ≡ pair c b
two_joined c b w e h = same_two (ap (min c) e) (seconds h ∙ sym (pair_second c b h))
  where
    seconds : (c ≤ b) ⊎ (b ≡ inf) → min (max c w.first) w.second ≡ min b inf
    seconds (inl l) = omega arith
    seconds (inr l) = omega arith

module _ (d : Diagram) (lawful : Lawful d) (cost : ℤ → ℤ → ℕ) (start end : Option ℕ) (xs : List ℤ) (p : Path) (f : First d cost start end xs p) where
  -- no admissible path costs less than the first
  first_low : (q : Path) → In q (admissible_paths d start end (length xs)) → path_cost d cost xs p ≤ path_cost d cost xs q
  first_low q h = elim (cases_Bool (same_path p q)) [
    | inl e ↦ let s = ap (path_cost d cost xs) (same_path_says p q e) in omega arith
    | inr e ↦ elim (f.ahead q ((admissible_listed d lawful start end (length xs)).only q h) (λ s. both_ways (same_path p q) e (ap (same_path p) (sym s) ∙ same_path_self p))) [ inl l ↦ omega arith | inr l ↦ omega (arith, l.0) ]
  ]

  pub first_least : least (all_costs d cost start end xs) ≡ Some (path_cost d cost xs p)
  first_least =
      let ps = admissible_paths d start end (length xs) in
      least_from (map (path_cost d cost xs) ps) (path_cost d cost xs p) (in_map (path_cost d cost xs) p ps ((admissible_listed d lawful start end (length xs)).each p f.path))
      (λ c h. let r = from_map (path_cost d cost xs) c ps h in let l : path_cost d cost xs p ≤ path_cost d cost xs r.0 = first_low r.0 r.1 in let e = r.2 in omega arith)

  others_low : (path_cost d cost xs p ≤ unwrap_or (second d cost start end xs p) inf) ⊎ (unwrap_or (second d cost start end xs p) inf ≡ inf)
  others_low = go (second d cost start end xs p) (second_found d lawful cost start end xs p)
    where
      go : (o : Option ℕ) → IsSecond d cost start end xs p o → (path_cost d cost xs p ≤ unwrap_or o inf) ⊎ (unwrap_or o inf ≡ inf)
      go None h = inr refl
      go (Some c) h =
          let q = h.0.0 in
          let l : path_cost d cost xs p ≤ path_cost d cost xs q = first_low q ((admissible_listed d lawful start end (length xs)).each q h.0.1) in
          let e = h.0.3 in
          inl (omega arith)

  first_tied : path_sum d cost cheapest_with_count start end xs ≡ cost_count (path_cost d cost xs p) (ties d cost start end xs)
  first_tied = cheapest_with_count_says d cost start end xs ∙ ap (λ o. cost_count (unwrap_or o inf) (ties d cost start end xs)) first_least

  first_two : path_sum d cost two_cheapest start end xs ≡ pair (path_cost d cost xs p) (unwrap_or (second d cost start end xs p) inf)
  unfolding path_sum
  first_two =
      let ps = admissible_paths d start end (length xs) in
      let listed = admissible_listed d lawful start end (length xs) in
      let rest = map (path_cost d cost xs) (others p ps) in
      total_others two_cheapest two_laws (path_weight d cost two_cheapest xs) p ps listed.once (listed.each p f.path)
      ∙ ap₂ two_cheapest.plus (weight_by_cost two_cheapest (λ c. pair c inf) refl two_more d cost xs p) (total_by_cost two_cheapest (λ c. pair c inf) refl two_more d cost xs (others p ps) ∙ two_costs rest)
      ∙ two_with (path_cost d cost xs p) (two_smallest rest)
      ∙ two_joined (path_cost d cost xs p) (unwrap_or (least rest) inf) (two_smallest rest) (two_first rest) others_low

pub first_says : FirstSays
first_says d lawful cost start end xs p f = record { tied = first_tied d lawful cost start end xs p f; two = first_two d lawful cost start end xs p f }

pub first_says_below_inf : FirstSaysBelowInf
first_says_below_inf d lawful cost start end xs p f l =
    record {
      tied_cost = ap (λ w. w.cost) (first_tied d lawful cost start end xs p f) ∙ below;
      tied_count = ap (λ w. w.count) (first_tied d lawful cost start end xs p f) ∙ count_low (path_cost d cost xs p) (ties d cost start end xs) l;
      first_cost = ap (λ w. w.first) (first_two d lawful cost start end xs p f) ∙ least_of_two (others_low d lawful cost start end xs p f);
      second_cost = ap (λ w. w.second) (first_two d lawful cost start end xs p f) ∙ pair_second (path_cost d cost xs p) (unwrap_or (second d cost start end xs p) inf) (others_low d lawful cost start end xs p f);
    }
  where
    least_of_two : {b : ℕ} → (path_cost d cost xs p ≤ b) ⊎ (b ≡ inf) → min (path_cost d cost xs p) (min b inf) ≡ path_cost d cost xs p
    least_of_two (inl h) = omega arith
    least_of_two (inr h) = omega arith

    below : min (path_cost d cost xs p) inf ≡ path_cost d cost xs p
    below = omega arith

-- ---- how much a path can cost

-- against no samples nothing costs
against_none : (cost : ℤ → ℤ → ℕ) (ls : List ℤ) → costs_against cost ls [] ≡ []
against_none cost [] = refl
against_none cost (l ∷ ls) = refl

module _ (d : Diagram) (lawful : Lawful d) (cost : ℤ → ℤ → ℕ) (low : (label sample : ℤ) → InRange label → InRange sample → cost label sample ≤ most_cost) where
  bounded_from : (xs : List ℤ) → AllByRecursion InRange xs → (s : ℕ) (w : List ℕ) → sum (costs_against cost (labels d s w) xs) ≤ length xs * most_cost
  bounded_from xs all s [] = omega arith
  bounded_from [] all s (a ∷ w) = let e = ap sum (against_none cost (labels d s (a ∷ w))) in omega arith
  bounded_from (x ∷ xs) all s (a ∷ w) =
      (elim (d.branch s a) as (λ b. StaysIn d.states b → sum (costs_against cost (along b [] (λ t l. l ∷ labels d t w)) (x ∷ xs)) ≤ suc (length xs) * most_cost) [
        | None ↦ λ h. omega arith
        | Some b ↦ λ h.
            let here : cost b.1 x ≤ most_cost = low b.1 x h.1 all.0 in
            let rest = bounded_from xs all.1 b.0 w in
            let e = sum_by-cons (λ c. c) (cost b.1 x) (costs_against cost (labels d b.0 w) xs) in
            omega arith
      ]) (lawful.stays s a)

pub costs_bounded : CostsBounded
costs_bounded d lawful cost low xs all p h = bounded_from d lawful cost low xs all p.first p.letters
