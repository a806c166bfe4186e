-- Ranks over all samples and over all permitted ends.
use Rattle.std.proofs.Common.{◌≡◌, ℕ, ◌+◌, ◌-◌, ◌*◌, ◌%◌, ◌^◌, ◌<◌, ◌≤◌, min, true, false, cond, List, [], ◌∷◌, ◌++◌, length, map, get_or, take, drop, replicate, ℤ, pos, negsuc, Some, None, Option, unwrap_or, sym, refl, ap, ◌∙◌, subst, ap₂, inl, inr, ltb, mod-eq_of_lt, arith, length-take, le-ltb, lt-ltb, w16, SFits}
use Rattle.std.proofs.lemmas.List.{take_more, get_or-map, length-map, get_or_past, get_or-drop, get_or-replicate, length-drop, length-replicate, ext_get_or}
use Rattle.std.proofs.lemmas.List.FromFn.{get_or-map-range_with_len, length-map-range_with_len}
use Rattle.std.proofs.lemmas.Int.{ints}
use Rattle.std.proofs.lemmas.Bool.{cases_lt}
use Rattle.std.specs.List.{AllByRecursion, range_with_len}
use Rattle.model.specs.Ranges.{InRange, most_cost}
use Rattle.model.specs.Trellises.{Diagram, Lawful}
use Rattle.algebras.specs.Numbers.{inf}
use Rattle.algebras.specs.Semirings.{Semiring, Laws}
use Rattle.algebras.specs.CostCounts.{cheapest_with_count}
use Rattle.algebras.specs.CostCountLaws.{cost_count_laws}
use Rattle.algebras.specs.TwoLaws.{two_laws}
use Rattle.algebras.specs.TwoCosts.{two_cheapest}
use Rattle.paths.specs.Paths.{Path, permits, path_cost}
use Rattle.paths.specs.Sums.{path_sum}
use Rattle.paths.specs.Cheapest.{ties, second}
use Rattle.paths.specs.Laws.{First, IsSecond}
use Rattle.paths.specs.Branches.{branches_of}
use Rattle.paths.specs.Recursion.{after, opened}
use Rattle.paths.proofs.Totals.{plus_zero, total_more, total_below}
use Rattle.paths.proofs.Branching.{all_bring}
use Rattle.paths.proofs.Running.{stepped_same}
use Rattle.paths.proofs.Summing.{answer, entry, after_push}
use Rattle.paths.proofs.Reading.{count_low}
use Rattle.paths.proofs.Firsts.{second_found}
use Rattle.paths.proofs.Sayings.{first_says_below_inf, costs_bounded}
use Rattle.survivors.specs.declared.rank.Rank.{Rank}
use Rattle.survivors.specs.Choices.{Costs, CostsOf}
use Rattle.survivors.specs.Survivors.{best}
use Rattle.survivors.specs.Reaches.{unreached, as_cost, reached_at, KeptNumbers}
use Rattle.survivors.specs.Ranks.{widened, tied, two, nowhere, Sound, past, costs_in, Brought, Advanced, opening_rank, opening_below, ClearPast, Summed, Ranked, gathered}
use Rattle.survivors.proofs.Rowing.{as_below, as_above, kept_best}
use Rattle.survivors.proofs.Tabling.{costed_none, costed_more}
use Rattle.survivors.proofs.Ranking.{wide_low, wide_high, two_second, sounds_more, sound_nowhere, cost_at, opening_reached}

-- ---- over the samples

module _ {W : Type 0} (r : Semiring W) (laws : Laws r) (g : Rank → W) (cost : ℤ → ℤ → ℕ) (d : Diagram) (lawful : Lawful d) where
  summed_none : (start : Option ℕ) (row : List Rank) → ((k : ℕ) → k < d.states → get_or row k past ≡ opening_rank start k) → ((k : ℕ) → g (opening_rank start k) ≡ opened r start k) → Summed r g d cost start [] row
  summed_none start row begins opens s l = ap g (begins s l) ∙ opens s ∙ sym (entry d cost r laws lawful start s [] l)

  summed_more : (start : Option ℕ) (xs : List ℤ) (x : ℤ) (row next : List Rank) → Summed r g d cost start xs row → Brought r g cost x row (branches_of d) next → Summed r g d cost start (xs ++ x ∷ []) next
  summed_more start xs x row next old new s l =
      new s (omega (arith, lawful.few_states)) ∙ all_bring r laws cost d x (λ t. g (get_or row t past)) s
      ∙ stepped_same r laws cost d lawful x (λ t. g (get_or row t past)) (after d cost r (opened r start) xs) (λ t m. old t m ∙ entry d cost r laws lawful start t xs m) s
      ∙ sym (entry d cost r laws lawful start s (xs ++ x ∷ []) l ∙ ap (λ h. h s) (after_push d cost r laws (opened r start) xs x))

  -- one sample more, of any row before the first
  pub rank_more : (f : ℕ → W) (xs : List ℤ) (k : ℕ) (row next : List Rank) → k < length xs →
      ((s : ℕ) → s < d.states → g (get_or row s past) ≡ after d cost r f (take k xs) s) → Brought r g cost (get_or xs k (pos 0)) row (branches_of d) next →
      (s : ℕ) → s < d.states → g (get_or next s past) ≡ after d cost r f (take (k + 1) xs) s
  rank_more f xs k row next lt old new s l =
      let x = get_or xs k (pos 0) in
      new s (omega (arith, lawful.few_states)) ∙ all_bring r laws cost d x (λ t. g (get_or row t past)) s
      ∙ stepped_same r laws cost d lawful x (λ t. g (get_or row t past)) (after d cost r f (take k xs)) old s
      ∙ sym (ap (λ h. h s) (ap (after d cost r f) (take_more xs k (pos 0) lt) ∙ after_push d cost r laws f (take k xs) x))

  -- over the permitted ends
  pub gathered_sum : (start end : Option ℕ) (xs : List ℤ) (row : List Rank) (n : ℕ) → n ≡ d.states → Summed r g d cost start xs row → gathered r g end row n ≡ path_sum d cost r start end xs
  gathered_sum start end xs row n e sums =
      ap (gathered r g end row) e
      ∙ total_below r laws (λ s. cond (permits end s) (g (get_or row s past)) r.zero) (λ s. cond (permits end s) (after d cost r (opened r start) xs s) r.zero) d.states
      (λ s l. ap (λ y. cond (permits end s) y r.zero) (sums s l ∙ entry d cost r laws lawful start s xs l))
      ∙ sym (answer d cost r laws lawful start end xs)

pub opening_tied : (start : Option ℕ) (k : ℕ) → tied (opening_rank start k) ≡ opened cheapest_with_count start k
opening_tied start k = elim (permits start k) as (λ b. tied (cond b (record { cost = 0; count = 1; second = unreached; spare = 0 }) (record { cost = unreached; count = 0; second = unreached; spare = 0 })) ≡ cond b cheapest_with_count.one cheapest_with_count.zero) [ true ↦ refl | false ↦ refl ]

pub opening_two : (start : Option ℕ) (k : ℕ) → two (opening_rank start k) ≡ opened two_cheapest start k
opening_two start k = elim (permits start k) as (λ b. two (cond b (record { cost = 0; count = 1; second = unreached; spare = 0 }) (record { cost = unreached; count = 0; second = unreached; spare = 0 })) ≡ cond b two_cheapest.one two_cheapest.zero) [ true ↦ refl | false ↦ refl ]

opening_sound : (start : Option ℕ) (k : ℕ) → Sound 0 (opening_rank start k)
opening_sound start k = elim (permits start k) as (λ b. Sound 0 (cond b (record { cost = 0; count = 1; second = unreached; spare = 0 }) nowhere)) [
  | true ↦ record { sorted = omega arith; capped = omega arith; low_cost = λ l. omega arith; low_second = λ l. absurd (omega arith) }
  | false ↦ sound_nowhere 0
]

module _ (d : Diagram) (lawful : Lawful d) (cost : ℤ → ℤ → ℕ) (start : Option ℕ) where
  -- the row that a start opens, with no path past the states
  module _ (n : ℕ) (all : n ≡ d.states) (row : List Rank) (e : row ≡ map (opening_below n start) (range_with_len 0 64)) where
    opened_at : (k : ℕ) → k < 64 → get_or row k past ≡ opening_below n start k
    opened_at k l = ap (λ z. get_or z k past) e ∙ get_or-map-range_with_len (opening_below n start) 0 64 k k past l (omega arith)

    opened_long : length row ≡ 64
    opened_long = ap length e ∙ length-map-range_with_len (opening_below n start) 0 64

    at_state : (k : ℕ) → k < d.states → get_or row k past ≡ opening_rank start k
    at_state k l = opened_at k (omega (arith, lawful.few_states)) ∙ ap (λ b. cond b (opening_rank start k) nowhere) (lt-ltb k n (omega arith))

    past_state : (k : ℕ) → d.states ≤ k → k < 64 → get_or row k past ≡ nowhere
    past_state k h l = opened_at k l ∙ ap (λ b. cond b (opening_rank start k) nowhere) (le-ltb k n (omega arith))

    pub ranked_none : Ranked d cost start [] row
    ranked_none = record {
      costs = costed_none d cost start (costs_in row) (λ k l. opening_reached start row k opened_long (omega (arith, lawful.few_states)) (at_state k l));
      tied = summed_none cheapest_with_count cost_count_laws tied cost d lawful start row at_state (opening_tied start);
      two = summed_none two_cheapest two_laws two cost d lawful start row at_state (opening_two start);
      sounds = λ k l. elim (cases_lt k d.states) [
        | inl m ↦ subst (Sound 0) (sym (at_state k m)) (opening_sound start k)
        | inr m ↦ subst (Sound 0) (sym (past_state k m l)) (sound_nowhere 0)
      ];
    }

    pub clear_past : ClearPast n row
    clear_past = ext_get_or past (drop n row) (replicate (64 - n) nowhere) (length-drop n row ∙ (let z : length row - n ≡ 64 - n = omega (arith, opened_long) in z) ∙ sym (length-replicate (64 - n) nowhere))
        (λ k l.
        let m : k < 64 - n = omega (arith, length-drop n row, opened_long) in
        get_or-drop n row k past ∙ past_state (n + k) (omega arith) (omega arith) ∙ sym (get_or-replicate (64 - n) k nowhere past m))

  module _ (xs : List ℤ) (k : ℕ) (lt : k < length xs) (row next : List Rank) (bytes : List ℕ) (step : Advanced cost (get_or xs k (pos 0)) row (branches_of d) next bytes) where
    pub kept_step : KeptNumbers 64 (best d cost (get_or xs k (pos 0)) (reached_at (costs_in row))) (costs_in next) bytes
    kept_step = kept_best d lawful cost (get_or xs k (pos 0)) (costs_in row) (costs_in next) bytes 64 (branches_of d) refl step.kept

    pub ranked_more : Ranked d cost start (take k xs) row → Ranked d cost start (take (k + 1) xs) next
    ranked_more old =
        let x = get_or xs k (pos 0) in
        let more : take k xs ++ x ∷ [] ≡ take (k + 1) xs = sym (take_more xs k (pos 0) lt) in
        record {
          costs = costed_more d lawful cost start xs k lt (costs_in row) (costs_in next) bytes old.costs kept_step;
          tied = subst (λ ys. Summed cheapest_with_count tied d cost start ys next) more (summed_more cheapest_with_count cost_count_laws tied cost d lawful start (take k xs) x row next old.tied step.tied);
          two = subst (λ ys. Summed two_cheapest two d cost start ys next) more (summed_more two_cheapest two_laws two cost d lawful start (take k xs) x row next old.two step.two);
          sounds = sounds_more (length (take k xs) * most_cost + most_cost) (length (take (k + 1) xs) * most_cost) next (simp length-take (omega arith)) (step.sounds (length (take k xs) * most_cost) old.sounds);
        }

  -- the costs of a row, as the code answers them
  pub costs_of : (xs : List ℤ) (row : List Rank) (costs : List (Option ℕ)) → length row ≡ 64 → Ranked d cost start xs row → costs ≡ map (λ a. as_cost a.cost) row → CostsOf d cost start xs costs
  costs_of xs row costs len of e = record {
    size = ap length e ∙ simp length-map len;
    costs = λ s l.
        let m : s < length row = omega (arith, lawful.few_states) in
        subst (Costs d cost start xs s) (sym (ap (λ z. get_or z s None) e ∙ get_or-map (λ a. as_cost a.cost) row s past None m ∙ sym (ap as_cost (cost_at row s m)))) (of.costs s l);
  }

  -- and nothing for what is no state
  pub none_past : (row : List Rank) (costs : List (Option ℕ)) → length row ≡ 64 → ClearPast d.states row → costs ≡ map (λ a. as_cost a.cost) row → (s : ℕ) → d.states ≤ s → get_or costs s None ≡ None
  none_past row costs len clear e s h = elim (cases_lt s 64) [
    | inl l ↦
        let n = d.states in
        let here : get_or row s past ≡ nowhere = sym (get_or-drop n row (s - n) past ∙ ap (λ k. get_or row k past) (let z : n + (s - n) ≡ s = omega arith in z)) ∙ ap (λ z. get_or z (s - n) past) clear ∙ get_or-replicate (64 - n) (s - n) nowhere past (omega arith) in
        ap (λ z. get_or z s None) e ∙ get_or-map (λ a. as_cost a.cost) row s past None (omega arith) ∙ ap (λ a. as_cost a.cost) here ∙ as_above unreached (omega arith)
    | inr m ↦ get_or_past costs s None (omega (arith, ap length e, length-map row (λ a. as_cost a.cost), len))
  ]

-- ---- over the permitted ends, one state more

module _ {W : Type 0} (r : Semiring W) (laws : Laws r) (g : Rank → W) (end : Option ℕ) (row : List Rank) (s : ℕ) (all : Rank) (old : g all ≡ gathered r g end row s) where
  pub gather_taken : (more : Rank) → permits end s ≡ true → r.weight 0 ≡ r.one → g more ≡ r.plus (g all) (r.times (g (get_or row s past)) (r.weight 0)) → g more ≡ gathered r g end row (s + 1)
  gather_taken more p one e =
      e ∙ ap (λ v. r.plus (g all) (r.times (g (get_or row s past)) v)) one ∙ ap (r.plus (g all)) (laws.times_one (g (get_or row s past)))
      ∙ ap₂ r.plus old (sym (ap (λ b. cond b (g (get_or row s past)) r.zero) p))
      ∙ sym (total_more r laws (λ t. cond (permits end t) (g (get_or row t past)) r.zero) s)

  pub gather_left : permits end s ≡ false → g all ≡ gathered r g end row (s + 1)
  gather_left p =
      old ∙ sym (plus_zero r laws (gathered r g end row s))
      ∙ ap (r.plus (gathered r g end row s)) (sym (ap (λ b. cond b (g (get_or row s past)) r.zero) p))
      ∙ sym (total_more r laws (λ t. cond (permits end t) (g (get_or row t past)) r.zero) s)

-- ---- what it says of the first path

pub in_range_of : (z : ℤ) → SFits w16 z → InRange z
in_range_of (pos n) f = let h = f.sfits in (omega (arith, ints), omega (arith, ints))
in_range_of (negsuc n) f = let h = f.sfits in (omega (arith, ints), omega (arith, ints))

module _ (d : Diagram) (lawful : Lawful d) (cost : ℤ → ℤ → ℕ) (bounded : (label sample : ℤ) → InRange label → InRange sample → cost label sample ≤ most_cost) (start end : Option ℕ) (xs : List ℤ) (few : length xs ≤ 512) (range : AllByRecursion InRange xs)
    (a : Rank) (sorted : a.cost ≤ a.second) (fits : a.count < 2 ^ 64) (is_Tied : tied a ≡ path_sum d cost cheapest_with_count start end xs) (is-two : two a ≡ path_sum d cost two_cheapest start end xs)
    (p : Path) (f : First d cost start end xs p) where
  low : path_cost d cost xs p < inf
  low = let h = costs_bounded d lawful cost bounded xs range p f.path.path in omega arith

  reached_one : a.cost < unreached
  reached_one =
      let e : min (widened a.cost) inf ≡ path_cost d cost xs p = ap (λ w. w.cost) is_Tied ∙ (first_says_below_inf d lawful cost start end xs p f low).tied_cost in
      let l = low in
      elim (cases_lt a.cost unreached) [ inl m ↦ m | inr m ↦ absurd (let h = wide_high a.cost m in omega arith) ]

  pub ties_are : a.count ≡ ties d cost start end xs % 2 ^ 64
  ties_are =
      sym (mod-eq_of_lt fits)
      ∙ sym (count_low (widened a.cost) a.count (let h = wide_low a.cost reached_one in let l = reached_one in omega arith))
      ∙ ap (λ w. w.count) is_Tied ∙ (first_says_below_inf d lawful cost start end xs p f low).tied_count

  pub second_is : as_cost a.second ≡ second d cost start end xs p
  second_is = go (second d cost start end xs p) (second_found d lawful cost start end xs p)
      (sym (two_second a sorted) ∙ ap (λ w. w.second) is-two ∙ (first_says_below_inf d lawful cost start end xs p f low).second_cost)
    where
      go : (o : Option ℕ) → IsSecond d cost start end xs p o → widened a.second ≡ min (unwrap_or o inf) inf → as_cost a.second ≡ o
      go None h e = elim (cases_lt a.second unreached) [ inl m ↦ absurd (let w = wide_low a.second m in omega arith) | inr m ↦ as_above a.second m ]
      go (Some v) h e =
          let b = costs_bounded d lawful cost bounded xs range h.0.0 h.0.1.path in
          let c = h.0.3 in
          elim (cases_lt a.second unreached) [
            | inl m ↦ as_below a.second m ∙ ap Some (let w = wide_low a.second m in let z : a.second ≡ v = omega arith in z)
            | inr m ↦ absurd (let w = wide_high a.second m in omega arith)
          ]
