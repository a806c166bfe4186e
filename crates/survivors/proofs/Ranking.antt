-- Ranks as weights of the two pair algebras.
use Rattle.std.proofs.Common.{◌≡◌, ℕ, ◌+◌, ◌*◌, ◌%◌, ◌^◌, ◌<◌, ◌≤◌, min, max, Bool, true, false, cond, eqb, ltb, ◌⊎◌, List, [], ◌∷◌, ◌++◌, length, get_or, take, set, replicate, ℤ, Some, None, Option, sym, refl, ap, ◌∙◌, subst, ap₂, inl, inr, add-zero, zero-add, mul-one, arith, get_or-set_other, get_or-set_same, le-ltb, lt-ltb, eqb-true}
use lib.Seq.{set-get_or}
use native.Mathlib.Nat.{mod-mod}
use borrow.Author.Tests.{eqb-false}
use Rattle.std.proofs.lemmas.List.{take_more, get_or-map, get_or-replicate, map-set, length-map}
use Rattle.std.proofs.lemmas.Bool.{cases_lt, cases_order}
use Rattle.algebras.specs.declared.weights.TwoCosts.{TwoCosts}
use Rattle.algebras.specs.Numbers.{inf, capped_sum, count_product, count_at}
use Rattle.algebras.specs.Semirings.{Semiring, Laws}
use Rattle.algebras.specs.CostCounts.{cost_count, cheapest_with_count}
use Rattle.algebras.specs.TwoCosts.{two_cheapest}
use Rattle.algebras.specs.CostCountLaws.{same_cost_count, cost_count_laws}
use Rattle.algebras.specs.TwoLaws.{same_two, plain_product, paired, sum_is, product_is, two_laws}
use Rattle.paths.specs.declared.branch.ListedBranch.{ListedBranch}
use Rattle.paths.specs.Paths.{permits}
use Rattle.paths.specs.Sums.{total}
use Rattle.paths.specs.FlatRecursion.{branch_brings}
use Rattle.paths.proofs.Totals.{plus_zero, total_push}
use Rattle.paths.proofs.Reading.{count_low, count_high, at_high, both_counts, counts_less, counts_more, counts_same, tied_plus}
use Rattle.survivors.specs.declared.rank.Rank.{Rank}
use Rattle.model.specs.Ranges.{most_cost}
use Rattle.paths.specs.Branches.{Within}
use Rattle.survivors.specs.Survivors.{pick, offered_by, best_of, opening}
use Rattle.survivors.specs.Reaches.{unreached, as_cost, reached_at, KeptNumbers, Capped}
use Rattle.survivors.proofs.Rowing.{kept_branch, kept_none, kept_same, best_more}
use Rattle.survivors.specs.Rows.{Zeros}
use Rattle.survivors.specs.Ranks.{widened, tied, two, nowhere, joined_rank, Sound, past, Sounds, costs_in, Brought, Advanced, opening_rank}

-- ---- the number for no cost

pub wide_low : (v : ℕ) → v < unreached → widened v ≡ v
wide_low v h = ap (λ b. cond b v inf) (lt-ltb v unreached h)

pub wide_high : (v : ℕ) → unreached ≤ v → widened v ≡ inf
wide_high v h = ap (λ b. cond b v inf) (le-ltb v unreached h)

wide_fits : (v : ℕ) → widened v ≤ inf
wide_fits v = elim (cases_lt v unreached) [ inl l ↦ let e = wide_low v l in omega arith | inr l ↦ let e = wide_high v l in omega arith ]

wide_min : (a b : ℕ) → widened (min a b) ≡ min (widened a) (widened b)
wide_min a b = go (cases_lt a unreached) (cases_lt b unreached)
  where
    go : (a < unreached) ⊎ (unreached ≤ a) → (b < unreached) ⊎ (unreached ≤ b) → widened (min a b) ≡ min (widened a) (widened b)
    go (inl l) (inl m) = wide_low (min a b) (omega arith) ∙ sym (ap₂ min (wide_low a l) (wide_low b m))
    go (inl l) (inr m) = wide_low (min a b) (omega arith) ∙ (let e : min a b ≡ min a inf = omega arith in e) ∙ sym (ap₂ min (wide_low a l) (wide_high b m))
    go (inr l) (inl m) = wide_low (min a b) (omega arith) ∙ (let e : min a b ≡ min inf b = omega arith in e) ∙ sym (ap₂ min (wide_high a l) (wide_low b m))
    go (inr l) (inr m) = wide_high (min a b) (omega arith) ∙ sym (ap₂ min (wide_high a l) (wide_high b m))

wide_max : (a b : ℕ) → widened (max a b) ≡ max (widened a) (widened b)
wide_max a b = go (cases_lt a unreached) (cases_lt b unreached)
  where
    go : (a < unreached) ⊎ (unreached ≤ a) → (b < unreached) ⊎ (unreached ≤ b) → widened (max a b) ≡ max (widened a) (widened b)
    go (inl l) (inl m) = wide_low (max a b) (omega arith) ∙ sym (ap₂ max (wide_low a l) (wide_low b m))
    go (inl l) (inr m) = wide_high (max a b) (omega arith) ∙ (let e : inf ≡ max a inf = omega arith in e) ∙ sym (ap₂ max (wide_low a l) (wide_high b m))
    go (inr l) (inl m) = wide_high (max a b) (omega arith) ∙ (let e : inf ≡ max inf b = omega arith in e) ∙ sym (ap₂ max (wide_high a l) (wide_low b m))
    go (inr l) (inr m) = wide_high (max a b) (omega arith) ∙ sym (ap₂ max (wide_high a l) (wide_high b m))

wide_plus : (u w : ℕ) → (u < unreached → u + w < unreached) → widened (u + w) ≡ min (widened u + w) inf
wide_plus u w room = elim (cases_lt u unreached) [
  | inl l ↦ let k : u + w < unreached = room l in wide_low (u + w) k ∙ (let e : u + w ≡ min (u + w) inf = omega arith in e) ∙ sym (ap (λ v. min (v + w) inf) (wide_low u l))
  | inr l ↦ wide_high (u + w) (omega arith) ∙ (let e : inf ≡ min (inf + w) inf = omega arith in e) ∙ sym (ap (λ v. min (v + w) inf) (wide_high u l))
]

wide_order : (a b : ℕ) → a ≤ b → widened a ≤ widened b
wide_order a b h = go (cases_lt a unreached) (cases_lt b unreached)
  where
    go : (a < unreached) ⊎ (unreached ≤ a) → (b < unreached) ⊎ (unreached ≤ b) → widened a ≤ widened b
    go (inl l) (inl m) = let e = wide_low a l in let f = wide_low b m in omega arith
    go (inl l) (inr m) = let e = wide_low a l in let f = wide_high b m in omega arith
    go (inr l) (inl m) = absurd (omega arith)
    go (inr l) (inr m) = let e = wide_high a l in let f = wide_high b m in omega arith

pub two_second : (c : Rank) → c.cost ≤ c.second → (two c).second ≡ widened c.second
two_second c s = ap (λ v. v.second) (paired (widened c.cost) (widened c.second) (wide_order c.cost c.second s) (wide_fits c.second))

module _ (a b : Rank) (w : ℕ) (small : w ≤ inf) (sa : a.cost ≤ a.second) (sb : b.cost ≤ b.second)
    (room : b.cost < unreached → b.cost + w < unreached) (room₂ : b.second < unreached → b.second + w < unreached) where
  -- ---- the two least costs

  plain : (c : Rank) → c.cost ≤ c.second → TwoCosts
  plain c s = record { first = widened c.cost; second = widened c.second; fits = wide_fits c.second; sorted = wide_order c.cost c.second s }

  as_plain : (c : Rank) (s : c.cost ≤ c.second) → two c ≡ plain c s
  unfolding plain
  as_plain c s = paired (widened c.cost) (widened c.second) (wide_order c.cost c.second s) (wide_fits c.second)

  single : TwoCosts
  single = record { first = w; second = inf; fits = omega arith; sorted = small }

  far_sum : (x y : ℕ) → min y inf ≡ min (min (x + inf) y) inf
  far_sum x y = omega arith

  pub two_joined : two (joined_rank a b w) ≡ two_cheapest.plus (two a) (two_cheapest.times (two b) (two_cheapest.weight w))
  unfolding plain single
  two_joined =
      as_plain (joined_rank a b w) (omega arith)
      ∙ same_two
      (wide_min a.cost (b.cost + w) ∙ ap (min (widened a.cost)) (wide_plus b.cost w room))
      (wide_min (max a.cost (b.cost + w)) (min a.second (b.second + w))
      ∙ ap₂ min (wide_max a.cost (b.cost + w) ∙ ap (max (widened a.cost)) (wide_plus b.cost w room))
      (wide_min a.second (b.second + w) ∙ ap (min (widened a.second)) (wide_plus b.second w room₂ ∙ far_sum (widened b.cost) (widened b.second + w))))
      ∙ sym (
      ap₂ two_cheapest.plus (as_plain a sa) (ap₂ two_cheapest.times (as_plain b sb) (paired w inf small (omega arith)) ∙ product_is (plain b sb) single)
      ∙ sum_is (plain a sa) (plain_product (plain b sb) single))

  -- ---- the least cost and how many cost that

  abbrev k : ℕ
  k = b.cost + w

  times_count : (c n : ℕ) → cheapest_with_count.times (cost_count c n) (cost_count w 1) ≡ cost_count (c + w) n
  times_count c n = same_cost_count (omega arith) (elim (cases_lt (c + w) inf) [
    | inl h ↦
        let lc : c < inf = omega arith in
        let lw : w < inf = omega arith in
        count_low (capped_sum (min c inf) (min w inf)) (count_product (count_at c n) (count_at w 1)) (omega arith)
        ∙ ap₂ (λ i j. i * j % 2 ^ 64 % 2 ^ 64) (count_low c n lc) (count_low w 1 lw)
        ∙ (let z : n % 2 ^ 64 * 1 % 2 ^ 64 % 2 ^ 64 ≡ n % 2 ^ 64 = simp (mul-one, mod-mod) in z)
        ∙ sym (count_low (c + w) n h)
    | inr h ↦ count_high (capped_sum (min c inf) (min w inf)) (count_product (count_at c n) (count_at w 1)) (omega arith) ∙ sym (count_high (c + w) n h)
  ])

  wide_count : (n : ℕ) → cost_count (widened b.cost + w) n ≡ cost_count (widened k) n
  wide_count n = elim (cases_lt b.cost unreached) [
    | inl l ↦ ap (λ v. cost_count v n) (ap (λ v. v + w) (wide_low b.cost l) ∙ sym (wide_low k (room l)))
    | inr l ↦ at_high (widened b.cost + w) n (let e = wide_high b.cost l in omega arith) ∙ sym (at_high (widened k) n (let e = wide_high k (omega arith) in omega arith))
  ]

  count_wrapped : (m n : ℕ) → cost_count m (n % 2 ^ 64) ≡ cost_count m n
  count_wrapped m n = same_cost_count refl (elim (cases_lt m inf) [
    | inl h ↦ count_low m (n % 2 ^ 64) h ∙ (let z : n % 2 ^ 64 % 2 ^ 64 ≡ n % 2 ^ 64 = simp mod-mod in z) ∙ sym (count_low m n h)
    | inr h ↦ count_high m (n % 2 ^ 64) h ∙ sym (count_high m n h)
  ])

  abbrev counts : ℕ
  counts = cond (ltb k a.cost) 0 a.count + cond (ltb a.cost k) 0 b.count

  counted : (a.cost ≡ k) ⊎ ((a.cost < k) ⊎ (k < a.cost)) → min a.cost k < unreached → counts ≡ both_counts (widened a.cost) (widened k) a.count b.count
  counted (inl e) l =
      ap₂ (λ p q. cond p 0 a.count + cond q 0 b.count) (le-ltb k a.cost (omega arith)) (le-ltb a.cost k (omega arith))
      ∙ sym (counts_same (widened a.cost) (widened k) a.count b.count (ap widened e))
  counted (inr (inl m)) l =
      let la : a.cost < unreached = omega arith in
      ap₂ (λ p q. cond p 0 a.count + cond q 0 b.count) (le-ltb k a.cost (omega arith)) (lt-ltb a.cost k m) ∙ add-zero a.count
      ∙ sym (counts_less (widened a.cost) (widened k) a.count b.count (less la))
    where
      less : a.cost < unreached → widened a.cost < widened k
      less la = elim (cases_lt k unreached) [
        | inl lk ↦ let e = wide_low a.cost la in let f = wide_low k lk in omega arith
        | inr lk ↦ let e = wide_low a.cost la in let f = wide_high k lk in omega arith
      ]
  counted (inr (inr m)) l =
      let lk : k < unreached = omega arith in
      ap₂ (λ p q. cond p 0 a.count + cond q 0 b.count) (lt-ltb k a.cost m) (le-ltb a.cost k (omega arith)) ∙ zero-add b.count
      ∙ sym (counts_more (widened a.cost) (widened k) a.count b.count (less lk))
    where
      less : k < unreached → widened k < widened a.cost
      less lk = elim (cases_lt a.cost unreached) [
        | inl la ↦ let e = wide_low a.cost la in let f = wide_low k lk in omega arith
        | inr la ↦ let e = wide_high a.cost la in let f = wide_low k lk in omega arith
      ]

  pub tied_joined : tied (joined_rank a b w) ≡ cheapest_with_count.plus (tied a) (cheapest_with_count.times (tied b) (cheapest_with_count.weight w))
  tied_joined =
      count_wrapped (widened (min a.cost k)) counts
      ∙ elim (cases_lt (min a.cost k) unreached) [
        | inl l ↦ ap₂ cost_count (wide_min a.cost k) (counted (cases_order a.cost k) l)
        | inr l ↦ at_high (widened (min a.cost k)) counts (let e = wide_high (min a.cost k) l in omega arith)
            ∙ sym (at_high (min (widened a.cost) (widened k)) (both_counts (widened a.cost) (widened k) a.count b.count) (let e = wide_high (min a.cost k) l in let f = wide_min a.cost k in omega arith))
      ]
      ∙ sym (tied_plus (widened a.cost) (widened k) a.count b.count)
      ∙ ap (cheapest_with_count.plus (tied a)) (sym (times_count (widened b.cost) b.count ∙ wide_count b.count))

-- ---- in order, and low

pub sound_joined : (a b : Rank) (w c e : ℕ) → Sound e b → Sound c a → e + w ≤ c → Sound c (joined_rank a b w)
sound_joined a b w c e sb sa h =
    let ca = sa.sorted in
    let cb = sb.sorted in
    let fa = sa.capped in
    record {
      sorted = omega arith;
      capped = omega arith;
      low_cost = λ l. elim (cases_lt a.cost unreached) [
        | inl m ↦ let p = sa.low_cost m in omega arith
        | inr m ↦ let q = sb.low_cost (omega arith) in omega arith
      ];
      low_second = λ l. elim (cases_lt a.second unreached) [
        | inl m ↦ let p = sa.low_second m in omega arith
        | inr m ↦ elim (cases_lt (b.second + w) unreached) [
          | inl n ↦ let q = sb.low_second (omega arith) in omega arith
          | inr n ↦ let p = sa.low_cost (omega arith) in let q = sb.low_cost (omega arith) in omega arith
        ]
      ];
    }

-- ---- one branch more

module _ {W : Type 0} (r : Semiring W) (laws : Laws r) (g : Rank → W) (cost : ℤ → ℤ → ℕ) (x : ℤ) (from row : List Rank) (bs : List ListedBranch) (i : ℕ) (b : ListedBranch) (lt : i < length bs) (e : b ≡ get_or bs i b) (inside : b.next < length row)
    (more : g (joined_rank (get_or row b.next past) (get_or from b.from past) (cost b.label x)) ≡ r.plus (g (get_or row b.next past)) (r.times (g (get_or from b.from past)) (r.weight (cost b.label x)))) where
  abbrev t : ℕ
  t = b.next

  abbrev v : W
  v = r.times (g (get_or from b.from past)) (r.weight (cost b.label x))

  abbrev new : Rank
  new = joined_rank (get_or row t past) (get_or from b.from past) (cost b.label x)

  pub brought_branch : Brought r g cost x from (take i bs) row → Brought r g cost x from (take (i + 1) bs) (set row t new)
  brought_branch old j l =
      go (eqb j t) refl
      ∙ sym (total_push r laws f (take i bs) b)
      ∙ ap (total r f) (sym (take_more bs i b lt ∙ ap (λ z. take i bs ++ (z ∷ [])) (sym e)))
    where
      f : ListedBranch → W
      f = branch_brings cost r x (λ s. g (get_or from s past)) j

      go : (q : Bool) → eqb j t ≡ q → g (get_or (set row t new) j past) ≡ r.plus (total r f (take i bs)) (f b)
      go true p =
          let z : j ≡ t = eqb-true j t p in
          ap (λ y. g (get_or (set row t new) y past)) z ∙ ap g (get_or-set_same row t new past inside) ∙ more
          ∙ ap (λ y. r.plus (g (get_or row y past)) v) (sym z)
          ∙ ap₂ r.plus (old j l) (sym (ap (λ q. cond q v r.zero) p))
      go false p =
          ap g (get_or-set_other row t j new past (eqb-false j t p)) ∙ old j l
          ∙ sym (plus_zero r laws (total r f (take i bs)))
          ∙ ap (r.plus (total r f (take i bs))) (sym (ap (λ q. cond q v r.zero) p))

sound_more : (c e : ℕ) (a : Rank) → c ≤ e → Sound c a → Sound e a
sound_more c e a h s = record { sorted = s.sorted; capped = s.capped; low_cost = λ l. let p = s.low_cost l in omega arith; low_second = λ l. let p = s.low_second l in omega arith }

pub sounds_more : (c e : ℕ) (row : List Rank) → c ≤ e → Sounds c row → Sounds e row
sounds_more c e row h s k l = sound_more c e (get_or row k past) h (s k l)

pub sound_nowhere : (c : ℕ) → Sound c nowhere
sound_nowhere c = record { sorted = omega arith; capped = omega arith; low_cost = λ l. absurd (omega arith); low_second = λ l. absurd (omega arith) }

lesser_is : (k v : ℕ) → cond (ltb k v) k v ≡ min v k
lesser_is k v = elim (cases_lt k v) [
  | inl l ↦ ap (λ b. cond b k v) (lt-ltb k v l) ∙ (let e : k ≡ min v k = omega arith in e)
  | inr l ↦ ap (λ b. cond b k v) (le-ltb k v l) ∙ (let e : v ≡ min v k = omega arith in e)
]

pub cost_at : (row : List Rank) (i : ℕ) → i < length row → get_or (costs_in row) i 0 ≡ (get_or row i past).cost
cost_at row i h = get_or-map (λ a. a.cost) row i past 0 h

module _ (cost : ℤ → ℤ → ℕ) (x : ℤ) (from row : List Rank) (bytes : List ℕ) (b : ListedBranch) (inside : Within 64 64 b) (lf : length from ≡ 64) (lr : length row ≡ 64) (lb : 64 ≤ length bytes)
    (small : cost b.label x ≤ most_cost) (sf : Sounds (2 ^ 61) from) (sr : Sounds (2 ^ 62) row) where
  abbrev f : Rank
  f = get_or from b.from past

  abbrev h : Rank
  h = get_or row b.next past

  abbrev w : ℕ
  w = cost b.label x

  abbrev into : List Rank
  into = set row b.next (joined_rank h f w)

  room : f.cost < unreached → f.cost + w < unreached
  room l = let p = (sf b.from inside.0).low_cost l in omega arith

  room₂ : f.second < unreached → f.second + w < unreached
  room₂ l = let p = (sf b.from inside.0).low_second l in omega arith

  eu : get_or (costs_in from) b.from 0 ≡ f.cost
  eu = cost_at from b.from (omega (arith, inside.0))

  ev : get_or (costs_in row) b.next 0 ≡ h.cost
  ev = cost_at row b.next (omega (arith, inside.1))

  cap : Capped 64 (costs_in row)
  cap k l = let e : get_or (costs_in row) k 0 ≡ (get_or row k past).cost = cost_at row k (omega arith) in let s = (sr k l).sorted in let c = (sr k l).capped in omega arith

  pub kept_rank : (g : ℕ → Option (ℕ × ℕ)) → KeptNumbers 64 g (costs_in row) bytes →
      KeptNumbers 64 (λ k. pick (g k) b.byte (offered_by cost x (reached_at (costs_in from)) k b)) (costs_in into) (set bytes b.next (cond (ltb (f.cost + w) h.cost) b.byte (get_or bytes b.next 0)))
  kept_rank g kept =
      let so_far : ℕ → Option (ℕ × ℕ) = λ k. pick (g k) b.byte (offered_by cost x (reached_at (costs_in from)) k b) in
      let put : ℕ → ℕ → List ℕ = λ u v. set bytes b.next (cond (ltb (u + w) v) b.byte (get_or bytes b.next 0)) in
      let k = kept_branch cost x (costs_in from) 64 b (costs_in row) bytes inside.1 (simp length-map (omega arith)) lb cap (λ l. let p = room (omega (arith, eu)) in omega (arith, eu)) g kept in
      subst (KeptNumbers 64 so_far (costs_in into)) (ap₂ put eu ev)
      (subst (λ z. KeptNumbers 64 so_far z (put (get_or (costs_in from) b.from 0) (get_or (costs_in row) b.next 0)))
      (ap (set (costs_in row) b.next) (ap₂ (λ u v. cond (ltb (u + w) v) (u + w) v) eu ev ∙ lesser_is (f.cost + w) h.cost) ∙ sym (map-set (λ a. a.cost) row b.next (joined_rank h f w)))
      k)

  pub sounds_branch : (c : ℕ) → Sounds c from → Sounds (c + most_cost) row → Sounds (c + most_cost) into
  sounds_branch c p q k l = go (eqb k b.next) refl
    where
      new : Sound (c + most_cost) (joined_rank h f w)
      new = sound_joined h f w (c + most_cost) c (p b.from inside.0) (q b.next inside.1) (omega arith)

      go : (s : Bool) → eqb k b.next ≡ s → Sound (c + most_cost) (get_or into k past)
      go true e = subst (Sound (c + most_cost)) (sym (ap (λ j. get_or into j past) (eqb-true k b.next e) ∙ get_or-set_same row b.next (joined_rank h f w) past (omega (arith, inside.1)))) new
      go false e = subst (Sound (c + most_cost)) (sym (get_or-set_other row b.next k (joined_rank h f w) past (eqb-false k b.next e))) (q k l)

  module _ (bs : List ListedBranch) (i : ℕ) (lt : i < length bs) (e : b ≡ get_or bs i b) where
    pub tied_branch : Brought cheapest_with_count tied cost x from (take i bs) row → Brought cheapest_with_count tied cost x from (take (i + 1) bs) into
    tied_branch = brought_branch cheapest_with_count cost_count_laws tied cost x from row bs i b lt e (omega (arith, inside.1))
        (tied_joined h f w (omega arith) (sr b.next inside.1).sorted (sf b.from inside.0).sorted room room₂)

    pub two_branch : Brought two_cheapest two cost x from (take i bs) row → Brought two_cheapest two cost x from (take (i + 1) bs) into
    two_branch = brought_branch two_cheapest two_laws two cost x from row bs i b lt e (omega (arith, inside.1))
        (two_joined h f w (omega arith) (sr b.next inside.1).sorted (sf b.from inside.0).sorted room room₂)

-- before any branch
pub brought_none : {W : Type 0} (r : Semiring W) (g : Rank → W) → g nowhere ≡ r.zero → (cost : ℤ → ℤ → ℕ) (x : ℤ) (from row : List Rank) → ((k : ℕ) → k < 64 → get_or row k past ≡ nowhere) → Brought r g cost x from [] row
brought_none r g e cost x from row clear t l = ap g (clear t l) ∙ e

pub clear_costs : (row : List Rank) → length row ≡ 64 → ((k : ℕ) → k < 64 → get_or row k past ≡ nowhere) → (k : ℕ) → k < 64 → get_or (costs_in row) k 0 ≡ unreached
clear_costs row lr clear k l = cost_at row k (omega arith) ∙ ap (λ a. a.cost) (clear k l)

pub advanced_none : (cost : ℤ → ℤ → ℕ) (x : ℤ) (from row : List Rank) (bytes : List ℕ) → length row ≡ 64 → row ≡ replicate 64 nowhere → Zeros bytes → Advanced cost x from [] row bytes
advanced_none cost x from row bytes lr e zeros =
    let clear : (k : ℕ) → k < 64 → get_or row k past ≡ nowhere = λ k l. ap (λ z. get_or z k past) e ∙ get_or-replicate 64 k nowhere past l in
    record {
      kept = kept_none cost x (costs_in from) (costs_in row) bytes 64 (clear_costs row lr clear) zeros;
      tied = brought_none cheapest_with_count tied refl cost x from row clear;
      two = brought_none two_cheapest two refl cost x from row clear;
      sounds = λ c s k l. subst (Sound (c + most_cost)) (sym (clear k l)) (sound_nowhere (c + most_cost));
    }

-- one branch more of a list
pub advanced_more : (cost : ℤ → ℤ → ℕ) (x : ℤ) (from row row' : List Rank) (bytes bytes' : List ℕ) (bs : List ListedBranch) (i : ℕ) (b : ListedBranch) → i < length bs → b ≡ get_or bs i b → Within 64 64 b →
    length from ≡ 64 → length row ≡ 64 → 64 ≤ length bytes → cost b.label x ≤ most_cost → Sounds (2 ^ 61) from → Advanced cost x from (take i bs) row bytes →
    row' ≡ set row b.next (joined_rank (get_or row b.next past) (get_or from b.from past) (cost b.label x)) →
    bytes' ≡ cond (ltb ((get_or from b.from past).cost + cost b.label x) (get_or row b.next past).cost) (set bytes b.next b.byte) bytes →
    Advanced cost x from (take (i + 1) bs) row' bytes'
advanced_more cost x from row row' bytes bytes' bs i b lt here inside lf lr lb small sf old er eb =
    let sr : Sounds (2 ^ 62) row = sounds_more (2 ^ 61 + most_cost) (2 ^ 62) row (omega arith) (old.sounds (2 ^ 61) sf) in
    let at = reached_at (costs_in from) in
    let so_far : ℕ → Option (ℕ × ℕ) = λ k. pick (best_of cost x at (take i bs) k) b.byte (offered_by cost x at k b) in
    let more : (k : ℕ) → so_far k ≡ best_of cost x at (take (i + 1) bs) k =
    λ k. ap (λ z. pick (best_of cost x at (take i bs) k) z.byte (offered_by cost x at k z)) here ∙ best_more cost x at bs i b lt k in
    let byte : set bytes b.next (cond (ltb ((get_or from b.from past).cost + cost b.label x) (get_or row b.next past).cost) b.byte (get_or bytes b.next 0)) ≡ bytes' =
    elim (ltb ((get_or from b.from past).cost + cost b.label x) (get_or row b.next past).cost) as (λ q. set bytes b.next (cond q b.byte (get_or bytes b.next 0)) ≡ cond q (set bytes b.next b.byte) bytes) [
      | true ↦ refl
      | false ↦ set-get_or bytes b.next 0
    ] ∙ sym eb in
    subst (λ z. Advanced cost x from (take (i + 1) bs) z bytes') (sym er) (record {
      kept = kept_same 64 so_far (best_of cost x at (take (i + 1) bs)) _ bytes' more
          (subst (KeptNumbers 64 so_far _) byte (kept_rank cost x from row bytes b inside lf lr lb small sf sr (best_of cost x at (take i bs)) old.kept));
      tied = tied_branch cost x from row bytes b inside lf lr lb small sf sr bs i lt here old.tied;
      two = two_branch cost x from row bytes b inside lf lr lb small sf sr bs i lt here old.two;
      sounds = λ c lo. sounds_branch cost x from row bytes b inside lf lr lb small sf sr c lo (old.sounds c lo);
    })

pub opening_reached : (start : Option ℕ) (row : List Rank) (k : ℕ) → length row ≡ 64 → k < 64 → get_or row k past ≡ opening_rank start k → reached_at (costs_in row) k ≡ opening start k
opening_reached start row k lr l e =
    ap as_cost (cost_at row k (omega arith) ∙ ap (λ a. a.cost) e)
    ∙ elim (permits start k) as (λ b. as_cost (cond b (record { cost = 0; count = 1; second = unreached; spare = 0 }) nowhere).cost ≡ cond b (Some 0) None) [ true ↦ refl | false ↦ refl ]
