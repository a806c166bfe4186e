-- What the sums say in the five algebras.
use Rattle.std.proofs.Common.{◌≡◌, ℕ, suc, ◌+◌, ◌*◌, ◌%◌, ◌^◌, ◌<◌, ◌≤◌, min, true, cond, eqb, ltb, ◌⊎◌, List, [], ◌∷◌, length, Some, None, fold, Option, unwrap_or, sym, refl, ap, ◌∙◌, ap₂, inl, inr, add-zero, zero-add, one-add, arith, le-ltb, lt-ltb, eq-eqb, ne_eqb}
use native.Mathlib.Nat.{mod-mod, mod-add-mod, add-mod-mod}
use Rattle.std.proofs.lemmas.Bool.{cases_lt, cases_order}
use Rattle.algebras.specs.declared.weights.TwoCosts.{TwoCosts}
use Rattle.algebras.specs.Numbers.{inf, capped_sum, count_sum, count_product, count_at}
use Rattle.algebras.specs.Semirings.{Semiring}
use Rattle.algebras.specs.Booleans.{boolean}
use Rattle.algebras.specs.Counts.{count_of, counting}
use Rattle.algebras.specs.Costs.{cost_of, cheapest}
use Rattle.algebras.specs.CostCounts.{cost_count, cheapest_with_count}
use Rattle.algebras.specs.TwoCosts.{pair, with_cost, two_smallest, two_cheapest}
use Rattle.algebras.specs.CountLaws.{same_count}
use Rattle.algebras.specs.CostLaws.{same_cost}
use Rattle.algebras.specs.CostCountLaws.{same_cost_count, cost_count_laws}
use Rattle.algebras.specs.TwoLaws.{same_two, sum_is, product_is}
use Rattle.paths.specs.Paths.{product}
use Rattle.paths.specs.Sums.{total}
use Rattle.paths.specs.Cheapest.{lesser, least}
use Rattle.paths.proofs.Totals.{plus_zero}

-- ---- the weight of a path by its cost

module _ {W : Type 0} (r : Semiring W) (g : ℕ → W) (more : (a b : ℕ) → r.times (g a) (r.weight b) ≡ g (a + b)) where
  pub product_by_cost : (a : ℕ) (cs : List ℕ) → product r (g a) cs ≡ g (fold (λ b c. b + c) a cs)
  product_by_cost a [] = refl
  product_by_cost a (c ∷ cs) = ap (λ v. product r v cs) (more a c) ∙ product_by_cost (a + c) cs

-- ---- boolean

pub some_paths : (cs : List ℕ) → total boolean (λ c. true) cs ≡ ltb 0 (length cs)
some_paths [] = refl
some_paths (c ∷ cs) = sym (lt-ltb 0 (suc (length cs)) (omega arith))

-- ---- counting

pub count_more : (a b : ℕ) → counting.times (count_of 1) (count_of 1) ≡ count_of 1
count_more a b = same_count refl

count_suc : (n : ℕ) → counting.plus (count_of 1) (count_of n) ≡ count_of (suc n)
count_suc n = same_count (simp (mod-mod, mod-add-mod, add-mod-mod) (ap (λ m. m % 2 ^ 64) (one-add n)))

pub counted_paths : (cs : List ℕ) → total counting (λ c. count_of 1) cs ≡ count_of (length cs)
counted_paths [] = refl
counted_paths (c ∷ cs) = ap (counting.plus (count_of 1)) (counted_paths cs) ∙ count_suc (length cs)

-- ---- cheapest

pub cost_more : (a b : ℕ) → cheapest.times (cost_of a) (cost_of b) ≡ cost_of (a + b)
cost_more a b = same_cost (omega arith)

cost_lesser : (c : ℕ) (o : Option ℕ) → cheapest.plus (cost_of c) (cost_of (unwrap_or o inf)) ≡ cost_of (lesser c o)
cost_lesser c None = same_cost (omega arith)
cost_lesser c (Some b) = same_cost (omega arith)

pub least_cost : (cs : List ℕ) → total cheapest cost_of cs ≡ cost_of (unwrap_or (least cs) inf)
least_cost [] = refl
least_cost (c ∷ cs) = ap (cheapest.plus (cost_of c)) (least_cost cs) ∙ cost_lesser c (least cs)

-- ---- two cheapest

-- one cost, and no second
single : ℕ → TwoCosts
single c = record { first = min c inf; second = inf; fits = omega arith; sorted = omega arith }

as_single : (c : ℕ) → pair c inf ≡ single c
unfolding single
as_single c = same_two (omega arith) (omega arith)

pub two_more : (a b : ℕ) → two_cheapest.times (pair a inf) (pair b inf) ≡ pair (a + b) inf
unfolding single
two_more a b = ap₂ two_cheapest.times (as_single a) (as_single b) ∙ product_is (single a) (single b) ∙ same_two (omega arith) (omega arith) ∙ sym (as_single (a + b))

pub two_with : (c : ℕ) (w : TwoCosts) → two_cheapest.plus (pair c inf) w ≡ with_cost c w
unfolding single
two_with c w = ap (λ x. two_cheapest.plus x w) (as_single c) ∙ sum_is (single c) w ∙ same_two (omega arith) (omega arith)

pub two_costs : (cs : List ℕ) → total two_cheapest (λ c. pair c inf) cs ≡ two_smallest cs
two_costs [] = same_two refl refl
two_costs (c ∷ cs) = ap (two_cheapest.plus (pair c inf)) (two_costs cs) ∙ two_with c (two_smallest cs)

-- ---- cheapest with count

-- the count of a cost below INF, and of one that is not
pub count_low : (c n : ℕ) → c < inf → count_at c n ≡ n % 2 ^ 64
count_low c n h = ap (λ b. cond b (n % 2 ^ 64) 0) (lt-ltb c inf h)

pub count_high : (c n : ℕ) → inf ≤ c → count_at c n ≡ 0
count_high c n h = ap (λ b. cond b (n % 2 ^ 64) 0) (le-ltb c inf h)

pub at_high : (c n : ℕ) → inf ≤ c → cost_count c n ≡ cheapest_with_count.zero
at_high c n h = same_cost_count (omega arith) (count_high c n h)

pub tied_more : (a b : ℕ) → cheapest_with_count.times (cost_count a 1) (cost_count b 1) ≡ cost_count (a + b) 1
tied_more a b = same_cost_count (omega arith) (elim (cases_lt (a + b) inf) [
  | inl h ↦
      let la : a < inf = omega arith in
      let lb : b < inf = omega arith in
      count_low (capped_sum (min a inf) (min b inf)) (count_product (count_at a 1) (count_at b 1)) (omega arith)
      ∙ ap₂ (λ m n. m * n % 2 ^ 64 % 2 ^ 64) (count_low a 1 la) (count_low b 1 lb)
      ∙ sym (count_low (a + b) 1 h)
  | inr h ↦ count_high (capped_sum (min a inf) (min b inf)) (count_product (count_at a 1) (count_at b 1)) (omega arith) ∙ sym (count_high (a + b) 1 h)
])

-- n where c is m, else 0
abbrev pub where_same : ℕ → ℕ → ℕ → ℕ
where_same c m n = cond (eqb c m) n 0

pub at_same : (c m n : ℕ) → c ≡ m → where_same c m n ≡ n
at_same c m n e = ap (λ b. cond b n 0) (eq-eqb c m e)

pub at_other : (c m n : ℕ) → (c ≡ m → ⊥) → where_same c m n ≡ 0
at_other c m n e = ap (λ b. cond b n 0) (ne_eqb c m e)

-- two costs with their counts: the lesser cost, with the counts of those that have it
abbrev pub both_counts : ℕ → ℕ → ℕ → ℕ → ℕ
both_counts c m a b = where_same c (min c m) a + where_same m (min c m) b

pub counts_less : (c m a b : ℕ) → c < m → both_counts c m a b ≡ a
counts_less c m a b h = ap₂ (λ x y. x + y) (at_same c (min c m) a (omega arith)) (at_other m (min c m) b (λ e. omega arith)) ∙ add-zero a

pub counts_more : (c m a b : ℕ) → m < c → both_counts c m a b ≡ b
counts_more c m a b h = ap₂ (λ x y. x + y) (at_other c (min c m) a (λ e. omega arith)) (at_same m (min c m) b (omega arith)) ∙ zero-add b

pub counts_same : (c m a b : ℕ) → c ≡ m → both_counts c m a b ≡ a + b
counts_same c m a b e = ap₂ (λ x y. x + y) (at_same c (min c m) a (omega arith)) (at_same m (min c m) b (omega arith))

pub tied_plus : (c m a b : ℕ) → cheapest_with_count.plus (cost_count c a) (cost_count m b) ≡ cost_count (min c m) (both_counts c m a b)
tied_plus c m a b = go (cases_lt c inf) (cases_lt m inf) (cases_order c m)
  where
    go : (c < inf) ⊎ (inf ≤ c) → (m < inf) ⊎ (inf ≤ m) → (c ≡ m) ⊎ ((c < m) ⊎ (m < c)) → cheapest_with_count.plus (cost_count c a) (cost_count m b) ≡ cost_count (min c m) (both_counts c m a b)
    go (inr h) (inr k) o =
        ap₂ cheapest_with_count.plus (at_high c a h) (at_high m b k) ∙ cost_count_laws.zero_plus cheapest_with_count.zero ∙ sym (at_high (min c m) (both_counts c m a b) (omega arith))
    go (inr h) (inl k) o =
        let l : m < c = omega arith in
        let e : min c m ≡ m = omega arith in
        ap (λ x. cheapest_with_count.plus x (cost_count m b)) (at_high c a h) ∙ cost_count_laws.zero_plus (cost_count m b) ∙ sym (ap₂ cost_count e (counts_more c m a b l))
    go (inl h) (inr k) o =
        let l : c < m = omega arith in
        let e : min c m ≡ c = omega arith in
        ap (cheapest_with_count.plus (cost_count c a)) (at_high m b k) ∙ plus_zero cheapest_with_count cost_count_laws (cost_count c a) ∙ sym (ap₂ cost_count e (counts_less c m a b l))
    go (inl h) (inl k) (inl s) =
        let e : min c m ≡ c = omega arith in
        ap (λ t. cond t (cost_count c a) (cond (ltb (min m inf) (min c inf)) (cost_count m b) (cost_count (min c inf) (count_sum (count_at c a) (count_at m b))))) (le-ltb (min c inf) (min m inf) (omega arith))
        ∙ ap (λ t. cond t (cost_count m b) (cost_count (min c inf) (count_sum (count_at c a) (count_at m b)))) (le-ltb (min m inf) (min c inf) (omega arith))
        ∙ same_cost_count (omega arith)
        (count_low (min c inf) (count_sum (count_at c a) (count_at m b)) (omega arith)
        ∙ ap₂ (λ x y. (x + y) % 2 ^ 64 % 2 ^ 64) (count_low c a h) (count_low m b k)
        ∙ wrapped
        ∙ sym (count_low c (a + b) h))
        ∙ sym (ap₂ cost_count e (counts_same c m a b s))
      where
        wrapped : (a % 2 ^ 64 + b % 2 ^ 64) % 2 ^ 64 % 2 ^ 64 ≡ (a + b) % 2 ^ 64
        wrapped = simp (mod-mod, mod-add-mod, add-mod-mod)
    go (inl h) (inl k) (inr (inl l)) =
        let e : min c m ≡ c = omega arith in
        ap (λ t. cond t (cost_count c a) (cond (ltb (min m inf) (min c inf)) (cost_count m b) (cost_count (min c inf) (count_sum (count_at c a) (count_at m b))))) (lt-ltb (min c inf) (min m inf) (omega arith))
        ∙ sym (ap₂ cost_count e (counts_less c m a b l))
    go (inl h) (inl k) (inr (inr l)) =
        let e : min c m ≡ m = omega arith in
        ap (λ t. cond t (cost_count c a) (cond (ltb (min m inf) (min c inf)) (cost_count m b) (cost_count (min c inf) (count_sum (count_at c a) (count_at m b))))) (le-ltb (min c inf) (min m inf) (omega arith))
        ∙ ap (λ t. cond t (cost_count m b) (cost_count (min c inf) (count_sum (count_at c a) (count_at m b)))) (lt-ltb (min m inf) (min c inf) (omega arith))
        ∙ sym (ap₂ cost_count e (counts_more c m a b l))
