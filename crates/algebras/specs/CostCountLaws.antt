-- The laws of cheapest with count, by a plainer sum and product.
use Rattle.std.specs.Prelude.{◌≡◌, refl, Bool, true, false, cond, ℕ, ◌+◌, ◌*◌, ◌%◌, ◌^◌, ◌<◌, ◌≤◌, min, eqb, ltb}
use Rattle.std.proofs.Common.{sym, ap, ap₂, ◌∙◌, subst, mul-add, mul_assoc, mul_comm, add_assoc, add_comm, mod-eq_of_lt, one-mul, mul-zero, zero-add, add-zero, arith, eqb-true, eq-eqb, ne_eqb, ltb-true, ltb-false, lt-ltb, le-ltb}
use mathlib.Core.HLevel.{is_prop→PathP, Π_prop}
use Rattle.std.proofs.Math.Bridge.{le_prop}
use Rattle.std.proofs.Math.Nat.{ℕ_set, mod-mod, mod-add-mod, add-mod-mod}
use Rattle.std.proofs.lemmas.Bool.{eqb-false}
use Rattle.algebras.specs.declared.weights.CostCount.{CostCount}
use Rattle.algebras.specs.Invariants.{wrapped_fits}
use Rattle.algebras.specs.Numbers.{inf, count_sum, count_at}
use Rattle.algebras.specs.Semirings.{Semiring, Laws}
use Rattle.algebras.specs.CostCounts.{cost_count, cheaper, cheapest_with_count}
use Rattle.algebras.specs.Wrapping.{mod_mul_mod, mul_mod_mod}

pub same_cost_count : {x y : CostCount} → x.cost ≡ y.cost → x.count ≡ y.count → x ≡ y
same_cost_count {x} {y} p q = λ i. record {
  cost = p i;
  count = q i;
  small = is_prop→PathP (λ j. p j ≤ inf) (λ j. le_prop) x.small y.small i;
  fits = is_prop→PathP (λ j. q j < 2 ^ 64) (λ j. le_prop) x.fits y.fits i;
  none = is_prop→PathP (λ j. p j ≡ inf → q j ≡ 0) (λ j. Π_prop (λ e. ℕ_set (q j) 0)) x.none y.none i;
}

-- ---- the plainer sum and product

-- how many of the paths of x cost m
abbrev part : CostCount → ℕ → ℕ
part x m = cond (eqb x.cost m) x.count 0

-- how many of the paths of x and y cost m
abbrev both : CostCount → CostCount → ℕ → ℕ
both x y m = count_sum (part x m) (part y m)

part_at : (x : CostCount) (m : ℕ) → x.cost ≡ m → part x m ≡ x.count
part_at x m e = ap (λ b. cond b x.count 0) (eq-eqb x.cost m e)

part_off : (x : CostCount) (m : ℕ) → (x.cost ≡ m → ⊥) → part x m ≡ 0
part_off x m e = ap (λ b. cond b x.count 0) (ne_eqb x.cost m e)

part_none : (x : CostCount) → part x inf ≡ 0
part_none x = by (eqb x.cost inf) refl
  where
    by : (b : Bool) → eqb x.cost inf ≡ b → cond b x.count 0 ≡ 0
    by true e = x.none (eqb-true x.cost inf e)
    by false e = refl

both_none : (x y : CostCount) (m : ℕ) → m ≡ inf → both x y m ≡ 0
both_none x y m e = ap (both x y) e ∙ ap₂ count_sum (part_none x) (part_none y)

abbrev plain_sum : CostCount → CostCount → CostCount
plain_sum x y = record {
  cost = min x.cost y.cost;
  count = both x y (min x.cost y.cost);
  small = omega arith;
  fits = wrapped_fits (part x (min x.cost y.cost) + part y (min x.cost y.cost));
  none = both_none x y (min x.cost y.cost);
}

abbrev plain_product : CostCount → CostCount → CostCount
plain_product x y = cost_count (x.cost + y.cost) (x.count * y.count)

abbrev plain : Semiring CostCount
plain = record { zero = cost_count inf 0; one = cost_count 0 1; plus = plain_sum; times = plain_product; weight = λ c. cost_count c 1 }

-- wrapped and capped once is enough
once : (c n : ℕ) → cost_count (min c inf) (n % 2 ^ 64) ≡ cost_count c n
once c n = same_cost_count (omega arith) (by (ltb c inf) refl)
  where
    by : (b : Bool) → ltb c inf ≡ b → count_at (min c inf) (n % 2 ^ 64) ≡ count_at c n
    by true l =
        let lt : c < inf = ltb-true c inf l in
        ap (λ b. cond b (n % 2 ^ 64 % 2 ^ 64) 0) (lt-ltb (min c inf) inf (omega arith)) ∙ mod-mod n (2 ^ 64) ∙ sym (ap (λ b. cond b (n % 2 ^ 64) 0) l)
    by false l =
        let le : inf ≤ c = ltb-false c inf l in
        ap (λ b. cond b (n % 2 ^ 64 % 2 ^ 64) 0) (le-ltb (min c inf) inf (omega arith)) ∙ sym (ap (λ b. cond b (n % 2 ^ 64) 0) l)

product_is : (x y : CostCount) → cheapest_with_count.times x y ≡ plain_product x y
product_is x y = once (x.cost + y.cost) (x.count * y.count)

plus_comm : (x y : CostCount) → plain_sum x y ≡ plain_sum y x
plus_comm x y =
    let e : min x.cost y.cost ≡ min y.cost x.cost = omega arith in
    same_cost_count e (ap (both x y) e ∙ ap (λ j. j % 2 ^ 64) (add_comm (part x (min y.cost x.cost)) (part y (min y.cost x.cost))))

-- where one costs less, it is the sum
less : (x y : CostCount) → x.cost < y.cost → x ≡ plain_sum x y
less x y h =
    let e : min x.cost y.cost ≡ x.cost = omega arith in
    same_cost_count (sym e)
    (sym (ap (both x y) e ∙ ap₂ count_sum (part_at x x.cost refl) (part_off y x.cost (λ q. omega arith)) ∙ ap (λ j. j % 2 ^ 64) (add-zero x.count) ∙ mod-eq_of_lt x.fits))

-- where they cost the same, the counts add, and a cost of INF has none to add
alike : (x y : CostCount) → x.cost ≡ y.cost → cost_count x.cost (count_sum x.count y.count) ≡ plain_sum x y
alike x y e = same_cost_count (omega arith) (counts ∙ sym (ap (both x y) (let w : min x.cost y.cost ≡ x.cost = omega arith in w) ∙ ap₂ count_sum (part_at x x.cost refl) (part_at y x.cost (sym e))))
  where
    counts : count_at x.cost (count_sum x.count y.count) ≡ count_sum x.count y.count
    counts = by (ltb x.cost inf) refl
      where
        by : (b : Bool) → ltb x.cost inf ≡ b → cond b (count_sum x.count y.count % 2 ^ 64) 0 ≡ count_sum x.count y.count
        by true l = mod-mod (x.count + y.count) (2 ^ 64)
        by false l =
            let le : inf ≤ x.cost = ltb-false x.cost inf l in
            let at : x.cost ≡ inf = omega arith in
            sym (ap₂ count_sum (x.none at) (y.none (sym e ∙ at)))

sum_is : (x y : CostCount) → cheaper x y ≡ plain_sum x y
sum_is x y = by (ltb x.cost y.cost) refl (ltb y.cost x.cost) refl
  where
    by : (b : Bool) → ltb x.cost y.cost ≡ b → (d : Bool) → ltb y.cost x.cost ≡ d → cond b x (cond d y (cost_count x.cost (count_sum x.count y.count))) ≡ plain_sum x y
    by true l d k = less x y (ltb-true x.cost y.cost l)
    by false l true k = less y x (ltb-true y.cost x.cost k) ∙ plus_comm y x
    by false l false k =
        let le : y.cost ≤ x.cost = ltb-false x.cost y.cost l in
        let ge : x.cost ≤ y.cost = ltb-false y.cost x.cost k in
        alike x y (omega arith)

-- ---- the laws

-- the part of a sum, at a cost that neither goes below
part_sum : (x y : CostCount) (m : ℕ) → m ≤ x.cost → m ≤ y.cost → part (plain_sum x y) m ≡ both x y m
part_sum x y m h k = by (eqb (min x.cost y.cost) m) refl
  where
    by : (b : Bool) → eqb (min x.cost y.cost) m ≡ b → cond b (both x y (min x.cost y.cost)) 0 ≡ both x y m
    by true e = ap (both x y) (eqb-true (min x.cost y.cost) m e)
    by false e =
        let ne : min x.cost y.cost ≡ m → ⊥ = eqb-false (min x.cost y.cost) m e in
        sym (ap₂ count_sum (part_off x m (λ q. ne (omega arith))) (part_off y m (λ q. ne (omega arith))))

-- the part of a product, at the cost of the product with the cheapest
part_product : (x y : CostCount) (m : ℕ) → m ≤ y.cost → part (plain_product x y) (min (x.cost + m) inf) ≡ count_at (x.cost + m) (x.count * part y m)
part_product x y m h = by (ltb (x.cost + m) inf) refl (eqb y.cost m) refl
  where
    by : (b : Bool) → ltb (x.cost + m) inf ≡ b → (d : Bool) → eqb y.cost m ≡ d → part (plain_product x y) (min (x.cost + m) inf) ≡ cond b (x.count * cond d y.count 0 % 2 ^ 64) 0
    by false l d e =
        let le : inf ≤ x.cost + m = ltb-false (x.cost + m) inf l in
        ap (part (plain_product x y)) (let w : min (x.cost + m) inf ≡ inf = omega arith in w) ∙ part_none (plain_product x y)
    by true l true e =
        let s : y.cost ≡ m = eqb-true y.cost m e in
        part_at (plain_product x y) (min (x.cost + m) inf) (omega arith) ∙ ap (λ b. cond b (x.count * y.count % 2 ^ 64) 0) (ap (λ j. ltb (x.cost + j) inf) s ∙ l)
    by true l false e =
        let ne : y.cost ≡ m → ⊥ = eqb-false y.cost m e in
        let lt : x.cost + m < inf = ltb-true (x.cost + m) inf l in
        part_off (plain_product x y) (min (x.cost + m) inf) (λ q. ne (omega arith)) ∙ sym (ap (λ j. j % 2 ^ 64) (mul-zero x.count))

times_comm : (x y : CostCount) → plain_product x y ≡ plain_product y x
times_comm x y = ap₂ cost_count (add_comm x.cost y.cost) (mul_comm x.count y.count)

plus_assoc_count : (x y z : CostCount) → (plain_sum (plain_sum x y) z).count ≡ (plain_sum x (plain_sum y z)).count
plus_assoc_count x y z =
    let m : ℕ = min (min x.cost y.cost) z.cost in
    let e : min x.cost (min y.cost z.cost) ≡ min (min x.cost y.cost) z.cost = omega arith in
    let q1 : min (min x.cost y.cost) z.cost ≤ x.cost = omega arith in
    let q2 : min (min x.cost y.cost) z.cost ≤ y.cost = omega arith in
    let q3 : min (min x.cost y.cost) z.cost ≤ z.cost = omega arith in
    ap (λ j. count_sum j (part z m)) (part_sum x y m q1 q2)
    ∙ three (part x m) (part y m) (part z m)
    ∙ sym (ap (both x (plain_sum y z)) e ∙ ap (count_sum (part x m)) (part_sum y z m q2 q3))
  where
    three : (a b c : ℕ) → count_sum (count_sum a b) c ≡ count_sum a (count_sum b c)
    three a b c = simp (mod-add-mod, add-mod-mod, add_assoc)

over_count : (x y z : CostCount) → (plain_product x (plain_sum y z)).count ≡ (plain_sum (plain_product x y) (plain_product x z)).count
over_count x y z =
    let m : ℕ = min y.cost z.cost in
    let e : min (min (x.cost + y.cost) inf) (min (x.cost + z.cost) inf) ≡ min (x.cost + min y.cost z.cost) inf = omega arith in
    let q2 : min y.cost z.cost ≤ y.cost = omega arith in
    let q3 : min y.cost z.cost ≤ z.cost = omega arith in
    split (ltb (x.cost + m) inf) x.count (part y m) (part z m)
    ∙ sym (ap (both (plain_product x y) (plain_product x z)) e ∙ ap₂ count_sum (part_product x y m q2) (part_product x z m q3))
  where
    split : (b : Bool) (n a c : ℕ) → cond b (n * count_sum a c % 2 ^ 64) 0 ≡ count_sum (cond b (n * a % 2 ^ 64) 0) (cond b (n * c % 2 ^ 64) 0)
    split true n a c = simp (mul_mod_mod, mod-add-mod, add-mod-mod, mul-add)
    split false n a c = refl

times_assoc_count : (x y z : CostCount) → (plain_product (plain_product x y) z).count ≡ (plain_product x (plain_product y z)).count
times_assoc_count x y z = by (ltb (x.cost + y.cost + z.cost) inf) refl
  where
    by : (b : Bool) → ltb (x.cost + y.cost + z.cost) inf ≡ b → (plain_product (plain_product x y) z).count ≡ (plain_product x (plain_product y z)).count
    by true l =
        let lt : x.cost + y.cost + z.cost < inf = ltb-true (x.cost + y.cost + z.cost) inf l in
        ap (λ b. cond b (count_at (x.cost + y.cost) (x.count * y.count) * z.count % 2 ^ 64) 0) (lt-ltb (min (x.cost + y.cost) inf + z.cost) inf (omega arith))
        ∙ ap (λ b. cond b (x.count * y.count % 2 ^ 64) 0 * z.count % 2 ^ 64) (lt-ltb (x.cost + y.cost) inf (omega arith))
        ∙ three x.count y.count z.count
        ∙ sym (ap (λ b. cond b (x.count * count_at (y.cost + z.cost) (y.count * z.count) % 2 ^ 64) 0) (lt-ltb (x.cost + min (y.cost + z.cost) inf) inf (omega arith))
        ∙ ap (λ b. x.count * cond b (y.count * z.count % 2 ^ 64) 0 % 2 ^ 64) (lt-ltb (y.cost + z.cost) inf (omega arith)))
      where
        three : (n m k : ℕ) → (n * m % 2 ^ 64) * k % 2 ^ 64 ≡ n * (m * k % 2 ^ 64) % 2 ^ 64
        three n m k = simp (mod_mul_mod, mul_mod_mod, mul_assoc)
    by false l =
        let le : inf ≤ x.cost + y.cost + z.cost = ltb-false (x.cost + y.cost + z.cost) inf l in
        ap (λ b. cond b (count_at (x.cost + y.cost) (x.count * y.count) * z.count % 2 ^ 64) 0) (le-ltb (min (x.cost + y.cost) inf + z.cost) inf (omega arith))
        ∙ sym (ap (λ b. cond b (x.count * count_at (y.cost + z.cost) (y.count * z.count) % 2 ^ 64) 0) (le-ltb (x.cost + min (y.cost + z.cost) inf) inf (omega arith)))

one_count : (x : CostCount) → (plain_product (cost_count 0 1) x).count ≡ x.count
one_count x = by (ltb (0 + x.cost) inf) refl
  where
    by : (b : Bool) → ltb (0 + x.cost) inf ≡ b → cond b (1 * x.count % 2 ^ 64) 0 ≡ x.count
    by true l = ap (λ j. j % 2 ^ 64) (one-mul x.count) ∙ mod-eq_of_lt x.fits
    by false l =
        let le : inf ≤ 0 + x.cost = ltb-false (0 + x.cost) inf l in
        let e : x.cost ≡ inf = omega arith in
        sym (x.none e)

zero_count : (x : CostCount) → (plain_product (cost_count inf 0) x).count ≡ 0
zero_count x = ap (λ b. cond b (0 * x.count % 2 ^ 64) 0) (le-ltb (inf + x.cost) inf (omega arith))

zero_plus_count : (x : CostCount) → (plain_sum (cost_count inf 0) x).count ≡ x.count
zero_plus_count x =
    let e : min inf x.cost ≡ x.cost = omega arith in
    ap (both (cost_count inf 0) x) e
    ∙ ap₂ count_sum (nothing (eqb inf x.cost)) (part_at x x.cost refl) ∙ ap (λ j. j % 2 ^ 64) (zero-add x.count) ∙ mod-eq_of_lt x.fits
  where
    nothing : (b : Bool) → ◌≡◌ {A = ℕ} (cond b 0 0) 0
    nothing true = refl
    nothing false = refl

plain_laws : Laws plain
plain_laws = record {
  plus_assoc = λ x y z. same_cost_count (omega arith) (plus_assoc_count x y z);
  plus_comm = plus_comm;
  zero_plus = λ x. same_cost_count (omega arith) (zero_plus_count x);
  times_assoc = λ x y z. same_cost_count (omega arith) (times_assoc_count x y z);
  one_times = λ x. same_cost_count (omega arith) (one_count x);
  times_one = λ x. times_comm x (cost_count 0 1) ∙ same_cost_count (omega arith) (one_count x);
  zero_times = λ x. same_cost_count (omega arith) (zero_count x);
  times_zero = λ x. times_comm x (cost_count inf 0) ∙ same_cost_count (omega arith) (zero_count x);
  times_plus = λ x y z. same_cost_count (omega arith) (over_count x y z);
  plus_times = λ x y z.
      times_comm (plain_sum x y) z ∙ same_cost_count {x = plain_product z (plain_sum x y)} {y = plain_sum (plain_product z x) (plain_product z y)} (omega arith) (over_count z x y)
      ∙ ap₂ plain_sum (times_comm z x) (times_comm z y);
}

as_plain : cheapest_with_count ≡ plain
as_plain = λ i. record {
  zero = cost_count inf 0;
  one = cost_count 0 1;
  plus = λ x y. sum_is x y i;
  times = λ x y. product_is x y i;
  weight = λ c. cost_count c 1;
}

pub cost_count_laws : Laws cheapest_with_count
cost_count_laws = subst Laws (sym as_plain) plain_laws
