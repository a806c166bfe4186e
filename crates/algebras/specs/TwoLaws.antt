-- The laws of two cheapest, by a plainer sum and product.
use Rattle.std.specs.Prelude.{◌≡◌, refl, Bool, true, false, ◌&&◌, ◌||◌, ℕ, ◌+◌, ◌≤◌, ◌<◌, min, max, leb}
use Rattle.std.proofs.Common.{sym, ap, ap₂, ◌∙◌, subst, add_assoc, arith, leb-true, leb-false, le-leb}
use mathlib.Core.HLevel.{is_prop→PathP}
use Rattle.std.proofs.Math.Bridge.{le_prop}
use Rattle.algebras.specs.declared.weights.TwoCosts.{TwoCosts}
use Rattle.algebras.specs.Numbers.{inf, capped_sum}
use Rattle.algebras.specs.Semirings.{Semiring, Laws}
use Rattle.algebras.specs.TwoCosts.{with_cost, pair, two_cheapest}

pub same_two : {x y : TwoCosts} → x.first ≡ y.first → x.second ≡ y.second → x ≡ y
same_two {x} {y} p q = λ i. record {
  first = p i;
  second = q i;
  fits = is_prop→PathP (λ j. q j ≤ inf) (λ j. le_prop) x.fits y.fits i;
  sorted = is_prop→PathP (λ j. p j ≤ q j) (λ j. le_prop) x.sorted y.sorted i;
}

-- ---- the plainer sum and product

abbrev pub plain_sum : TwoCosts → TwoCosts → TwoCosts
plain_sum x y = record { first = min x.first y.first; second = min (max x.first y.first) (min x.second y.second); fits = omega arith; sorted = omega arith }

abbrev pub plain_product : TwoCosts → TwoCosts → TwoCosts
plain_product x y = record { first = min (x.first + y.first) inf; second = min (min (x.first + y.second) (x.second + y.first)) inf; fits = omega arith; sorted = omega arith }

abbrev plain : Semiring TwoCosts
plain = record { zero = pair inf inf; one = pair 0 inf; plus = plain_sum; times = plain_product; weight = λ c. pair c inf }

pub paired : (a b : ℕ) (s : a ≤ b) (f : b ≤ inf) → pair a b ≡ record { first = a; second = b; fits = f; sorted = s }
paired a b s f = same_two (omega arith) (omega arith)

second_of : (a b c d : ℕ) → a ≤ b → c ≤ d → min (max a (min b c)) (min (max b c) d) ≡ min (max a c) (min b d)
second_of a b c d h k = by (leb b c) refl
  where
    by : (t : Bool) → leb b c ≡ t → min (max a (min b c)) (min (max b c) d) ≡ min (max a c) (min b d)
    by true l =
        let le : b ≤ c = leb-true b c l in
        let e : min b c ≡ b = omega arith in
        let f : max b c ≡ c = omega arith in
        ap₂ (λ m n. min (max a m) (min n d)) e f ∙ (let g : min (max a b) (min c d) ≡ min (max a c) (min b d) = omega arith in g)
    by false l =
        let lt : c < b = leb-false b c l in
        let e : min b c ≡ c = omega arith in
        let f : max b c ≡ b = omega arith in
        ap₂ (λ m n. min (max a m) (min n d)) e f

pub sum_is : (x y : TwoCosts) → two_cheapest.plus x y ≡ plain_sum x y
sum_is x y =
    ap (λ w. with_cost x.first (with_cost x.second w)) (paired y.first y.second y.sorted y.fits)
    ∙ same_two (omega arith) (second_of x.first x.second y.first y.second x.sorted y.sorted)

-- the two sums of one cost with y's
spread : ℕ → TwoCosts → TwoCosts
spread c y = record { first = capped_sum c y.first; second = capped_sum c y.second; fits = omega arith; sorted = omega arith }

pub product_is : (x y : TwoCosts) → two_cheapest.times x y ≡ plain_product x y
unfolding spread
product_is x y = sum_is (spread x.first y) (spread x.second y) ∙ same_two firsts seconds
  where
    firsts : min (capped_sum x.first y.first) (capped_sum x.second y.first) ≡ min (x.first + y.first) inf
    firsts = omega arith

    seconds : min (max (capped_sum x.first y.first) (capped_sum x.second y.first)) (min (capped_sum x.first y.second) (capped_sum x.second y.second)) ≡ min (min (x.first + y.second) (x.second + y.first)) inf
    seconds =
        let e : max (capped_sum x.first y.first) (capped_sum x.second y.first) ≡ capped_sum x.second y.first = omega arith in
        let f : min (capped_sum x.first y.second) (capped_sum x.second y.second) ≡ capped_sum x.first y.second = omega arith in
        ap₂ min e f ∙ (let g : min (capped_sum x.second y.first) (capped_sum x.first y.second) ≡ min (min (x.first + y.second) (x.second + y.first)) inf = omega arith in g)

-- ---- minima and maxima, compared with every number

-- two numbers with the same numbers below them are equal
same_below : (x y : ℕ) → ((t : ℕ) → leb t x ≡ leb t y) → x ≡ y
same_below x y h =
    let p : x ≤ y = leb-true x y (sym (h x) ∙ le-leb x x (omega arith)) in
    let q : y ≤ x = leb-true y x (h y ∙ le-leb y y (omega arith)) in
    omega arith

leb_min : (t a b : ℕ) → leb t (min a b) ≡ (leb t a && leb t b)
leb_min t a b = grind arith

leb_max : (t a b : ℕ) → leb t (max a b) ≡ (leb t a || leb t b)
leb_max t a b = grind arith

add_min : (a x y : ℕ) → a + min x y ≡ min (a + x) (a + y)
add_min a x y = omega arith

min_add : (a x y : ℕ) → min x y + a ≡ min (x + a) (y + a)
min_add a x y = omega arith

add_max : (a x y : ℕ) → a + max x y ≡ max (a + x) (a + y)
add_max a x y = omega arith

max_add : (a x y : ℕ) → max x y + a ≡ max (x + a) (y + a)
max_add a x y = omega arith

-- ---- the laws

b1 : (a b c d e f : Bool) → (((a && c) || e) && (((a || c) && (b && d)) && f)) ≡ ((a || (c && e)) && (b && ((c || e) && (d && f))))
b1 a b c d e f = grind arith

b2 : (p q c d e f i : Bool) → (((p || q) && (c && d)) && (e && f)) && i ≡ ((p && i) || (q && i)) && (((c && e) && i) && ((d && f) && i))
b2 p q c d e f i = grind arith

b3 : (p q c d e f i : Bool) → ((c && d) && ((p || q) && (e && f))) && i ≡ ((p && i) || (q && i)) && (((c && e) && i) && ((d && f) && i))
b3 p q c d e f i = grind arith

b4 : (p q c i : Bool) → (p && (q && c)) && i ≡ ((p && q) && c) && i
b4 p q c i = grind arith

associates : (a b c d e f : ℕ) → min (max (min a c) e) (min (min (max a c) (min b d)) f) ≡ min (max a (min c e)) (min b (min (max c e) (min d f)))
associates a b c d e f = same_below _ _ (λ t. simp (leb_min, leb_max) (b1 (leb t a) (leb t b) (leb t c) (leb t d) (leb t e) (leb t f)))

left_over : (a c d e f b i : ℕ) → min (min (a + min (max c e) (min d f)) (b + min c e)) i ≡ min (max (min (a + c) i) (min (a + e) i)) (min (min (min (a + d) (b + c)) i) (min (min (a + f) (b + e)) i))
left_over a c d e f b i = same_below _ _ (λ t. simp (add_min, add_max, leb_min, leb_max) (b2 (leb t (a + c)) (leb t (a + e)) (leb t (a + d)) (leb t (a + f)) (leb t (b + c)) (leb t (b + e)) (leb t i)))

right_over : (a b c d e f i : ℕ) → min (min (min a c + f) (min (max a c) (min b d) + e)) i ≡ min (max (min (a + e) i) (min (c + e) i)) (min (min (min (a + f) (b + e)) i) (min (min (c + f) (d + e)) i))
right_over a b c d e f i = same_below _ _ (λ t. simp (min_add, max_add, leb_min, leb_max) (b3 (leb t (a + e)) (leb t (c + e)) (leb t (a + f)) (leb t (c + f)) (leb t (b + e)) (leb t (d + e)) (leb t i)))

-- a cap inside a capped sum does nothing
cap_right : (p q x y i : ℕ) → min (min (min p i + x) (min q i + y)) i ≡ min (min (p + x) (q + y)) i
cap_right p q x y i = omega arith

cap_left : (p q x y i : ℕ) → min (min (x + min p i) (y + min q i)) i ≡ min (min (x + p) (y + q)) i
cap_left p q x y i = omega arith

regroup : (a b c d e f i : ℕ) → min (min (a + c + f) (min (a + d) (b + c) + e)) i ≡ min (min (a + min (c + f) (d + e)) (b + (c + e))) i
regroup a b c d e f i = same_below _ _ (λ t. simp (min_add, add_min, add_assoc, leb_min) (b4 (leb t (a + (c + f))) (leb t (a + (d + e))) (leb t (b + (c + e))) (leb t i)))

plain_laws : Laws plain
plain_laws = record {
  plus_assoc = λ x y z. same_two (omega arith) (associates x.first x.second y.first y.second z.first z.second);
  plus_comm = λ x y. same_two (omega arith) (omega arith);
  zero_plus = λ x. same_two (omega arith) (omega arith);
  times_assoc = λ x y z. same_two (omega arith)
      (cap_right (x.first + y.first) (min (x.first + y.second) (x.second + y.first)) z.second z.first inf
      ∙ regroup x.first x.second y.first y.second z.first z.second inf
      ∙ sym (cap_left (min (y.first + z.second) (y.second + z.first)) (y.first + z.first) x.first x.second inf));
  one_times = λ x. same_two (omega arith) (omega arith);
  times_one = λ x. same_two (omega arith) (omega arith);
  zero_times = λ x. same_two (omega arith) (omega arith);
  times_zero = λ x. same_two (omega arith) (omega arith);
  times_plus = λ x y z. same_two (omega arith) (left_over x.first y.first y.second z.first z.second x.second inf);
  plus_times = λ x y z. same_two (omega arith) (right_over x.first x.second y.first y.second z.first z.second inf);
}

as_plain : two_cheapest ≡ plain
as_plain = λ i. record {
  zero = pair inf inf;
  one = pair 0 inf;
  plus = λ x y. sum_is x y i;
  times = λ x y. product_is x y i;
  weight = λ c. pair c inf;
}

pub two_laws : Laws two_cheapest
two_laws = subst Laws (sym as_plain) plain_laws
