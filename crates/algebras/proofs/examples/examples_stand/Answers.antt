use mathlib.Core.Path.{◌≡◌, refl, ap}
use Prim.Native.Nat.{ℕ}
use native.Mathlib.Omega.{arith}
use Rattle.algebras.proofs.examples.examples_stand.Goals as goal

pub returns : goal.returns
returns c = record {
  boolean_tells = λ e. let z : ◌≡◌ {A = ℕ} 0 1 = cc in omega arith;
  counting_tells = λ e. omega (arith, ap (λ w. w.value) e);
  cheapest_tells = λ e. omega (arith, ap (λ w. w.value) e);
  cheapest_with_count_tells = λ e. omega (arith, ap (λ w. w.cost) e);
  two_cheapest_tells = λ e. omega (arith, ap (λ w. w.first) e);
  either = refl;
  neither = refl;
  five = refl;
  six = refl;
  wrapped_sum = refl;
  wrapped_product = refl;
  counted_cost = refl;
  smaller = refl;
  added = refl;
  capped = refl;
  kept = refl;
  cheaper_cost = refl;
  cheaper_count = refl;
  dearer_count = refl;
  tied_count = refl;
  joined_cost = refl;
  joined_count = refl;
  capped_cost = refl;
  capped_count = refl;
  wrapped_count = refl;
  wrapped_cost = refl;
  twice_first = refl;
  twice_second = refl;
  sum_first = refl;
  sum_second = refl;
  product_first = refl;
  product_second = refl;
  single_second = refl;
  capped_second = refl;
}
