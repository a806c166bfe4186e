-- The laws of cheapest.
use Rattle.std.specs.Prelude.{◌≡◌, ℕ, ◌+◌, ◌≤◌, min}
use Rattle.std.proofs.Common.{sym, ap, ◌∙◌, arith}
use mathlib.Core.HLevel.{is_prop→PathP}
use Rattle.std.proofs.Math.Bridge.{le_prop}
use Rattle.algebras.specs.declared.weights.Cost.{Cost}
use Rattle.algebras.specs.Numbers.{inf}
use Rattle.algebras.specs.Semirings.{Laws}
use Rattle.algebras.specs.Costs.{cheapest}

pub same_cost : {x y : Cost} → x.value ≡ y.value → x ≡ y
same_cost {x} {y} p = λ i. record { value = p i; fits = is_prop→PathP (λ j. p j ≤ inf) (λ j. le_prop) x.fits y.fits i }

-- a cap on what is capped, or below it, does nothing
twice : (a i : ℕ) → min (min a i) i ≡ min a i
twice a i = omega arith

idle : (a b i : ℕ) → a ≤ i → min (min a b) i ≡ min a b
idle a b i h = omega arith

associates : (a b c i : ℕ) → min (min (min a b) c) i ≡ min (min a (min b c)) i
associates a b c i = omega arith

sum_associates : (a b c i : ℕ) → min (min (a + b) i + c) i ≡ min (a + min (b + c) i) i
sum_associates a b c i = omega arith

times_over : (a b c i : ℕ) → min (a + min b c) i ≡ min (min (min (a + b) i) (min (a + c) i)) i
times_over a b c i = omega arith

over_times : (a b c i : ℕ) → min (min a b + c) i ≡ min (min (min (a + c) i) (min (b + c) i)) i
over_times a b c i = omega arith

pub cheapest_laws : Laws cheapest
cheapest_laws = record {
  plus_assoc = λ x y z. same_cost
      (ap (λ n. min (min n z.value) inf) (idle x.value y.value inf x.fits)
      ∙ associates x.value y.value z.value inf
      ∙ sym (ap (λ n. min (min x.value n) inf) (idle y.value z.value inf y.fits)));
  plus_comm = λ x y. same_cost (omega arith);
  zero_plus = λ x. same_cost (omega arith);
  times_assoc = λ x y z. same_cost (simp twice (sum_associates x.value y.value z.value inf));
  one_times = λ x. same_cost (omega arith);
  times_one = λ x. same_cost (omega arith);
  zero_times = λ x. same_cost (omega arith);
  times_zero = λ x. same_cost (omega arith);
  times_plus = λ x y z. same_cost
      (simp twice (ap (λ n. min (x.value + n) inf) (idle y.value z.value inf y.fits) ∙ times_over x.value y.value z.value inf));
  plus_times = λ x y z. same_cost
      (simp twice (ap (λ n. min (n + z.value) inf) (idle x.value y.value inf x.fits) ∙ over_times x.value y.value z.value inf));
}
