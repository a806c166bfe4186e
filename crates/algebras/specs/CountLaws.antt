-- The laws of counting.
use Rattle.std.specs.Prelude.{◌≡◌, ◌%◌, ◌^◌, ◌<◌}
use Rattle.std.proofs.Common.{ap, add_assoc, add_comm, mul_assoc, mul-add, add-mul, arith}
use mathlib.Core.HLevel.{is_prop→PathP}
use Rattle.std.proofs.Math.Bridge.{le_prop}
use Rattle.std.proofs.Math.Nat.{mod-mod, mod-add-mod, add-mod-mod}
use Rattle.algebras.specs.declared.weights.Count.{Count}
use Rattle.algebras.specs.Semirings.{Laws}
use Rattle.algebras.specs.Counts.{counting}
use Rattle.algebras.specs.Wrapping.{mod_mul_mod, mul_mod_mod}

pub same_count : {x y : Count} → x.value ≡ y.value → x ≡ y
same_count {x} {y} p = λ i. record { value = p i; fits = is_prop→PathP (λ j. p j < 2 ^ 64) (λ j. le_prop) x.fits y.fits i }

pub counting_laws : Laws counting
counting_laws = record {
  plus_assoc = λ x y z. same_count (simp (mod-mod, mod-add-mod, add-mod-mod, add_assoc));
  plus_comm = λ x y. same_count (ap (λ n. n % 2 ^ 64 % 2 ^ 64) (add_comm x.value y.value));
  zero_plus = λ x. same_count (omega arith);
  times_assoc = λ x y z. same_count (simp (mod-mod, mod_mul_mod, mul_mod_mod, mul_assoc));
  one_times = λ x. same_count (omega arith);
  times_one = λ x. same_count (omega arith);
  zero_times = λ x. same_count (omega arith);
  times_zero = λ x. same_count (omega arith);
  times_plus = λ x y z. same_count (simp (mod-mod, mod-add-mod, add-mod-mod, mul_mod_mod, mul-add));
  plus_times = λ x y z. same_count (simp (mod-mod, mod-add-mod, add-mod-mod, mod_mul_mod, add-mul));
}
