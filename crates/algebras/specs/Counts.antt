-- Counting: how many paths are there?
use Rattle.std.specs.Prelude.{ℕ, ◌%◌, ◌^◌}
use Rattle.algebras.specs.declared.weights.Count.{Count}
use Rattle.algebras.specs.Invariants.{wrapped_fits}
use Rattle.algebras.specs.Numbers.{count_sum, count_product}
use Rattle.algebras.specs.Semirings.{Semiring}

-- a number as a count, modulo 2 ^ 64
abbrev pub count_of : ℕ → Count
count_of n = record { value = n % 2 ^ 64; fits = wrapped_fits n }

-- counts add over paths and multiply along them, and each cost counts for one
abbrev pub counting : Semiring Count
counting = record {
  zero = count_of 0;
  one = count_of 1;
  plus = λ x y. count_of (count_sum x.value y.value);
  times = λ x y. count_of (count_product x.value y.value);
  weight = λ _. count_of 1;
}
