-- Matrices of two rows and two columns, their entries modulo 256: an algebra whose product does not commute.
use Rattle.std.specs.Prelude.{◌≡◌, ℕ, ◌+◌, ◌*◌, ◌%◌, ◌<◌}
use Rattle.std.proofs.Common.{mod-lt, lit<}
use Rattle.algebras.specs.Semirings.{Semiring}
use Rattle.path_trials.specs.declared.matrix.Matrix.{Matrix}

pub small : (n : ℕ) → n % 256 < 256
small n = mod-lt n (lit< tt)

-- the matrix of two rows, a b and c d
abbrev pub matrix : ℕ → ℕ → ℕ → ℕ → Matrix
matrix a b c d = record { a = a % 256; b = b % 256; c = c % 256; d = d % 256; fits = (small a, small b, small c, small d) }

-- entry by entry, and rows by columns; a cost stands in the first entry, beside ones
abbrev pub matrices : Semiring Matrix
matrices = record {
  zero = matrix 0 0 0 0;
  one = matrix 1 0 0 1;
  plus = λ x y. matrix (x.a + y.a) (x.b + y.b) (x.c + y.c) (x.d + y.d);
  times = λ x y. matrix (x.a * y.a + x.b * y.c) (x.a * y.b + x.b * y.d) (x.c * y.a + x.d * y.c) (x.c * y.b + x.d * y.d);
  weight = λ n. matrix n 1 1 0;
}

-- the product of two weights is another one the other way round
abbrev pub OrderMatters : Type 0
OrderMatters = matrices.times (matrices.weight 0) (matrices.weight 1) ≡ matrices.times (matrices.weight 1) (matrices.weight 0) → ⊥
