-- The laws of matrices.
use Rattle.std.specs.Prelude.{◌≡◌, ℕ, ◌+◌, ◌*◌, ◌%◌, ◌<◌}
use Rattle.std.proofs.Common.{sym, ap, ap₂, ◌∙◌, add_assoc, add_comm, mul_assoc, mul-add, add-mul, arith}
use mathlib.Core.HLevel.{is_prop→PathP}
use Rattle.std.proofs.Math.Bridge.{le_prop}
use Rattle.std.proofs.Math.Nat.{mod-mod, mod-add-mod, add-mod-mod}
use Rattle.algebras.specs.Semirings.{Laws}
use Rattle.algebras.specs.Wrapping.{mod_mul_mod, mul_mod_mod}
use Rattle.path_trials.specs.declared.matrix.Matrix.{Matrix}
use Rattle.path_trials.specs.Matrices.{matrix, matrices}

pub same_matrix : {x y : Matrix} → x.a ≡ y.a → x.b ≡ y.b → x.c ≡ y.c → x.d ≡ y.d → x ≡ y
same_matrix {x} {y} p q r s = λ i. record {
  a = p i;
  b = q i;
  c = r i;
  d = s i;
  fits = (
    is_prop→PathP (λ j. p j < 256) (λ j. le_prop) x.fits.0 y.fits.0 i,
    is_prop→PathP (λ j. q j < 256) (λ j. le_prop) x.fits.1 y.fits.1 i,
    is_prop→PathP (λ j. r j < 256) (λ j. le_prop) x.fits.2 y.fits.2 i,
    is_prop→PathP (λ j. s j < 256) (λ j. le_prop) x.fits.3 y.fits.3 i,
  );
}

-- ---- entries

abbrev dot : ℕ → ℕ → ℕ → ℕ → ℕ
dot a b c d = a * c + b * d

-- the two in the middle change places
middle : (a b c d : ℕ) → a + b + (c + d) ≡ a + c + (b + d)
middle a b c d = omega arith

sum_assoc : (a b c : ℕ) → ((a + b) % 256 + c) % 256 ≡ (a + (b + c) % 256) % 256
sum_assoc a b c = simp (mod-add-mod, add-mod-mod, add_assoc)

both : (a b : ℕ) → (a % 256 + b % 256) % 256 ≡ (a + b) % 256
both a b = simp (mod-add-mod, add-mod-mod)

-- wrapped before a product or only after it
strip_left : (a b z w : ℕ) → (a % 256 * z + b % 256 * w) % 256 ≡ (a * z + b * w) % 256
strip_left a b z w = sym (both (a % 256 * z) (b % 256 * w)) ∙ ap₂ (λ x y. (x + y) % 256) (mod_mul_mod a z 256) (mod_mul_mod b w 256) ∙ both (a * z) (b * w)

strip_right : (a b z w : ℕ) → (a * (z % 256) + b * (w % 256)) % 256 ≡ (a * z + b * w) % 256
strip_right a b z w = sym (both (a * (z % 256)) (b * (w % 256))) ∙ ap₂ (λ x y. (x + y) % 256) (mul_mod_mod a z 256) (mul_mod_mod b w 256) ∙ both (a * z) (b * w)

dot_assoc : (a b e f g h z w : ℕ) → (dot a b e g % 256 * z + dot a b f h % 256 * w) % 256 ≡ (a * (dot e f z w % 256) + b * (dot g h z w % 256)) % 256
dot_assoc a b e f g h z w = strip_left (dot a b e g) (dot a b f h) z w ∙ ap (λ n. n % 256) plain ∙ sym (strip_right a b (dot e f z w) (dot g h z w))
  where
    plain : (a * e + b * g) * z + (a * f + b * h) * w ≡ a * (e * z + f * w) + b * (g * z + h * w)
    plain = simp (add-mul, mul-add, mul_assoc) (middle (a * (e * z)) (b * (g * z)) (a * (f * w)) (b * (h * w)))

over_left : (a b c d e f : ℕ) → (a * ((c + e) % 256) + b * ((d + f) % 256)) % 256 ≡ (dot a b c d % 256 + dot a b e f % 256) % 256
over_left a b c d e f = strip_right a b (c + e) (d + f) ∙ ap (λ n. n % 256) (simp mul-add (middle (a * c) (a * e) (b * d) (b * f))) ∙ sym (both (dot a b c d) (dot a b e f))

over_right : (a b c d e f : ℕ) → ((a + c) % 256 * e + (b + d) % 256 * f) % 256 ≡ (dot a b e f % 256 + dot c d e f % 256) % 256
over_right a b c d e f = strip_left (a + c) (b + d) e f ∙ ap (λ n. n % 256) (simp add-mul (middle (a * e) (c * e) (b * f) (d * f))) ∙ sym (both (dot a b e f) (dot c d e f))

-- ---- the laws

pub wrapped_once : (a b c d : ℕ) → matrix (a % 256) (b % 256) (c % 256) (d % 256) ≡ matrix a b c d
wrapped_once a b c d = same_matrix (mod-mod a 256) (mod-mod b 256) (mod-mod c 256) (mod-mod d 256)

pub matrix_laws : Laws matrices
matrix_laws = record {
  plus_assoc = λ x y z. same_matrix (sum_assoc x.a y.a z.a) (sum_assoc x.b y.b z.b) (sum_assoc x.c y.c z.c) (sum_assoc x.d y.d z.d);
  plus_comm = λ x y. same_matrix (ap (λ n. n % 256) (add_comm x.a y.a)) (ap (λ n. n % 256) (add_comm x.b y.b)) (ap (λ n. n % 256) (add_comm x.c y.c)) (ap (λ n. n % 256) (add_comm x.d y.d));
  zero_plus = λ x. same_matrix (omega (arith, x.fits.0)) (omega (arith, x.fits.1)) (omega (arith, x.fits.2)) (omega (arith, x.fits.3));
  times_assoc = λ x y z. same_matrix
      (dot_assoc x.a x.b y.a y.b y.c y.d z.a z.c)
      (dot_assoc x.a x.b y.a y.b y.c y.d z.b z.d)
      (dot_assoc x.c x.d y.a y.b y.c y.d z.a z.c)
      (dot_assoc x.c x.d y.a y.b y.c y.d z.b z.d);
  one_times = λ x. same_matrix (omega (arith, x.fits.0)) (omega (arith, x.fits.1)) (omega (arith, x.fits.2)) (omega (arith, x.fits.3));
  times_one = λ x. same_matrix (omega (arith, x.fits.0)) (omega (arith, x.fits.1)) (omega (arith, x.fits.2)) (omega (arith, x.fits.3));
  zero_times = λ x. same_matrix (omega arith) (omega arith) (omega arith) (omega arith);
  times_zero = λ x. same_matrix (omega arith) (omega arith) (omega arith) (omega arith);
  times_plus = λ x y z. same_matrix
      (over_left x.a x.b y.a y.c z.a z.c)
      (over_left x.a x.b y.b y.d z.b z.d)
      (over_left x.c x.d y.a y.c z.a z.c)
      (over_left x.c x.d y.b y.d z.b z.d);
  plus_times = λ x y z. same_matrix
      (over_right x.a x.b y.a y.b z.a z.c)
      (over_right x.a x.b y.a y.b z.b z.d)
      (over_right x.c x.d y.c y.d z.a z.c)
      (over_right x.c x.d y.c y.d z.b z.d);
}
