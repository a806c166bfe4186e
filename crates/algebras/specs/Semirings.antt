-- What a weight algebra is: a semiring, with a weight for each cost.
use Rattle.std.specs.Prelude.{◌≡◌, ℕ}

-- the weights of no path and of a path without steps, the sum over paths, the product along a path, and the weight of a cost
pub record Semiring (W : Type 0) : Type 0 where
  pub zero : W
  pub one : W
  pub plus : W → W → W
  pub times : W → W → W
  pub weight : ℕ → W

-- the laws, for all weights; the product need not commute
pub record Laws {W : Type 0} (s : Semiring W) : Type 0 where
  pub plus_assoc : (x y z : W) → s.plus (s.plus x y) z ≡ s.plus x (s.plus y z)
  pub plus_comm : (x y : W) → s.plus x y ≡ s.plus y x
  pub zero_plus : (x : W) → s.plus s.zero x ≡ x
  pub times_assoc : (x y z : W) → s.times (s.times x y) z ≡ s.times x (s.times y z)
  pub one_times : (x : W) → s.times s.one x ≡ x
  pub times_one : (x : W) → s.times x s.one ≡ x
  pub zero_times : (x : W) → s.times s.zero x ≡ s.zero
  pub times_zero : (x : W) → s.times x s.zero ≡ s.zero
  pub times_plus : (x y z : W) → s.times x (s.plus y z) ≡ s.plus (s.times x y) (s.times x z)
  pub plus_times : (x y z : W) → s.times (s.plus x y) z ≡ s.plus (s.times x z) (s.times y z)
