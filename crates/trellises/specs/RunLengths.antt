-- The run-length limit: at least d and at most k zeros between two ones.
use Rattle.std.specs.Prelude.{ℕ, zero, suc, ◌+◌, Bool, cond, ◌&&◌, ℤ, pos, Some, None, int_le, nat_le, nat_lt, unsigned_abs}
use Rattle.model.specs.declared.refusal.Refusal.TheVariants.{RunLength as RunLengthRefused}
use Rattle.model.specs.Refusals.{refusal_number}
use Rattle.model.specs.Trellises.{Branch, Diagram}
use Rattle.model.specs.Bare.{or_bare}
use Rattle.trellises.specs.Bare.{unless_refused}
use Rattle.trellises.specs.Checks.{checked}
use Rattle.trellises.specs.declared.or_bare.OrBare.{OrBare}
use Rattle.trellises.specs.declared.run_length.limits.Limits.{Limits}

-- the state counts the zeros since the last one: a zero leads one higher, up to k; a one leads to 0, from d on
abbrev pub run_length_branch : ℕ → ℕ → ℕ → ℕ → Branch
run_length_branch d k s zero = cond (nat_lt s k) (Some (s + 1, pos 0)) None
run_length_branch d k s (suc zero) = cond (nat_le d s && nat_le s k) (Some (0, pos 1)) None
run_length_branch d k s (suc (suc a)) = None

-- k + 1 states and two letters
abbrev pub run_length : ℕ → ℕ → Diagram
run_length d k = record { states = k + 1; letters = 2; branch = run_length_branch d k }

-- 0 ≤ d ≤ k ≤ 63
abbrev pub run_length_fits : ℤ → ℤ → Bool
run_length_fits d k = int_le (pos 0) d && int_le d k && int_le k (pos 63)

-- 0, or why they are no limits
abbrev pub run_length_check : ℤ → ℤ → ℕ
run_length_check d k = checked (run_length_fits d k) (refusal_number RunLengthRefused) 0

-- what the parameters make
abbrev pub run_length_trellis : ℤ → ℤ → Diagram
run_length_trellis d k = unless_refused (run_length_check d k) (run_length (unsigned_abs d) (unsigned_abs k))

-- what two limits mean
abbrev pub limits_meaning : Limits → Diagram
limits_meaning l = run_length l.least l.most

-- what a run-length limit means
abbrev pub run_length_meaning : OrBare Limits → Diagram
run_length_meaning t = or_bare limits_meaning t.accepted
