-- That what the definitions make is a weight.
use Rattle.std.specs.Prelude.{◌≡◌, refl, Bool, true, false, cond, ℕ, ◌%◌, ◌^◌, ◌<◌, ◌≤◌, min, max, ltb}
use Rattle.std.proofs.Common.{mod-lt, arith, lit<, ltb-true}
use Rattle.algebras.specs.declared.weights.TwoCosts.{TwoCosts}
use Rattle.algebras.specs.Numbers.{inf, count_at}

pub wrapped_fits : (n : ℕ) → n % 2 ^ 64 < 2 ^ 64
wrapped_fits n = mod-lt n (lit< tt)

pub capped_fits : (c : ℕ) → min c inf ≤ inf
capped_fits c = omega arith

pub count_fits : (c n : ℕ) → count_at c n < 2 ^ 64
count_fits c n = elim (ltb c inf) as (λ b. cond b (n % 2 ^ 64) 0 < 2 ^ 64) [ true ↦ mod-lt n (lit< tt) | false ↦ lit< tt ]

pub count_none : (c n : ℕ) → min c inf ≡ inf → count_at c n ≡ 0
count_none c n e = by (ltb c inf) refl
  where
    by : (b : Bool) → ltb c inf ≡ b → cond b (n % 2 ^ 64) 0 ≡ 0
    by true l = absurd (omega (arith, ltb-true c inf l))
    by false l = refl

pub second_fits : (c : ℕ) (w : TwoCosts) → min (max c w.first) w.second ≤ inf
second_fits c w = omega arith

pub second_above : (c : ℕ) (w : TwoCosts) → min c w.first ≤ min (max c w.first) w.second
second_above c w = omega arith
