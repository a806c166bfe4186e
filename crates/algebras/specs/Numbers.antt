-- How costs and counts add and multiply.
use Rattle.std.specs.Prelude.{cond, ℕ, ◌+◌, ◌-◌, ◌*◌, ◌%◌, ◌^◌, min, ltb}

-- the cost of no path, above that of every path
abbrev pub inf : ℕ
inf = 2 ^ 64 - 1

-- the smaller of a sum and INF
abbrev pub capped_sum : ℕ → ℕ → ℕ
capped_sum a b = min (a + b) inf

-- counts add modulo 2 ^ 64
abbrev pub count_sum : ℕ → ℕ → ℕ
count_sum m n = (m + n) % 2 ^ 64

-- counts multiply modulo 2 ^ 64
abbrev pub count_product : ℕ → ℕ → ℕ
count_product m n = m * n % 2 ^ 64

-- a count of paths that cost c, modulo 2 ^ 64, and none where that is INF
abbrev pub count_at : ℕ → ℕ → ℕ
count_at c n = cond (ltb c inf) (n % 2 ^ 64) 0
