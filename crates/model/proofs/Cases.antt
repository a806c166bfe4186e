-- The cases of an answer do not meet. Assumes nothing.
use Rattle.std.proofs.Common.{◌≡◌, ℕ, Ok, Err, Result, arith}

pub not_ok : {X Z : Type 0} {x : X} {z : Z} → ◌≡◌ {A = Result X Z} (Err z) (Ok x) → ⊥
not_ok e = let z : ◌≡◌ {A = ℕ} 0 1 = cc in omega arith

pub ok_same : {X Z : Type 0} {x y : X} → ◌≡◌ {A = Result X Z} (Ok x) (Ok y) → x ≡ y
ok_same e = cc

pub err_same : {X Z : Type 0} {x y : Z} → ◌≡◌ {A = Result X Z} (Err x) (Err y) → x ≡ y
err_same e = cc
