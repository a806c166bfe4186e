-- Products modulo a number.
use Rattle.std.specs.Prelude.{◌≡◌, ℕ, ◌+◌, ◌*◌, ◌/◌, ◌%◌}
use Rattle.std.proofs.Common.{sym, ap, ◌∙◌, div-add-mod', add-mul, mul_assoc, mul_comm}
use Rattle.std.proofs.Math.Nat.{mul-add-mod_self_right}

pub mod_mul_mod : (a b m : ℕ) → (a % m * b) % m ≡ (a * b) % m
mod_mul_mod a b m =
    let e : a / m * b * m + a % m * b ≡ a * b =
    ap (λ t. t + a % m * b) (mul_assoc (a / m) b m ∙ ap (λ t. a / m * t) (mul_comm b m) ∙ sym (mul_assoc (a / m) m b)) ∙ sym (add-mul (a / m * m) (a % m) b) ∙ ap (λ t. t * b) (div-add-mod' a m)
    in
    sym (mul-add-mod_self_right (a / m * b) m (a % m * b)) ∙ ap (λ t. t % m) e

pub mul_mod_mod : (a b m : ℕ) → (a * (b % m)) % m ≡ (a * b) % m
mul_mod_mod a b m = ap (λ t. t % m) (mul_comm a (b % m)) ∙ mod_mul_mod b a m ∙ ap (λ t. t % m) (mul_comm b a)
