-- The run-length limit from state 0 back to 0 on three samples has one path, and a single path is the cheapest.
use Rattle.std.proofs.Common.{◌≡◌, ℕ, ◌+◌, ◌%◌, ◌^◌, true, cond, ◌&&◌, [], ◌∷◌, length, ℤ, pos, None, ap, ap₂, le_refl, zero-add, le-leb}
use Rattle.trellises.specs.Examples.{two_three}
use Rattle.paths.specs.Paths.{Path, path_cost}
use Rattle.paths.specs.Cheapest.{cheapest_of, first_of}
use Rattle.channels.specs.Channels.{to_zero, by_letters, says, Reported}

single_cheapest : (f : Path → ℕ) (p : Path) → cheapest_of f (p ∷ []) ≡ p ∷ []
single_cheapest f p = ap (λ t. cond (t && true) (p ∷ []) []) (le-leb (f p) (f p) (le_refl (f p)))

pub single_reported : (cost : ℤ → ℤ → ℕ) (x y z : ℤ) → Reported two_three cost (to_zero (x ∷ y ∷ z ∷ [])) (0 ∷ 0 ∷ 1 ∷ []) (says 0 (cost (pos 0) x + cost (pos 0) y + cost (pos 1) z) 1 None)
single_reported cost x y z =
    let cheapest = single_cheapest (path_cost two_three cost (x ∷ y ∷ z ∷ [])) (by_letters (0 ∷ 0 ∷ 1 ∷ [])) in
    record {
      path = ap (first_of two_three) cheapest;
      report = ap₂ (λ c ps. says 0 (c + cost (pos 0) y + cost (pos 1) z) (length ps % 2 ^ 64) None) (zero-add (cost (pos 0) x)) cheapest;
    }
