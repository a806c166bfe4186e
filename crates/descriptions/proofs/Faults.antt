-- The first fault of checks one after the other.
use Rattle.std.proofs.Common.{◌≡◌, ℕ, zero, suc, List, [], ◌∷◌, ◌++◌, Some, None, Option, sym, refl, ap, ◌∙◌, arith}
use Rattle.std.specs.List.{AllByRecursion}
use Rattle.model.specs.Refusals.{Refused}
use Rattle.setups.specs.declared.held.HeldLines.{HeldLines}
use Rattle.descriptions.specs.Checks.{About, place_in, fault_or_none, or_next, first_fault}

next_next : (a b c : Option Refused) → or_next a (or_next b c) ≡ or_next (or_next a b) c
next_next None b c = refl
next_next (Some f) b c = refl

module _ (h : HeldLines) where
  first_fault_append : (xs ys : List (ℕ × About)) → first_fault h (xs ++ ys) ≡ or_next (first_fault h xs) (first_fault h ys)
  first_fault_append [] ys = refl
  first_fault_append (x ∷ xs) ys = ap (or_next (fault_or_none x.0 (place_in h x.1))) (first_fault_append xs ys) ∙ next_next (fault_or_none x.0 (place_in h x.1)) (first_fault h xs) (first_fault h ys)

  pub fault_first : (xs ys : List (ℕ × About)) {f : Refused} → Some f ≡ first_fault h xs → Some f ≡ first_fault h (xs ++ ys)
  fault_first xs ys {f} e = sym (first_fault_append xs ys ∙ ap (λ (o : Option Refused). or_next o (first_fault h ys)) (sym e))

  pub fault_next : (xs ys : List (ℕ × About)) (o : Option Refused) → None ≡ first_fault h xs → o ≡ first_fault h ys → o ≡ first_fault h (xs ++ ys)
  fault_next xs ys o none e = e ∙ sym (first_fault_append xs ys ∙ ap (λ (p : Option Refused). or_next p (first_fault h ys)) (sym none))

  -- no fault exactly if every answer is 0
  accepted_by : (n p : ℕ) (rest : Option Refused) → or_next (fault_or_none n p) rest ≡ None → (n ≡ 0) × (rest ≡ None)
  accepted_by zero p rest e = (refl, e)
  accepted_by (suc n) p rest e = let z : ◌≡◌ {A = ℕ} 0 1 = cc in absurd (omega arith)

  pub all_accept : (cs : List (ℕ × About)) → first_fault h cs ≡ None → AllByRecursion (λ c. c.0 ≡ 0) cs
  all_accept [] e = tt
  all_accept (c ∷ cs) e = let parts = accepted_by c.0 (place_in h c.1) (first_fault h cs) e in (parts.0, all_accept cs parts.1)

  pub none_refuses : (cs : List (ℕ × About)) → AllByRecursion (λ c. c.0 ≡ 0) cs → first_fault h cs ≡ None
  none_refuses [] a = refl
  none_refuses (c ∷ cs) a = ap (λ (n : ℕ). or_next (fault_or_none n (place_in h c.1)) (first_fault h cs)) a.0 ∙ none_refuses cs a.1
