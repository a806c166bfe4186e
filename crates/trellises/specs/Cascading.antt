-- A cascade of lawful trellises is lawful.
use Rattle.std.specs.Prelude.{◌≡◌, ℕ, ◌*◌, ◌/◌, ◌%◌, ◌<◌, ◌≤◌, Bool, true, false, ℤ, pos, negsuc, Some, None, nat_le, refl}
use Rattle.std.proofs.Common.{ap, mul-pos, le-div_iff_mul-le, leb-true}
use Rattle.std.proofs.Math.Arith.{digits_lt}
use Rattle.model.specs.declared.refusal.Refusal.TheVariants.{CascadeStates}
use Rattle.model.specs.Refusals.{refusal_number}
use Rattle.model.specs.Trellises.{Branch, Diagram, StaysIn, Lawful, most_states}
use Rattle.model.specs.Bare.{bare_lawful}
use Rattle.trellises.specs.Bare.{unless_refused}
use Rattle.trellises.specs.Checks.{checked}
use Rattle.trellises.specs.Cascades.{on_label, beside, then_inner, cascade, cascade_trellis}

module _ (m n : ℕ) where
  stays_beside : (o : ℕ) (b : Branch) → o < m → StaysIn n b → StaysIn (m * n) (beside n o b)
  stays_beside o None h k = tt
  stays_beside o (Some b) h k = (digits_lt h k.0, k.1)

stays_on_label : (d : Diagram) → Lawful d → (s : ℕ) (l : ℤ) → StaysIn d.states (on_label d s l)
stays_on_label d p s (pos a) = p.stays s a
stays_on_label d p s (negsuc a) = tt

stays_then_inner : (m : ℕ) (inner : Diagram) → Lawful inner → (i : ℕ) (b : Branch) → StaysIn m b → StaysIn (m * inner.states) (then_inner inner i b)
stays_then_inner m inner q i None h = tt
stays_then_inner m inner q i (Some b) h =
    stays_beside m inner.states b.0 (on_label inner i b.1) h.0 (stays_on_label inner q i b.1)

module _ (outer inner : Diagram) (p : Lawful outer) (q : Lawful inner) where
  cascade_lawful : outer.states * inner.states ≤ most_states → Lawful (cascade outer inner)
  cascade_lawful few = record {
    some_state = mul-pos p.some_state q.some_state;
    few_states = few;
    some_letter = p.some_letter;
    few_letters = p.few_letters;
    no_state = λ s a h. ap (then_inner inner (s % inner.states)) (p.no_state (s / inner.states) a ((le-div_iff_mul-le q.some_state).1 h));
    no_letter = λ s a h. ap (then_inner inner (s % inner.states)) (p.no_letter (s / inner.states) a h);
    stays = λ s a. stays_then_inner outer.states inner q (s % inner.states) (outer.branch (s / inner.states) a) (p.stays (s / inner.states) a);
  }

  by_test : (b : Bool) → nat_le (outer.states * inner.states) most_states ≡ b → Lawful (unless_refused (checked b (refusal_number CascadeStates) 0) (cascade outer inner))
  by_test true e = cascade_lawful (leb-true _ _ e)
  by_test false e = bare_lawful

  pub cascade_trellis_lawful : Lawful (cascade_trellis outer inner)
  cascade_trellis_lawful = by_test (nat_le (outer.states * inner.states) most_states) refl
