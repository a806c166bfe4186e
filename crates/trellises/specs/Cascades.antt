-- The cascade of an outer trellis over an inner one, whose letters are the outer's labels.
use Rattle.std.specs.Prelude.{ℕ, ◌+◌, ◌*◌, ◌/◌, ◌%◌, Bool, ℤ, pos, negsuc, Some, None, nat_le}
use Rattle.model.specs.declared.refusal.Refusal.TheVariants.{CascadeStates}
use Rattle.model.specs.Refusals.{refusal_number}
use Rattle.model.specs.Trellises.{Branch, Diagram, most_states}
use Rattle.trellises.specs.Bare.{unless_refused}
use Rattle.trellises.specs.Checks.{checked}
use Rattle.trellises.specs.declared.cascade.Cascade.{Cascade}

-- the branch on a label: a negative label is no letter
abbrev pub on_label : Diagram → ℕ → ℤ → Branch
on_label d s (pos a) = d.branch s a
on_label d s (negsuc a) = None

-- the inner branch, if there is one, beside the outer's next state o: each outer state has n inner ones
abbrev pub beside : ℕ → ℕ → Branch → Branch
beside n o None = None
beside n o (Some b) = Some (o * n + b.0, b.1)

-- after the outer branch, if there is one, the inner branch on its label, from the inner state i
abbrev pub then_inner : Diagram → ℕ → Branch → Branch
then_inner inner i None = None
then_inner inner i (Some b) = beside inner.states b.0 (on_label inner i b.1)

-- the state is the outer state times the inner number of states, plus the inner state
abbrev pub cascade : Diagram → Diagram → Diagram
cascade outer inner = record {
  states = outer.states * inner.states;
  letters = outer.letters;
  branch = λ s a. then_inner inner (s % inner.states) (outer.branch (s / inner.states) a);
}

-- no more states than a trellis may have
abbrev pub cascade_fits : Diagram → Diagram → Bool
cascade_fits outer inner = nat_le (outer.states * inner.states) most_states

-- 0, or why the two make no cascade
abbrev pub cascade_check : Diagram → Diagram → ℕ
cascade_check outer inner = checked (cascade_fits outer inner) (refusal_number CascadeStates) 0

-- what the two make
abbrev pub cascade_trellis : Diagram → Diagram → Diagram
cascade_trellis outer inner = unless_refused (cascade_check outer inner) (cascade outer inner)

-- what a cascade means, by what its parts mean
abbrev pub cascade_meaning : {O I : Type 0} → (O → Diagram) → (I → Diagram) → Cascade O I → Diagram
cascade_meaning outer inner t = cascade_trellis (outer t.outer) (inner t.inner)
