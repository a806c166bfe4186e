-- The trellis that stands where there is none.
use Rattle.std.specs.Prelude.{Some, None, Option, refl}
use Rattle.std.proofs.Common.{arith}
use Rattle.model.specs.Trellises.{Diagram, Lawful}

-- one state, one letter, no branch
abbrev pub bare : Diagram
bare = record { states = 1; letters = 1; branch = λ s a. None }

-- what a trellis means that is there, or absent
abbrev pub or_bare : {P : Type 0} → (P → Diagram) → Option P → Diagram
or_bare f None = bare
or_bare f (Some p) = f p

pub bare_lawful : Lawful bare
bare_lawful = record {
  some_state = omega arith;
  few_states = omega arith;
  some_letter = omega arith;
  few_letters = omega arith;
  no_state = λ s a h. refl;
  no_letter = λ s a h. refl;
  stays = λ s a. tt;
}

pub or_bare_lawful : {P : Type 0} (f : P → Diagram) → ((p : P) → Lawful (f p)) → (t : Option P) → Lawful (or_bare f t)
or_bare_lawful f laws None = bare_lawful
or_bare_lawful f laws (Some p) = laws p
