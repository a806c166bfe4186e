-- What a trellis means, and what is true of every trellis.
use Rattle.std.specs.Prelude.{◌≡◌, ℕ, ◌<◌, ◌≤◌, cond, ℤ, pos, negsuc, is_some, Some, None, Option, nat_lt}
use Rattle.model.specs.declared.refusal.Refusal.TheVariants.{NotAState}
use Rattle.model.specs.Ranges.{InRange}
use Rattle.model.specs.Refusals.{refusal_number}

-- a branch, if there is one: a next state and a label
abbrev pub Branch : Type 0
Branch = Option (ℕ × ℤ)

-- a trellis diagram, one step of it: how many states and letters, and the branch of each state and letter
pub record Diagram : Type 0 where
  pub states : ℕ
  pub letters : ℕ
  pub branch : ℕ → ℕ → Branch

-- the branch, if there is one, leads to one of n states and its label is in range
abbrev pub StaysIn : ℕ → Branch → Type 0
StaysIn n None = Unit {0}
StaysIn n (Some b) = (b.0 < n) × InRange b.1

abbrev pub most_states : ℕ
most_states = 64

abbrev pub most_letters : ℕ
most_letters = 4

-- the laws of a trellis
pub record Lawful (d : Diagram) : Type 0 where
  pub some_state : 1 ≤ d.states
  pub few_states : d.states ≤ most_states
  pub some_letter : 1 ≤ d.letters
  pub few_letters : d.letters ≤ most_letters
  pub no_state : (s a : ℕ) → d.states ≤ s → d.branch s a ≡ None
  pub no_letter : (s a : ℕ) → d.letters ≤ a → d.branch s a ≡ None
  pub stays : (s a : ℕ) → StaysIn d.states (d.branch s a)

-- the state that a number names, if it names one
abbrev pub state_of : Diagram → ℤ → Option ℕ
state_of d (pos s) = cond (nat_lt s d.states) (Some s) None
state_of d (negsuc s) = None

-- whether a number names a state, as a check
abbrev pub state_check : Diagram → ℤ → ℕ
state_check d z = cond (is_some (state_of d z)) 0 (refusal_number NotAState)
