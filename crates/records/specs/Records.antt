-- A record in either state, by what it holds.
use Rattle.std.specs.Prelude.{◌≡◌, ℕ, Bool, true, false, cond, ℤ, Some, None, Option, Result}
use Rattle.model.specs.declared.refusal.Refusal.{Refusal}
use Rattle.model.specs.Refusals.{answer}
use Rattle.model.specs.Trellises.{Diagram}
use Rattle.records.specs.declared.call.Call.{Call}
use Rattle.records.specs.declared.record.Record.{Record}
use Rattle.records.specs.declared.record.Record.TheVariants.{Listening, Settled}
use Rattle.records.specs.Held.{Held}
use Rattle.records.specs.Runs.{has, turned, held_by, call_check}

abbrev pub is_settled : {T M : Type 0} → Record T M → Bool
is_settled (Listening l) = false
is_settled (Settled s) = true

abbrev pub held_in : {T M : Type 0} → Record T M → Held
held_in (Listening l) = l.seen.held
held_in (Settled s) = s.seen.held

abbrev pub trellis_of : {T M : Type 0} → Record T M → T
trellis_of (Listening l) = l.seen.trellis
trellis_of (Settled s) = s.seen.trellis

abbrev pub measure_of : {T M : Type 0} → Record T M → M
measure_of (Listening l) = l.seen.measure
measure_of (Settled s) = s.seen.measure

-- what a call answers, as a number: 0 or the refusal's; nothing where the record has no such call
abbrev pub answered : Option (Result (Unit {0}) Refusal) → Option ℕ
answered None = None
answered (Some r) = Some (answer r)

-- a call was made on a record, or nothing was done where its state has no such call: what it answers, and the record after it
pub record Made {T M : Type 0} (meaning : T → Diagram) (costs : M → ℤ → ℤ → ℕ) (old : Record T M) (call : Call) (new : Record T M) (r : Option (Result (Unit {0}) Refusal)) : Type 0 where
  pub answer_is : answered r ≡ cond (has (is_settled old) call) (Some (call_check (meaning (trellis_of old)) (costs (measure_of old)) (held_in old) call)) None
  pub settled : is_settled new ≡ cond (has (is_settled old) call) (turned (is_settled old) call) (is_settled old)
  pub held : held_in new ≡ cond (has (is_settled old) call) (held_by (meaning (trellis_of old)) (held_in old) call) (held_in old)
  pub trellis : trellis_of new ≡ trellis_of old
  pub measure : measure_of new ≡ measure_of old
