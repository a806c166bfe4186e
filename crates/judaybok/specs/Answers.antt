-- What a caller in C is answered, from what a recording gives.
use Rattle.std.specs.Prelude.{ℕ, Some, None, Ok, Err, Option, Result}
use Rattle.std.specs.Option.{unwrap_or}
use Rattle.model.specs.Refusals.{Refused}
use Rattle.paths.specs.Paths.{Path}
use Rattle.recordings.specs.declared.outcome.Outcome.{Outcome}
use Rattle.recordings.specs.Recordings.{outcome_in}
use Rattle.judaybok.specs.declared.answer.JudaybokAnswer.{JudaybokAnswer}

-- the three numbers of a fault, and nothing else
abbrev pub fault_answer : Refused → JudaybokAnswer
fault_answer f = record { number = f.number; layer = f.layer; place = f.place; samples = 0; paths = 0; cost = 0; ties = 0; has_second = 0; second = 0; start = 0; end = 0 }

-- 1 where there is a second
abbrev pub presence : Option ℕ → ℕ
presence None = 0
presence (Some c) = 1

-- an outcome, with the number 0
abbrev pub outcome_answer : Outcome → JudaybokAnswer
outcome_answer o = record {
  number = 0;
  layer = 0;
  place = 0;
  samples = o.samples;
  paths = o.paths;
  cost = o.report.cost;
  ties = o.report.ties;
  has_second = presence o.report.second;
  second = unwrap_or o.report.second 0;
  start = o.report.first;
  end = o.report.last;
}

abbrev pub answer_in : Result Outcome Refused → JudaybokAnswer
answer_in (Ok o) = outcome_answer o
answer_in (Err f) = fault_answer f

abbrev pub answer_to : Result (Outcome × Path) Refused → JudaybokAnswer
answer_to r = answer_in (outcome_in r)
