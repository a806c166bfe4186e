-- What a record answers that is settled after a list of calls: the law over runs.
use Rattle.std.specs.Prelude.{◌≡◌, ℕ, Bool, true, false, List, ℤ, IfOk, Some, None, Option, Result}
use Rattle.model.specs.declared.refusal.Refusal.{Refusal}
use Rattle.model.specs.Refusals.{answer}
use Rattle.model.specs.Trellises.{Diagram}
use Rattle.algebras.specs.Semirings.{Semiring}
use Rattle.paths.specs.Laws.{AnyList}
use Rattle.paths.specs.Rows.{row_check, RowsLeft}
use Rattle.records.specs.declared.answers.Answers.{Answers}
use Rattle.records.specs.Held.{Held}
use Rattle.records.specs.Reports.{AnswersReport}

-- what is lent to the calls: a buffer for letters, and two rows of weights
pub record Lent (W : Type 0) : Type 0 where
  pub letters : List ℕ
  pub first : List W
  pub second : List W

abbrev pub lent : {W : Type 0} → List ℕ → List W → List W → Lent W
lent ls us vs = record { letters = ls; first = us; second = vs }

module _ {W : Type 0} (d : Diagram) (cost : ℤ → ℤ → ℕ) (r : Semiring W) (h : Held) where
  -- what a weigh answers over two rows, from us and vs to us' and vs'
  pub record AnswersWeigh (a : Result W Refusal) (us us' vs vs' : List W) : Type 0 where
    -- 26 exactly where a row has fewer entries than there are states, and then both rows stay
    pub checked : answer a ≡ row_check d us vs
    -- else the sum of the weights of all admissible paths, over any list that has each of them once
    pub sum : IfOk a (AnyList d cost r h.start h.end h.samples)
    -- the sums over the paths to each state in the first row, zeros in the second, and nothing else changed
    pub rows : RowsLeft d cost r h.start h.samples us us' vs vs'

  -- what a record answers that holds h: a report and a weigh if it is settled; if it listens, it is asked nothing and what was lent stays
  abbrev pub AnswersAs : Bool → ℕ → Lent W → Lent W → Option (Answers W) → Type 0
  AnswersAs true place old new None = ⊥
  AnswersAs true place old new (Some a) = AnswersReport d cost h place a.report old.letters new.letters × AnswersWeigh a.weigh old.first new.first old.second new.second
  AnswersAs false place old new None = new ≡ old
  AnswersAs false place old new (Some a) = ⊥
