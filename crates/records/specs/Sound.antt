-- What a settled table is: its bytes and its standing are those of a trellis and a measure, and of its own start, end and samples.
use Rattle.std.specs.Prelude.{ℕ, ℤ, Option}
use Rattle.model.specs.Trellises.{Diagram}
use Rattle.survivors.specs.Choices.{TableOf}
use Rattle.survivors.specs.Traces.{StandsAt}
use Rattle.survivors.specs.declared.standing.Standing.{Standing}
use Rattle.records.specs.declared.table.Table.{Table}
use Rattle.records.specs.Tables.{held_of}

pub record Sound (d : Diagram) (cost : ℤ → ℤ → ℕ) (t : Table) (standing : Option Standing) : Type 0 where
  -- a byte for each step and state: the last branch of the first among the cheapest paths to the state up to the step
  pub chosen : TableOf d cost t.start (held_of t).samples t.choices
  -- where the first among the cheapest admissible paths ends, what it costs, how many cost as little, and the least cost of the others; absent where there is no path
  pub stands : StandsAt d cost t.start t.end (held_of t).samples standing
