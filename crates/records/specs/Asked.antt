-- What a settled record is asked, on what it shows: meaning and costs are those of its trellis and its measure.
use Rattle.std.specs.Prelude.{ℕ, Bool, List, length, ℤ, Option}
use Rattle.model.specs.Trellises.{Diagram}
use Rattle.algebras.specs.Semirings.{Semiring}
use Rattle.paths.specs.Paths.{Path}
use Rattle.paths.specs.Sums.{path_sum}
use Rattle.records.specs.declared.report.Report.{Report}
use Rattle.records.specs.Reports.{has_room, reported_path, report_of}
use Rattle.records.specs.Seen.{Seen}

-- the path that it reports, if there is one
abbrev pub path_in : {T M : Type 0} → (T → Diagram) → (M → ℤ → ℤ → ℕ) → Seen T M → Option Path
path_in meaning costs s = reported_path (meaning s.trellis) (costs s.measure) s.held

-- the report of a path
abbrev pub report_in : {T M : Type 0} → (T → Diagram) → (M → ℤ → ℤ → ℕ) → Seen T M → Path → Report
report_in meaning costs s p = report_of (meaning s.trellis) (costs s.measure) s.held p

-- its letters have room in a buffer from a place on
abbrev pub room_in : {T M : Type 0} → Seen T M → ℕ → List ℕ → Bool
room_in s place buffer = has_room (length s.held.samples) place (length buffer)

-- the sum of the weights of all admissible paths
abbrev pub sum_in : {T M W : Type 0} → (T → Diagram) → (M → ℤ → ℤ → ℕ) → Semiring W → Seen T M → W
sum_in meaning costs r s = path_sum (meaning s.trellis) (costs s.measure) r s.held.start s.held.end s.held.samples
