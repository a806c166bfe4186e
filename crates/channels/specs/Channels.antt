-- Small channels, worked out: what a record on each of them reports, and how many paths there are. The trellises are
-- those of the worked branches.
use Rattle.std.specs.Prelude.{◌≡◌, ℕ, ◌+◌, List, [], ◌∷◌, ℤ, pos, negsuc, Some, None, Option}
use Rattle.model.specs.Ranges.{erased_mark}
use Rattle.model.specs.Trellises.{Diagram}
use Rattle.trellises.specs.Cascades.{cascade_trellis}
use Rattle.trellises.specs.Examples.{two_taps, one_tap, small_code, ccsds_code, two_three, Leads, Missing}
use Rattle.measures.specs.BitCounts.{bits_measure}
use Rattle.measures.specs.Erasings.{erasing}
use Rattle.measures.specs.Squares.{square}
use Rattle.algebras.specs.Counts.{counting}
use Rattle.paths.specs.Paths.{Path}
use Rattle.paths.specs.Sums.{path_sum}
use Rattle.records.specs.declared.report.Report.{Report}
use Rattle.records.specs.Held.{Held}
use Rattle.records.specs.Reports.{reported_path, report_of}

-- the squared difference, with erased samples for nothing
abbrev pub squares : ℤ → ℤ → ℕ
squares = erasing square

-- the two lowest bits that differ, with erased samples for nothing
abbrev pub two_bits : ℤ → ℤ → ℕ
two_bits = erasing (bits_measure (pos 2))

-- what is held: samples, from state 0 to any state, or from state 0 back to it
abbrev pub to_any : List ℤ → Held
to_any xs = record { start = Some 0; end = None; samples = xs }

abbrev pub to_zero : List ℤ → Held
to_zero xs = record { start = Some 0; end = Some 0; samples = xs }

-- a path from state 0
abbrev pub by_letters : List ℕ → Path
by_letters w = record { first = 0; letters = w }

-- what a report says of a path from state 0: its last state, its cost, how many cost that, and the least that another costs
abbrev pub says : ℕ → ℕ → ℕ → Option ℕ → Report
says last cost ties second = record { first = 0; last = last; cost = cost; ties = ties; second = second }

-- the path from state 0 by these letters is reported, with this report
pub record Reported (d : Diagram) (cost : ℤ → ℤ → ℕ) (h : Held) (letters : List ℕ) (r : Report) : Type 0 where
  pub path : reported_path d cost h ≡ Some (by_letters letters)
  pub report : report_of d cost h (by_letters letters) ≡ r

-- no path is admissible
abbrev pub Unreported : Diagram → (ℤ → ℤ → ℕ) → Held → Type 0
Unreported d cost h = reported_path d cost h ≡ None

-- so many paths are admissible
abbrev pub Counted : Diagram → (ℤ → ℤ → ℕ) → Held → ℕ → Type 0
Counted d cost h n = (path_sum d cost counting h.start h.end h.samples).value ≡ n

pub record SmallChannels : Type 0 where
  -- taps 1, 1 with two letters on the samples 0, 2, 1: of eight paths two cost 1, and that which ends in state 0 is reported
  pub three_counted : Counted two_taps squares (to_any (pos 0 ∷ pos 2 ∷ pos 1 ∷ [])) 8
  pub three_samples : Reported two_taps squares (to_any (pos 0 ∷ pos 2 ∷ pos 1 ∷ [])) (1 ∷ 1 ∷ 0 ∷ []) (says 0 1 2 (Some 1))
  -- on the samples -1, 0: two paths cost 1
  pub two_samples : Reported two_taps squares (to_any (negsuc 0 ∷ pos 0 ∷ [])) (1 ∷ 0 ∷ []) (says 0 1 2 (Some 1))
  -- on no sample: one path, with no letters, that costs nothing, and no other
  pub no_samples : Reported two_taps squares (to_any []) [] (says 0 0 1 None)
  -- on one erased sample: both paths cost nothing
  pub one_erased : Reported two_taps squares (to_any (erased_mark ∷ [])) (0 ∷ []) (says 0 0 2 (Some 0))
  -- the code with the octal generators 7 and 5, back to state 0: one bit of the last label differs, and the only other path costs 4
  pub code_samples : Reported small_code two_bits (to_zero (pos 3 ∷ pos 2 ∷ pos 2 ∷ [])) (1 ∷ 0 ∷ 0 ∷ []) (says 0 1 1 (Some 4))
  -- the run-length limit 2 to 3, back to state 0, whatever the measure and the samples: no path on one sample, nor on two
  pub limit_one : (cost : ℤ → ℤ → ℕ) (x : ℤ) → Unreported two_three cost (to_zero (x ∷ []))
  pub limit_two : (cost : ℤ → ℤ → ℕ) (x y : ℤ) → Unreported two_three cost (to_zero (x ∷ y ∷ []))
  -- and a single path on three, by two zeros and a one
  pub limit_three : (cost : ℤ → ℤ → ℕ) (x y z : ℤ) → Reported two_three cost (to_zero (x ∷ y ∷ z ∷ [])) (0 ∷ 0 ∷ 1 ∷ []) (says 0 (cost (pos 0) x + cost (pos 0) y + cost (pos 1) z) 1 None)
  -- the code over one tap: with four letters the label 3 is a letter of the tap, with two it is none, and the branch is missing
  pub over_four : Leads (cascade_trellis small_code (one_tap 4)) 0 1 2 (pos 3)
  pub over_two : Missing (cascade_trellis small_code (one_tap 2)) 0 1
  -- the CCSDS code: a one leads to state 32, and of its two bits the second is inverted
  pub ccsds_one : Leads ccsds_code 0 1 32 (pos 2)
