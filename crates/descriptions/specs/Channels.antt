-- The trellis and the measure that a setup stands for.
use Rattle.std.specs.Prelude.{ℕ, ℤ}
use Rattle.model.specs.Trellises.{Diagram}
use Rattle.lines.specs.declared.form.CodeLine.{CodeLine}
use Rattle.lines.specs.declared.form.RllLine.{RllLine}
use Rattle.lines.specs.declared.form.TapsLine.{TapsLine}
use Rattle.lines.specs.declared.form.MeasureLine.{MeasureLine}
use Rattle.lines.specs.declared.form.MeasureLine.TheVariants.{Square as SquareLine, Bits as BitsLine}
use Rattle.arrays.specs.Lists.{list_items}
use Rattle.setups.specs.declared.setup.TrellisSetup.{TrellisSetup}
use Rattle.setups.specs.declared.setup.TrellisSetup.TheVariants.{Taps as TapsSetup, Code as CodeSetup, CodeOverTaps as CodeOverTapsSetup, RllOverTaps as RllOverTapsSetup}
use Rattle.trellises.specs.Cascades.{cascade_trellis, cascade_meaning}
use Rattle.trellises.specs.Codes.{code_trellis, code_meaning}
use Rattle.trellises.specs.RunLengths.{run_length_trellis, run_length_meaning}
use Rattle.trellises.specs.Taps.{taps_trellis, taps_meaning}
use Rattle.measures.specs.BitCounts.{bit_count, bits_measure}
use Rattle.measures.specs.Erasings.{erasing}
use Rattle.measures.specs.Squares.{square}
use Rattle.descriptions.specs.declared.channel.Channel.{Channel}
use Rattle.descriptions.specs.declared.channel.Channel.TheVariants.{Taps, Code, CodeOverTaps, RllOverTaps}
use Rattle.descriptions.specs.declared.measure.ChannelMeasure.{ChannelMeasure}
use Rattle.descriptions.specs.declared.measure.ChannelMeasure.TheVariants.{Square, Bits}

-- the trellis of each line
abbrev pub code_of : CodeLine → Diagram
code_of l = code_trellis l.constraint_length l.inversion (list_items l.generators)

abbrev pub taps_of : TapsLine → Diagram
taps_of l = taps_trellis l.letters (list_items l.taps)

abbrev pub run_length_of : RllLine → Diagram
run_length_of l = run_length_trellis l.d l.k

-- the trellis of a setup: a code or a run-length limit is cascaded over taps
abbrev pub channel_of : TrellisSetup → Diagram
channel_of (TapsSetup t) = taps_of t
channel_of (CodeSetup c) = code_of c
channel_of (CodeOverTapsSetup c t) = cascade_trellis (code_of c) (taps_of t)
channel_of (RllOverTapsSetup r t) = cascade_trellis (run_length_of r) (taps_of t)

-- what a channel means
abbrev pub channel_meaning : Channel → Diagram
channel_meaning (Taps t) = taps_meaning t
channel_meaning (Code t) = code_meaning t
channel_meaning (CodeOverTaps t) = cascade_meaning code_meaning taps_meaning t
channel_meaning (RllOverTaps t) = cascade_meaning run_length_meaning taps_meaning t

-- what the measure of a line costs, before erasing
abbrev pub measure_below : MeasureLine → ℤ → ℤ → ℕ
measure_below SquareLine = square
measure_below (BitsLine w) = bits_measure w

-- and with erased samples for nothing
abbrev pub measure_of : MeasureLine → ℤ → ℤ → ℕ
measure_of l = erasing (measure_below l)

-- what a measure of either kind costs
abbrev pub measure_meaning : ChannelMeasure → ℤ → ℤ → ℕ
measure_meaning (Square m) = square
measure_meaning (Bits m) = bit_count m.width
