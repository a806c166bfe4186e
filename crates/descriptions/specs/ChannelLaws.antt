-- The laws of a channel and of its measure, kind by kind.
use Rattle.std.specs.Prelude.{◌≤◌, ℤ}
use Rattle.model.specs.Ranges.{InRange, most_cost}
use Rattle.model.specs.Trellises.{Lawful}
use Rattle.trellises.specs.Laws.{taps_lawful, code_lawful, run_length_lawful, cascade_lawful}
use Rattle.measures.proofs.Laws.{square_bounded, bits_bounded}
use Rattle.descriptions.specs.declared.channel.Channel.{Channel}
use Rattle.descriptions.specs.declared.channel.Channel.TheVariants.{Taps, Code, CodeOverTaps, RllOverTaps}
use Rattle.descriptions.specs.declared.measure.ChannelMeasure.{ChannelMeasure}
use Rattle.descriptions.specs.declared.measure.ChannelMeasure.TheVariants.{Square, Bits}
use Rattle.descriptions.specs.Channels.{channel_meaning, measure_meaning}

pub channel_lawful : (t : Channel) → Lawful (channel_meaning t)
channel_lawful (Taps t) = taps_lawful t
channel_lawful (Code t) = code_lawful t
channel_lawful (CodeOverTaps t) = cascade_lawful _ _ (code_lawful t.outer) (taps_lawful t.inner)
channel_lawful (RllOverTaps t) = cascade_lawful _ _ (run_length_lawful t.outer) (taps_lawful t.inner)

pub measure_bounded : (m : ChannelMeasure) (label sample : ℤ) → InRange label → InRange sample → measure_meaning m label sample ≤ most_cost
measure_bounded (Square m) label sample x y = square_bounded label sample x y
measure_bounded (Bits m) label sample x y = bits_bounded m label sample
