-- The laws of each trellis by what it means, for those who build on it.
use Rattle.std.proofs.Common.{rules}
use Rattle.model.specs.Trellises.{Diagram, Lawful}
use Rattle.model.specs.Bare.{or_bare_lawful}
use Rattle.trellises.specs.declared.code.encoder.Encoder.{Encoder}
use Rattle.trellises.specs.declared.or_bare.OrBare.{OrBare}
use Rattle.trellises.specs.declared.run_length.limits.Limits.{Limits}
use Rattle.trellises.specs.declared.taps.channel.Channel.{Channel}
use Rattle.trellises.specs.Cascades.{cascade_trellis}
use Rattle.trellises.specs.Codes.{encoder_meaning, code_meaning}
use Rattle.trellises.specs.RunLengths.{limits_meaning, run_length_meaning}
use Rattle.trellises.specs.Taps.{channel_meaning, taps_meaning}
use Rattle.trellises.specs.Cascading.{cascade_trellis_lawful}
use Rattle.trellises.specs.Channels.{channel_lawful}
use Rattle.trellises.specs.Encoders.{encoder_lawful}

pub taps_lawful : (t : OrBare Channel) → Lawful (taps_meaning t)
taps_lawful t = or_bare_lawful channel_meaning channel_lawful t.accepted

pub code_lawful : (t : OrBare Encoder) → Lawful (code_meaning t)
code_lawful t = or_bare_lawful encoder_meaning encoder_lawful t.accepted

limits_lawful : (l : Limits) → Lawful (limits_meaning l)
limits_lawful l = search rules

pub run_length_lawful : (t : OrBare Limits) → Lawful (run_length_meaning t)
run_length_lawful t = or_bare_lawful limits_meaning limits_lawful t.accepted

pub cascade_lawful : (outer inner : Diagram) → Lawful outer → Lawful inner → Lawful (cascade_trellis outer inner)
cascade_lawful outer inner p q = cascade_trellis_lawful outer inner p q
