use Rattle.std.proofs.Common.{◌≡◌}
use Rattle.records.specs.Seen.{with_held}
use Rattle.blocks.specs.Samples.{samples_of}
use Rattle.recordings.specs.Recordings.{take_all}
use Rattle.recordings.proofs.steps.take_samples.Given as goal

abbrev pub invariant-loop-sample : goal.invariant-loop-sample
invariant-loop-sample g l =
    (take_all l.place l.record.seen.held l.sample-iterator ≡ take_all l.place l.initial.record.seen.held (samples_of l.payload))
    × (l.record.seen ≡ with_held l.initial.record.seen l.record.seen.held)
