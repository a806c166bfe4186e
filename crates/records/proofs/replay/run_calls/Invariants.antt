use Rattle.std.proofs.Common.{◌≡◌, take}
use Rattle.records.specs.Runs.{settled_after, held_after}
use Rattle.records.specs.Records.{is_settled, held_in, trellis_of, measure_of}
use Rattle.records.proofs.replay.run_calls.Given as goal

abbrev pub invariant-loop-call : goal.invariant-loop-call
invariant-loop-call g l =
    (is_settled l.record ≡ settled_after (take l.call-index l.calls))
    × (held_in l.record ≡ held_after (g.T.Trellis.meaning (trellis_of l.initial.record)) (take l.call-index l.calls))
    × (trellis_of l.record ≡ trellis_of l.initial.record)
    × (measure_of l.record ≡ measure_of l.initial.record)
