use Rattle.std.proofs.Common.{◌≡◌, suc, ◌-◌, length}
use Rattle.records.specs.Seen.{with_held}
use Rattle.recordings.specs.Recordings.{read_blocks}
use Rattle.recordings.proofs.steps.read_blocks.Given as goal

abbrev pub invariant-loop-payload : goal.invariant-loop-payload
invariant-loop-payload g l =
    (read_blocks (suc (length l.recording)) l.recording l.place l.record.seen.held ≡ read_blocks (suc (length l.recording)) l.recording l.initial.place l.initial.record.seen.held)
    × (l.record.seen ≡ with_held l.initial.record.seen l.record.seen.held)

abbrev pub decreases-loop-payload : goal.decreases-loop-payload
decreases-loop-payload g l = length l.recording - l.place
