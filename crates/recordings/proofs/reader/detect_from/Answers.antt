use Rattle.std.proofs.Common.{suc, length, ap, ◌∙◌, subst, rules}
use Rattle.model.specs.Trellises.{Lawful}
use Rattle.measures.specs.Erasings.{erasing}
use Rattle.descriptions.specs.Channels.{channel_meaning, measure_meaning}
use Rattle.descriptions.specs.ChannelLaws.{channel_lawful}
use Rattle.recordings.specs.Recordings.{read_blocks}
use Rattle.recordings.proofs.Detecting.{detects_from}
use Rattle.recordings.proofs.reader.detect_from.Goals as goal

pub returns-in_err-end : goal.returns-in_err-end
returns-in_err-end c = record { value = search rules; letters = search rules; lawful = subst Lawful c.record_for-record.ensures.trellis (channel_lawful c.record_for-record.result.seen.trellis) }

pub returns : goal.returns
returns c =
    let bytes = c.args.recording.now in
    let made = c.record_for-record.ensures in
    let read = c.in_ok-end.ensures in
    let after = c.read_blocks.new.record in
    let found = detects_from bytes c.args.at c.args.from c.in_ok-end.end c.args.setup.now after.seen.held (channel_meaning after.seen.trellis) (erasing (measure_meaning after.seen.measure.below))
    c.args.letters.now c.detect_at.new.letters _ (ap (λ s. channel_meaning s.trellis) read.others ∙ made.trellis) (ap (λ s. erasing (measure_meaning s.measure.below)) read.others ∙ made.measure)
    (read.held ∙ ap (read_blocks (suc (length bytes)) bytes c.args.from) made.held) (record { value = c.detect_at.ensures.value; letters = c.detect_at.ensures.letters }) in
    record { value = found.0; letters = found.1; lawful = subst Lawful made.trellis (channel_lawful c.record_for-record.result.seen.trellis) }
