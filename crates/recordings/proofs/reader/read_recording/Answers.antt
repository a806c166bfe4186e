use Rattle.recordings.proofs.Accepted.{accepts}
use Rattle.recordings.proofs.reader.read_recording.Goals as goal

pub returns : goal.returns
returns c =
    let e = c.read.ensures in
    record { value = e.value; letters = e.letters; accepts = accepts c.args.recording.now c.args.at c.args.letters.now c.read.new.letters _ e.value e.letters e.lawful }
