use Rattle.trellises.specs.Tapping.{letters_shift}
use Rattle.trellises.proofs.taps.taps_stand.Goals as goal

pub returns : goal.returns
returns c = letters_shift
