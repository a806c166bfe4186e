use Rattle.std.proofs.Common.{refl}
use lib.Count.{ones}
use Rattle.trellises.specs.Examples.{CodeExamples, TapsExamples, RunLengthExamples, RefusalExamples, AcceptedExamples, BareExamples}
use Rattle.trellises.proofs.examples.examples_stand.Goals as goal

codes : CodeExamples
unfolding ones
codes = (refl, refl, refl, refl)

taps : TapsExamples
taps = (refl, refl, refl, refl, refl)

limits : RunLengthExamples
limits = (refl, refl, refl, refl)

refusals : RefusalExamples
refusals = (refl, refl, refl, refl, refl, refl, refl, refl, refl)

accepted : AcceptedExamples
accepted = (refl, refl, refl, refl)

bares : BareExamples
bares = (refl, refl, refl, refl, refl, refl, refl)

pub returns : goal.returns
returns c = (codes, taps, limits, refusals, accepted, bares)
