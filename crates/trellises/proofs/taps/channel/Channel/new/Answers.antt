use Rattle.std.proofs.Common.{◌∙◌, w32, SFits}
use Rattle.std.proofs.lemmas.Int.{to_z-of_z}
use Rattle.std.proofs.lemmas.List.{take_all}
use Rattle.trellises.specs.Tapping.{accepted, accepted_few}
use Rattle.trellises.proofs.taps.channel.Channel.new.Goals as goal

pub invariant_of-result-clause-small : goal.invariant_of-result-clause-small
invariant_of-result-clause-small c =
    let hs = c.args.taps.now in
    let fits : SFits w32 c.args.letters = c.ranges.letters in
    let facts = accepted c.args.letters hs (simp to_z-of_z at c.in_ok-check.ensures) in
    rw (c.from_slice.ensures ∙ take_all 7 hs facts.within) facts.small

pub invariant_of-result-clause-few : goal.invariant_of-result-clause-few
invariant_of-result-clause-few c =
    let fits : SFits w32 c.args.letters = c.ranges.letters in
    rw c.pow.ensures (simp to_z-of_z (accepted_few c.args.letters c.args.taps.now (simp to_z-of_z at c.in_ok-check.ensures)))
