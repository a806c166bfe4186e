use Rattle.std.proofs.Common.{◌^◌, ◌<◌, ◌∙◌, w16, SFits, rules}
use Rattle.std.proofs.lemmas.Int.{to_z-of_z}
use Rattle.trellises.specs.Taps.{memory, taps_of}
use Rattle.trellises.specs.Tapping.{label_is, next_is}
use Rattle.trellises.proofs.taps.channel.Channel.step.Goals as goal

pub returns-clause-next : goal.returns-clause-next
returns-clause-next c =
    let e = c.args.self.now in
    let state : c.args.state < e.letters ^ memory (taps_of e) = rw (← e.all) c.requires.state in
    rw e.all (next_is e.letters (taps_of e) c.args.state c.args.letter e.some state c.requires.letter)

pub returns-clause-label : goal.returns-clause-label
returns-clause-label c =
    let e = c.args.self.now in
    let state : c.args.state < e.letters ^ memory (taps_of e) = rw (← e.all) c.requires.state in
    let fits : SFits w16 c.label.result = search rules in
    simp to_z-of_z (rw e.all at c.label.ensures ∙ label_is e.letters (taps_of e) c.args.state c.args.letter e.some state c.requires.letter)
