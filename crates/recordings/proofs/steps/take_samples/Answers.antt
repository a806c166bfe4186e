use Rattle.std.proofs.Common.{◌≡◌, ◌∷◌, ap, sym, ◌∙◌, rules}
use Rattle.std.proofs.lemmas.Result.{err_from_is_err_and}
use Rattle.recordings.specs.Recordings.{take_all}
use Rattle.recordings.proofs.Taking.{taken_no}
use Rattle.recordings.proofs.steps.take_samples.Goals as goal

pub returns-in_err-at_block-clause-held : goal.returns-in_err-at_block-clause-held
returns-in_err-at_block-clause-held g c =
    let l = c.loop-sample in
    let e = err_from_is_err_and c.from_residual.result c.from_residual.ensures.1 in
    let first : l.sample-iterator ≡ c.in-Some.sample ∷ c.next.new.self = search rules in
    let no = taken_no c.args.place l.record.seen.held c.in-Some.sample c.next.new.self c.take.result _ c.in_err-at_block.ensures c.take.ensures.checked in
    rw (e.1, e.2) (no ∙ ap (take_all c.args.place l.record.seen.held) (sym first) ∙ l.invariant.0)
