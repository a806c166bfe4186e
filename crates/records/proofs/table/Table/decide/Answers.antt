use Rattle.std.proofs.Common.{◌≡◌, take, ap, ◌∙◌, subst}
use Rattle.survivors.specs.Choices.{TableOf}
use Rattle.survivors.specs.Traces.{StandsAt}
use Rattle.arrays.specs.Lists.{list_items}
use Rattle.records.proofs.Keeping.{all_counted}
use Rattle.records.proofs.table.Table.decide.Goals as goal

pub returns-clause-sound : goal.returns-clause-sound
returns-clause-sound g c =
    let s = c.args.self.now in
    let d = g.T.Trellis.meaning c.args.trellis.now in
    let p = g.M.Measure.costs c.args.measure.now in
    let counted : take 512 c.as_slice.result.now ≡ list_items s.samples = ap (take 512) c.as_slice.ensures ∙ all_counted s in
    let chosen = subst (λ ys. TableOf d p s.start ys c.survey.new.choices) counted c.survey.ensures.table in
    let stands = subst (λ ys. StandsAt d p s.start s.end ys c.survey.result) counted c.survey.ensures.standing in
    record { chosen = chosen; stands = stands }
