use Rattle.std.proofs.Common.{◌≡◌, ◌*◌, ◌^◌, ◌<◌, ◌≤◌, length, take, Some, sym, ◌∙◌, subst, arith, length-take, rules}
use Rattle.std.specs.List.{AllByRecursion}
use Rattle.model.specs.Ranges.{InRange, most_cost}
use Rattle.algebras.specs.CostCounts.{cheapest_with_count}
use Rattle.algebras.specs.TwoCosts.{two_cheapest}
use Rattle.algebras.specs.CostCountLaws.{cost_count_laws}
use Rattle.algebras.specs.TwoLaws.{two_laws}
use Rattle.paths.specs.Sums.{path_sum}
use Rattle.survivors.specs.Ranks.{tied, two, gathered}
use Rattle.survivors.specs.Traces.{EndsAt, StandsAt}
use Rattle.survivors.proofs.Ranking.{sounds_more}
use Rattle.survivors.proofs.Surveying.{costs_of, gathered_sum, ties_are, second_is}
use Rattle.survivors.proofs.standings.survey.Goals as goal

pub gather-all-requires-clause-sounds : goal.gather-all-requires-clause-sounds
gather-all-requires-clause-sounds g c = sounds_more (length (take 512 c.args.samples.now) * most_cost) (2 ^ 61) c.fill-row.result (simp length-take (omega arith)) c.fill-row.ensures.ranked.sounds

pub returns-in_err-first-clause-standing : goal.returns-in_err-first-clause-standing
returns-in_err-first-clause-standing g c =
    let d = g.T.Trellis.meaning c.args.trellis.now in
    let p = g.M.Measure.costs c.args.measure.now in
    let lawful = g.met.T.Trellis.lawful c.args.trellis.now in
    let xs = take 512 c.args.samples.now in
    let row = costs_of d lawful p c.args.start xs c.fill-row.result c.rank_costs.result (search rules) c.fill-row.ensures.ranked c.rank_costs.ensures in
    subst (StandsAt d p c.args.start c.args.end xs) (sym c.from_residual.ensures) (subst (EndsAt d p c.args.start c.args.end xs) c.in_err-first.was (c.ending.ensures p c.args.start xs row))

pub returns-clause-standing : goal.returns-clause-standing
returns-clause-standing g c =
    let d = g.T.Trellis.meaning c.args.trellis.now in
    let p = g.M.Measure.costs c.args.measure.now in
    let lawful = g.met.T.Trellis.lawful c.args.trellis.now in
    let start = c.args.start in
    let end = c.args.end in
    let xs = take 512 c.args.samples.now in
    let n : length xs ≤ 512 = simp length-take (omega arith) in
    let ranked = c.fill-row.ensures.ranked in
    let row = costs_of d lawful p start xs c.fill-row.result c.rank_costs.result (search rules) ranked c.rank_costs.ensures in
    let range : AllByRecursion InRange xs = c.fill-row.ensures.range in
    let all = c.gather-all.result in
    let fits : all.count < 2 ^ 64 = search rules in
    let n_tied : tied all ≡ gathered cheapest_with_count tied end c.fill-row.result c.states.result = c.gather-all.ensures.tied in
    let n_two : two all ≡ gathered two_cheapest two end c.fill-row.result c.states.result = c.gather-all.ensures.two in
    let is_tied : tied all ≡ path_sum d p cheapest_with_count start end xs = n_tied ∙ gathered_sum cheapest_with_count cost_count_laws tied p d lawful start end xs c.fill-row.result c.states.result c.states.ensures ranked.tied in
    let is_two : two all ≡ path_sum d p two_cheapest start end xs = n_two ∙ gathered_sum two_cheapest two_laws two p d lawful start end xs c.fill-row.result c.states.result c.states.ensures ranked.two in
    let bounded = g.met.M.Measure.bounded c.args.measure.now in
    let at : EndsAt d p start end xs (Some c.in_ok-first.first) = subst (EndsAt d p start end xs) c.in_ok-first.was (c.ending.ensures p start xs row) in
    let sorted = c.gather-all.ensures.sound.sorted in (
      at.0,
      at.1,
      at.2,
      at.3,
      ties_are d lawful p bounded start end xs n range all sorted fits is_tied is_two at.0 at.1,
      c.as_cost.ensures ∙ second_is d lawful p bounded start end xs n range all sorted fits is_tied is_two at.0 at.1,
    )
