use Rattle.std.proofs.Common.{◌≡◌, ◌+◌, ◌-◌, ◌*◌, ◌^◌, ◌<◌, ◌≤◌, length, get_or, take, pos, sym, refl, ◌∙◌, subst, arith, length-drop, length-take, take_all, w16, SFits, to_z, of_z, rules, below_more}
use Rattle.std.proofs.ByRecursion.{All-from_get_or}
use Rattle.std.proofs.lemmas.Int.{to_z-of_z}
use Rattle.std.proofs.lemmas.List.{drop-replicate}
use Rattle.std.specs.List.{AllByRecursion}
use Rattle.model.specs.Ranges.{InRange, most_cost}
use Rattle.paths.specs.Branches.{Within, branches_of}
use Rattle.paths.proofs.Branching.{all_within, within_more}
use Rattle.survivors.specs.Rows.{Tabled}
use Rattle.survivors.specs.Ranks.{nowhere, costs_in, Advanced, Ranked, ClearPast}
use Rattle.survivors.proofs.Tabling.{zeros_part, tabled_more, rest_more}
use Rattle.survivors.proofs.Ranking.{sounds_more}
use Rattle.survivors.proofs.Surveying.{in_range_of, ranked_none, clear_past, kept_step, ranked_more}
use Rattle.survivors.proofs.choices.rank_all.Goals as goal

pub loop-k-init : goal.loop-k-init
loop-k-init g c = (
  λ start h. (h, record { chosen = λ k s l. absurd (omega arith); no_state = λ k s l. absurd (omega arith) }),
  λ i l. c.requires.zeros i,
  λ i l. absurd (omega arith),
  clear_past (g.T.Trellis.meaning c.args.trellis.now) (g.met.T.Trellis.lawful c.args.trellis.now) (g.M.Measure.costs c.args.measure.now) c.args.start c.states-n.result c.states-n.ensures c.open_ranks-row.result c.open_ranks-row.ensures,
  drop-replicate c.states-n.result 64 nowhere,
)

pub advance_ranks-requires : goal.advance_ranks-requires
advance_ranks-requires g c =
    let d = g.T.Trellis.meaning c.args.trellis.now in
    let lawful = g.met.T.Trellis.lawful c.args.trellis.now in
    let p = g.M.Measure.costs c.args.measure.now in
    let k = c.loop-k.k in
    let xs = c.args.samples.now in
    let a = c.place_of-from.result in
    let old = (c.loop-k.invariant.0 c.args.start (ranked_none d lawful p c.args.start c.states-n.result c.states-n.ensures c.open_ranks-row.result c.open_ranks-row.ensures)).0 in
    record {
      few = omega (arith, lawful.few_states, c.states-n.ensures);
      within = subst (AllByRecursion (Within 64 c.states-n.result)) (sym (c.as_slice-branches.ensures ∙ c.list_branches-list.ensures)) (within_more d.states 64 c.states-n.result lawful.few_states (omega (arith, c.states-n.ensures)) (branches_of d) (all_within d lawful));
      bytes = simp (length-take, length-drop) (omega arith);
      sounds = sounds_more (length (take k xs) * most_cost) (2 ^ 61) c.loop-k.row (simp length-take (omega arith)) old.sounds;
      clear = refl;
      row = c.loop-k.invariant.3;
      next = c.loop-k.invariant.4;
      zeros = zeros_part a (a + 64 - a) c.loop-k.choices (λ i l. c.loop-k.invariant.1 i (omega (arith, c.place_of-from.ensures)));
    }

pub loop-k-preserved : goal.loop-k-preserved
loop-k-preserved g c =
    let d = g.T.Trellis.meaning c.args.trellis.now in
    let p = g.M.Measure.costs c.args.measure.now in
    let lawful = g.met.T.Trellis.lawful c.args.trellis.now in
    let xs = c.args.samples.now in
    let k = c.loop-k.k in
    let x = get_or xs k (pos 0) in
    let row = c.loop-k.row in
    let next = c.advance_ranks.new.row in
    let bytes = c.advance_ranks.new.bytes in
    let fits : SFits w16 x = search rules in
    let step : Advanced p x row (branches_of d) next bytes =
    subst (λ z. Advanced p z row (branches_of d) next bytes) (to_z-of_z w16 x fits)
    (subst (λ bs. Advanced p (to_z w16 (of_z w16 x)) row bs next bytes) (c.as_slice-branches.ensures ∙ c.list_branches-list.ensures) c.advance_ranks.ensures.advanced) in
    let lt : k < length xs = omega arith in
    let a = c.place_of-from.result in
    let from : a ≡ k * 64 = omega (arith, c.place_of-from.ensures) in
    let room : a ≤ length c.loop-k.choices = omega arith in
    let wide : length bytes ≡ 64 = omega arith in
    let kept = kept_step d lawful p c.args.start xs k lt row next bytes step in
    let old = (c.loop-k.invariant.0 c.args.start (ranked_none d lawful p c.args.start c.states-n.result c.states-n.ensures c.open_ranks-row.result c.open_ranks-row.ensures)).0.costs in (
      λ start h.
          let r = c.loop-k.invariant.0 start h in (
            ranked_more d lawful p start xs k lt row next bytes step r.0,
            tabled_more d lawful p start xs k lt (costs_in row) (costs_in next) bytes r.0.costs kept c.loop-k.choices a (a + 64 - a) from room wide r.1,
          ),
      λ i l. rest_more d lawful p c.args.start xs k lt (costs_in row) (costs_in next) bytes old kept c.loop-k.choices a (a + 64 - a) from room wide (omega arith) c.loop-k.invariant.1 i l,
      below_more (λ i. InRange (get_or xs i (pos 0))) k c.loop-k.invariant.2 (in_range_of x fits),
      c.advance_ranks.ensures.row,
      c.advance_ranks.ensures.next,
    )

pub returns : goal.returns
returns g c =
    let d = g.T.Trellis.meaning c.args.trellis.now in
    let p = g.M.Measure.costs c.args.measure.now in
    let lawful = g.met.T.Trellis.lawful c.args.trellis.now in
    let xs = c.args.samples.now in
    let start = c.args.start in
    let r = c.loop-k.invariant.0 start (ranked_none d lawful p start c.states-n.result c.states-n.ensures c.open_ranks-row.result c.open_ranks-row.ensures) in
    record {
      ranked = subst (λ ys. Ranked d p start ys c.loop-k.row) (take_all c.loop-k.k xs (omega arith)) r.0;
      past = subst (λ n. ClearPast n c.loop-k.row) c.states-n.ensures c.loop-k.invariant.3;
      range = All-from_get_or InRange xs (pos 0) (λ i l. c.loop-k.invariant.2 i (omega arith));
      table = subst (λ j. Tabled d p start xs j c.loop-k.choices) (let e : c.loop-k.k ≡ length xs = omega arith in e) r.1;
      rest = λ i l. c.loop-k.invariant.1 i (omega arith);
    }
