use Rattle.std.proofs.Common.{◌≡◌, ◌+◌, ◌^◌, ◌<◌, get_or, sym, refl, ap, ◌∙◌, subst, arith, get_or-take}
use Rattle.algebras.specs.CostCounts.{cheapest_with_count}
use Rattle.algebras.specs.TwoCosts.{two_cheapest}
use Rattle.algebras.specs.CostCountLaws.{cost_count_laws}
use Rattle.algebras.specs.TwoLaws.{two_laws}
use Rattle.survivors.specs.Reaches.{unreached}
use Rattle.survivors.specs.Ranks.{tied, two, joined_rank, Sound, past}
use Rattle.survivors.proofs.Ranking.{tied_joined, two_joined, sound_joined}
use Rattle.survivors.proofs.Surveying.{gather_taken, gather_left}
use Rattle.survivors.proofs.standings.gather.Goals as goal
use Rattle.survivors.proofs.standings.gather.Goals.{then-is_permitted, else-is_permitted}

pub loop-state-preserved : goal.loop-state-preserved
loop-state-preserved c =
    let row = c.args.row.now in
    let s = c.loop-state.state in
    let all = c.loop-state.all in
    let v = get_or row s past in
    let sv = c.requires.sounds s (omega (arith, c.requires.few)) in
    let sa = c.loop-state.invariant.2 in
    let room : v.cost < unreached → v.cost + 0 < unreached = λ l. omega arith in
    let room₂ : v.second < unreached → v.second + 0 < unreached = λ l. omega arith in
    let more = joined_rank all v 0 in
    elim c.if-is_permitted.branch [
      | then-is_permitted w ↦
          let e : c.if-is_permitted.all ≡ more = w.all-is ∙ w.join.ensures.rank ∙ ap (λ z. joined_rank all z 0) (get_or-take c.args.n row s past (omega arith)) in
          let p = sym c.is_permitted.ensures ∙ w.if-is_permitted.true in (
            ap tied e ∙ gather_taken cheapest_with_count cost_count_laws tied c.args.end row s all c.loop-state.invariant.0 more p refl (tied_joined all v 0 (omega arith) sa.sorted sv.sorted room room₂),
            ap two e ∙ gather_taken two_cheapest two_laws two c.args.end row s all c.loop-state.invariant.1 more p refl (two_joined all v 0 (omega arith) sa.sorted sv.sorted room room₂),
            subst (Sound (2 ^ 62)) (sym e) (sound_joined all v 0 (2 ^ 62) (2 ^ 61) sv sa (omega arith)),
          )
      | else-is_permitted w ↦
          let e : c.if-is_permitted.all ≡ all = w.all-is in
          let p = sym c.is_permitted.ensures ∙ w.if-is_permitted.false in (
            ap tied e ∙ gather_left cheapest_with_count cost_count_laws tied c.args.end row s all c.loop-state.invariant.0 p,
            ap two e ∙ gather_left two_cheapest two_laws two c.args.end row s all c.loop-state.invariant.1 p,
            subst (Sound (2 ^ 62)) (sym e) sa,
          )
    ]
