use Rattle.std.proofs.Common.{◌≡◌, ◌+◌, cond, None, sym, ap, ◌∙◌, add-one, get_or-take, arith, length-take}
use Rattle.std.specs.Option.{option_map}
use Rattle.survivors.specs.Survivors.{pick, scan, at_end}
use Rattle.survivors.specs.Rows.{held}
use Rattle.survivors.specs.Traces.{cost_and_last}
use Rattle.survivors.proofs.ends.cheapest.Goals as goal
use Rattle.survivors.proofs.ends.cheapest.Goals.{then-is_permitted, else-is_permitted}

pub loop-state-preserved : goal.loop-state-preserved
loop-state-preserved c =
    let row = c.args.row.now in
    let f = at_end c.args.end (held row) in
    let s = c.loop-state.state in
    let more : pick (scan f s) s (f s) ≡ scan f (s + 1) = ap (scan f) (sym (add-one s)) in
    elim c.if-is_permitted.branch [
      | then-is_permitted w ↦ ap (option_map cost_and_last) w.best-is ∙ w.better-best.ensures ∙ ap (pick (option_map cost_and_last c.loop-state.best) s) (get_or-take c.args.n row s None (omega (arith, length-take c.args.n row))) ∙ ap (λ o. pick o s (held row s)) c.loop-state.invariant
          ∙ ap (λ b. pick (scan f s) s (cond b (held row s) None)) (sym (sym c.is_permitted.ensures ∙ w.if-is_permitted.true)) ∙ more
      | else-is_permitted w ↦ ap (option_map cost_and_last) w.best-is ∙ c.loop-state.invariant
          ∙ ap (λ b. pick (scan f s) s (cond b (held row s) None)) (sym (sym c.is_permitted.ensures ∙ w.if-is_permitted.false)) ∙ more
    ]
