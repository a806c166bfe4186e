use Rattle.std.proofs.Common.{◌≡◌, ◌<◌, get_or, sym, ◌∙◌, arith, length-take}
use Rattle.std.proofs.lemmas.List.{get_or_default, get_or-take}
use Rattle.paths.proofs.Rowing.{term_taken, term_left}
use Rattle.paths.proofs.entries.total_entries.Goals as goal
use Rattle.paths.proofs.entries.total_entries.Goals.{then-is_permitted, else-is_permitted}

pub loop-s-preserved : goal.loop-s-preserved
loop-s-preserved g c =
    let r = g.A.Algebra.semiring in
    let laws = g.met.A.Algebra.lawful in
    let row = c.args.row.now in
    let s = c.loop-s.s in
    let lt : s < c.args.n = omega (arith, c.loop-s-test.true, length-take {A = g.row.A-Weight.Denot} c.args.n row) in
    let item : c.weight-item.result ≡ get_or row s r.zero = c.weight-item.is ∙ get_or-take c.args.n row s c.weight-item.result lt ∙ get_or_default row s c.weight-item.result r.zero (omega arith) in
    elim c.if-is_permitted.branch [
      | then-is_permitted w ↦ w.sum-is ∙ w.plus-sum.ensures ∙ term_taken r laws c.args.end c.args.row.now c.loop-s.s c.loop-s.sum c.weight-item.result (sym c.is_permitted.ensures ∙ w.if-is_permitted.true) item c.loop-s.invariant
      | else-is_permitted w ↦ w.sum-is ∙ term_left r laws c.args.end c.args.row.now c.loop-s.s c.loop-s.sum (sym c.is_permitted.ensures ∙ w.if-is_permitted.false) c.loop-s.invariant
    ]
