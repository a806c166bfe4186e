use Rattle.std.proofs.Common.{◌≡◌, ℕ, ◌*◌, ◌<◌, ◌≤◌, [], get_or, take, pos, Option}
use Rattle.model.specs.Ranges.{InRange}
use Rattle.survivors.specs.Rows.{Tabled}
use Rattle.survivors.specs.Ranks.{Ranked, ClearPast}
use Rattle.survivors.proofs.choices.rank_all.Given as goal

-- for whatever start the ranks were opened with
abbrev pub invariant-loop-k : goal.invariant-loop-k
invariant-loop-k g l =
    let d = g.T.Trellis.meaning l.trellis in
    let p = g.M.Measure.costs l.measure in
    ((start : Option ℕ) → Ranked d p start [] l.initial.row → Ranked d p start (take l.k l.samples) l.row × Tabled d p start l.samples l.k l.choices)
    × ((i : ℕ) → l.k * 64 ≤ i → get_or l.choices i 0 ≡ 0)
    × ((i : ℕ) → i < l.k → InRange (get_or l.samples i (pos 0)))
    × ClearPast l.n l.row × ClearPast l.n l.next
