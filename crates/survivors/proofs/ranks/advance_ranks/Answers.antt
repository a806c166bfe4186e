use Rattle.std.proofs.Common.{◌≡◌, ℕ, ◌+◌, ◌-◌, ◌≤◌, ◌++◌, List, take, drop, replicate, take-append-drop, sym, ap, ◌∙◌, subst, ap₂, w16, arith}
use Rattle.std.proofs.lemmas.List.{take-replicate, drop-replicate, replicate-append-replicate}
use Rattle.std.proofs.lemmas.Int.{to_z-of_z}
use Rattle.survivors.specs.declared.rank.Rank.{Rank}
use Rattle.survivors.specs.Ranks.{nowhere, Advanced}
use Rattle.survivors.proofs.ranks.advance_ranks.Goals as goal

-- a clear row over one that is clear past its first n states
whole : (n : ℕ) → n ≤ 64 → (clear next row : List Rank) → clear ≡ replicate 64 nowhere → drop n next ≡ replicate (64 - n) nowhere → row ≡ take n clear ++ drop n next → row ≡ replicate 64 nowhere
whole n few clear next row all past e =
    e ∙ ap₂ (λ xs ys. xs ++ ys) (ap (take n) all ∙ take-replicate n 64 nowhere few) past
    ∙ replicate-append-replicate n (64 - n) nowhere ∙ ap (λ k. replicate k nowhere) (let z : n + (64 - n) ≡ 64 = omega arith in z)

pub extend-requires-clause-clear : goal.extend-requires-clause-clear
extend-requires-clause-clear g c = whole c.args.n c.requires.few c.args.clear.now c.args.next.now c.copy_ranks.new.row c.requires.clear c.requires.next c.copy_ranks.ensures

pub returns-clause-advanced : goal.returns-clause-advanced
returns-clause-advanced g c =
    let n = c.args.n in
    let next = c.extend.new.row in
    let clear = whole n c.requires.few c.args.clear.now c.args.next.now c.copy_ranks.new.row c.requires.clear c.requires.next c.copy_ranks.ensures in
    let past = c.extend.ensures.past n c.requires.within ∙ ap (drop n) clear ∙ drop-replicate n 64 nowhere in
    let same = c.copy_ranks-2.ensures ∙ ap (λ ys. take n next ++ ys) (c.requires.row ∙ sym past) ∙ take-append-drop n next in
    let p = g.M.Measure.costs c.args.measure.now in
    subst (λ row. Advanced p c.args.sample c.args.row.now c.args.branches.now row c.extend.new.bytes) (sym same)
    (subst (λ z. Advanced p z c.args.row.now c.args.branches.now next c.extend.new.bytes) (to_z-of_z w16 c.args.sample c.ranges.sample) c.extend.ensures.advanced)
