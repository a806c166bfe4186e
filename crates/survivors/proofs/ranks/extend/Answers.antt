use Rattle.std.proofs.Common.{◌≡◌, ◌+◌, ◌^◌, cond, ltb, get_or, set, drop, drop-set-lt, pos, refl, ap, ◌∙◌, subst, arith, take_all, w16, SFits, to_z, of_z, rules}
use Rattle.std.proofs.ByRecursion.{All-get_or}
use Rattle.std.proofs.lemmas.List.{get_or_default}
use Rattle.std.proofs.lemmas.Int.{to_z-of_z}
use Rattle.model.specs.Ranges.{most_cost}
use Rattle.paths.specs.declared.branch.ListedBranch.{ListedBranch}
use Rattle.paths.specs.Branches.{Within}
use Rattle.survivors.specs.Ranks.{joined_rank, past, Advanced}
use Rattle.survivors.proofs.Ranking.{sounds_more, advanced_none, advanced_more}
use Rattle.survivors.proofs.ranks.extend.Goals as goal

abbrev none : ListedBranch
none = record { from = 0; next = 0; byte = 0; label = pos 0 }

pub loop-branch-init : goal.loop-branch-init
loop-branch-init g c =
    let x = to_z w16 (of_z w16 c.args.sample) in
    (advanced_none (g.M.Measure.costs c.args.measure.now) x c.args.from.now c.args.row.now c.args.bytes.now c.told-row c.requires.clear c.requires.zeros, c.told-row, λ n all. refl)

pub put-requires : goal.put-requires
put-requires g c =
    let b = get_or c.args.branches.now c.loop-branch.branch-index none in
    let h = All-get_or (Within 64 64) c.args.branches.now c.loop-branch.branch-index none c.loop-branch-test.true c.requires.within in
    record {
      row = omega (arith, h.1, c.loop-branch.invariant.1);
      bytes = omega (arith, h.1, c.requires.bytes, c.loop-branch.auto.bytes);
      held = sounds_more (2 ^ 61 + most_cost) (2 ^ 62) c.loop-branch.row (omega arith) (c.loop-branch.invariant.0.sounds (2 ^ 61) c.requires.sounds) b.next h.1;
      from = c.requires.sounds b.from h.0;
    }

pub loop-branch-preserved : goal.loop-branch-preserved
loop-branch-preserved g c =
    let p = g.M.Measure.costs c.args.measure.now in
    let x = to_z w16 (of_z w16 c.args.sample) in
    let bs = c.args.branches.now in
    let i = c.loop-branch.branch-index in
    let b = get_or bs i none in
    let from = c.args.from.now in
    let row = c.loop-branch.row in
    let bytes = c.loop-branch.bytes in
    let lt = c.loop-branch-test.true in
    let f : SFits w16 b.label = search rules in
    let w : c.cost-cost.result ≡ p b.label x = c.cost-cost.ensures ∙ ap (λ z. p z x) (to_z-of_z w16 b.label f) in
    let put : c.put.new.row ≡ set row b.next (joined_rank (get_or row b.next past) (get_or from b.from past) c.cost-cost.result) = c.put.ensures.row in
    let byte : c.put.new.bytes ≡ cond (ltb ((get_or from b.from past).cost + c.cost-cost.result) (get_or row b.next past).cost) (set bytes b.next b.byte) bytes = c.put.ensures.bytes in (
      advanced_more p x from row c.put.new.row bytes c.put.new.bytes bs i b lt (get_or_default bs i none b lt) (All-get_or (Within 64 64) bs i none lt c.requires.within) c.told-from c.loop-branch.invariant.1
          (omega (arith, c.requires.bytes, c.loop-branch.auto.bytes)) (omega (arith, w, c.cost-cost.type_inv)) c.requires.sounds c.loop-branch.invariant.0
          (put ∙ ap (λ z. set row b.next (joined_rank (get_or row b.next past) (get_or from b.from past) z)) w)
          (byte ∙ ap (λ z. cond (ltb ((get_or from b.from past).cost + z) (get_or row b.next past).cost) (set bytes b.next b.byte) bytes) w),
      search rules,
      λ n all. ap (drop n) c.put.ensures.row ∙ drop-set-lt n row b.next _ (All-get_or (Within 64 n) bs i none lt all).1 ∙ c.loop-branch.invariant.2 n all,
    )

pub returns : goal.returns
returns g c =
    let p = g.M.Measure.costs c.args.measure.now in
    record {
      advanced =
          subst (λ z. Advanced p z c.args.from.now c.args.branches.now c.loop-branch.row c.loop-branch.bytes) (to_z-of_z w16 c.args.sample c.ranges.sample)
          (subst (λ bs. Advanced p (to_z w16 (of_z w16 c.args.sample)) c.args.from.now bs c.loop-branch.row c.loop-branch.bytes) (take_all c.loop-branch.branch-index c.args.branches.now c.loop-branch-test.false) c.loop-branch.invariant.0);
      past = λ n all. c.loop-branch.invariant.2 n all;
    }
