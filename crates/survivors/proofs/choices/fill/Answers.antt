use Rattle.std.proofs.Common.{◌≡◌, ◌≤◌, length, sym, ◌∙◌, subst, arith, length-take}
use Rattle.std.specs.List.{AllByRecursion}
use Rattle.model.specs.Ranges.{InRange}
use Rattle.survivors.specs.Choices.{TableOf}
use Rattle.survivors.specs.Ranks.{Ranked}
use Rattle.survivors.proofs.Tabling.{zeros_all, table_made}
use Rattle.survivors.proofs.choices.fill.Goals as goal

pub rank_all-requires : goal.rank_all-requires
rank_all-requires g c =
    let n : length c.counted.result.now ≤ 512 = subst (λ ys. length ys ≤ 512) (sym c.counted.ensures) (simp length-take (omega arith)) in
    let full : length c.clear_bytes.new.bytes ≡ 32768 = c.clear_bytes.auto.bytes ∙ c.told-choices in
    record { few = n; room = omega arith; zeros = zeros_all (length c.args.choices.now) c.clear_bytes.new.bytes c.clear_bytes.ensures }

pub returns : goal.returns
returns g c =
    let d = g.T.Trellis.meaning c.args.trellis.now in
    let p = g.M.Measure.costs c.args.measure.now in
    let xs = c.counted.result.now in
    let start = c.args.start in
    let table = c.rank_all.new.choices in
    let n : length xs ≤ 512 = subst (λ ys. length ys ≤ 512) (sym c.counted.ensures) (simp length-take (omega arith)) in
    record {
      table = subst (λ ys. TableOf d p start ys table) c.counted.ensures
          (table_made d p start xs table (c.rank_all.auto.choices ∙ c.clear_bytes.auto.bytes ∙ c.told-choices) n c.rank_all.ensures.table c.rank_all.ensures.rest);
      ranked = subst (λ ys. Ranked d p start ys c.rank_all.result) c.counted.ensures c.rank_all.ensures.ranked;
      past = c.rank_all.ensures.past;
      range = subst (AllByRecursion InRange) c.counted.ensures c.rank_all.ensures.range;
    }
