use Rattle.std.proofs.Common.{◌≡◌, sym, ◌∙◌, get_or, map, refl, arith, rules}
use Rattle.std.proofs.lemmas.List.{same_lists, get_or-map, length-map}
use Rattle.survivors.specs.Reaches.{as_cost}
use Rattle.survivors.specs.Ranks.{past}
use Rattle.survivors.proofs.Tabling.{from_fn_gives}
use Rattle.survivors.proofs.choices.rank_costs.Goals as goal

pub returns : goal.returns
returns c =
    let row = c.args.row.now in
    same_lists c.from_fn.result (map (λ rank. as_cost rank.cost) row) (c.from_fn.ensures.items.long ∙ sym (simp length-map c.told-row))
    (λ k d h. from_fn_gives _ (λ i. as_cost (get_or row i past).cost) (λ f. f.0.now ≡ row) (λ f i r q k e. (search (rules, k, e), search (rules, k, e))) _ c.from_fn.result 0 64 refl c.from_fn.ensures.items.each k d (omega arith) (omega (arith, c.from_fn.ensures.items.long))
    ∙ sym (get_or-map (λ rank. as_cost rank.cost) row k past d (omega (arith, c.told-row, c.from_fn.ensures.items.long))))
