use Rattle.std.proofs.Common.{◌≡◌, refl, rules, arith}
use Rattle.std.proofs.lemmas.List.FromFn.{fill_by_all}
use Rattle.survivors.specs.Ranks.{opening_below, past}
use Rattle.survivors.proofs.Tabling.{from_fn_gives}
use Rattle.survivors.proofs.choices.open_ranks.Goals as goal

pub returns : goal.returns
returns c =
    let n = c.args.n in
    let start = c.args.start in
    fill_by_all (opening_below n start) c.from_fn.result 64 past c.from_fn.ensures.items.long
    (λ k h. from_fn_gives _ (opening_below n start) (λ f. (f.0.now ≡ n) × (f.1.now ≡ start)) (λ f i r q k e. (search (rules, k, e), search (rules, k, e))) _ c.from_fn.result 0 64 (refl, refl) c.from_fn.ensures.items.each k past (omega arith) (omega arith))
