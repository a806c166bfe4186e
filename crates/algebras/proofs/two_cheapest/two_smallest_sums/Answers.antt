use mathlib.Core.Path.{sym, ◌∙◌}
use borrow.Author.Rules.{rules}
use Rattle.algebras.specs.TwoLaws.{same_two, product_is, plain_product}
use Rattle.algebras.proofs.two_cheapest.two_smallest_sums.Goals as goal

pub returns : goal.returns
returns c = same_two {y = plain_product c.args.a c.args.b} (search rules) (search rules) ∙ sym (product_is c.args.a c.args.b)
