use Rattle.paths.proofs.Ordering.{total_order, one_way, transitive}
use Rattle.paths.proofs.laws.order_stands.Goals as goal

pub returns : goal.returns
returns c = record { total = total_order; one_way = one_way; transitive = transitive }
