use Rattle.survivors.proofs.Firsts.{substructure, leads_back, one_table, over_ends}
use Rattle.survivors.proofs.laws.steps_stand.Goals as goal

pub returns : goal.returns
returns c = record { substructure = substructure; back = leads_back; one = one_table; ends = over_ends }
