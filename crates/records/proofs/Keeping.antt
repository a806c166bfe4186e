-- What a settled record looks at. Assumes nothing.
use Rattle.std.proofs.Common.{◌≡◌, ◌≤◌, length, take, arith, length-take, take_all}
use Rattle.arrays.specs.Lists.{list_items}
use Rattle.records.specs.declared.table.Table.{Table}

-- no sample that is held is past the room that a table of choices has
pub all_counted : (t : Table) → take 512 (list_items t.samples) ≡ list_items t.samples
all_counted t =
    let le : length (list_items t.samples) ≤ 512 = simp length-take (omega arith) in
    take_all 512 (list_items t.samples) le
