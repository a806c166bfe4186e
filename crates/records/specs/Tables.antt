-- The plain table of a record.
use Rattle.arrays.specs.Lists.{list_items}
use Rattle.records.specs.declared.table.Table.{Table}
use Rattle.records.specs.Held.{Held}

-- what a table holds to the caller of its record
abbrev pub held_of : Table → Held
held_of t = record { start = t.start; end = t.end; samples = list_items t.samples }
