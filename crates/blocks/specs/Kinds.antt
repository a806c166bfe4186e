-- The kinds of blocks.
use Rattle.std.specs.Prelude.{ℕ, ◌%◌, Bool, true, cond, not, List, length, Some, None, Option, ◌==◌}
use Rattle.blocks.specs.declared.kind.Kind.{Kind}
use Rattle.blocks.specs.declared.kind.Kind.TheVariants.{Description, Samples, End}

-- which kinds there are, by their numbers
abbrev pub kind_of : ℕ → Option Kind
kind_of n = cond (n == 1) (Some Description) (cond (n == 2) (Some Samples) (cond (n == 3) (Some End) None))

-- whether a block of a kind may stand first, or later
abbrev pub may_stand : Kind → Bool → Bool
may_stand Description first = first
may_stand Samples first = not first
may_stand End first = not first

-- whether it may have a payload: two bytes for each sample, and none at the end
abbrev pub may_carry : Kind → List ℕ → Bool
may_carry Description payload = true
may_carry Samples payload = length payload % 2 == 0
may_carry End payload = length payload == 0

-- whether these bytes may come after it
abbrev pub may_precede : Kind → List ℕ → Bool
may_precede Description rest = true
may_precede Samples rest = true
may_precede End rest = length rest == 0
