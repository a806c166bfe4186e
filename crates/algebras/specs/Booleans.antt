-- Boolean: is there a path?
use Rattle.std.specs.Prelude.{Bool, true, false, ◌||◌, ◌&&◌}
use Rattle.algebras.specs.Semirings.{Semiring}

-- no and yes, with or and and
abbrev pub boolean : Semiring Bool
boolean = record { zero = false; one = true; plus = ◌||◌; times = ◌&&◌; weight = λ _. true }
