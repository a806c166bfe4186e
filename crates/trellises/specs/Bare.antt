-- What a making makes of checked parameters.
use Rattle.std.specs.Prelude.{ℕ, cond, ◌==◌}
use Rattle.model.specs.Trellises.{Diagram}
use Rattle.model.specs.Bare.{bare}

-- the diagram where the check answers 0, else the bare one
abbrev pub unless_refused : ℕ → Diagram → Diagram
unless_refused check d = cond (check == 0) d bare
