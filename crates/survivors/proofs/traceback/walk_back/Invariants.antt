use Rattle.std.proofs.Common.{◌≡◌, ◌<◌, ◌++◌, drop}
use Rattle.survivors.specs.Laws.{first_back, letters_back}
use Rattle.survivors.specs.Choices.{byte_at}
use Rattle.survivors.proofs.traceback.walk_back.Given as goal

abbrev pub invariant-loop-k : goal.invariant-loop-k
invariant-loop-k l = (l.state < 64) × (first_back (byte_at l.choices) l.k l.state ≡ first_back (byte_at l.choices) l.steps l.last)
    × (letters_back (byte_at l.choices) l.k l.state ++ drop l.k l.letters ≡ letters_back (byte_at l.choices) l.steps l.last ++ drop l.steps l.initial.letters)
