-- Worked descriptions.
use Rattle.std.specs.Prelude.{◌≡◌, ℕ, List, [], ◌∷◌, pos, Some, None, Ok, Err, codes}
use Rattle.lines.specs.declared.form.MeasureLine.TheVariants.{Square, Bits}
use Rattle.lines.specs.Lists.{list_from}
use Rattle.setups.specs.declared.setup.Setup.{Setup}
use Rattle.setups.specs.declared.setup.TrellisSetup.TheVariants.{Taps, Code}
use Rattle.descriptions.specs.Descriptions.{description}

-- a text that begins at 0 gives this setup
abbrev pub Gives : List ℕ → Setup → Type 0
Gives text s = description 0 text ≡ Ok s

-- or is refused with this number, layer and place
abbrev pub Fails : List ℕ → ℕ → ℕ → ℕ → Type 0
Fails text n l p = description 0 text ≡ Err (record { number = n; layer = l; place = p })

abbrev pub Examples : Type 0
Examples =
    Gives (codes "taps 2 1 1\nmeasure square\nstart 0\nend any\n") (record { trellis = Taps (record { letters = pos 2; taps = list_from (pos 1 ∷ pos 1 ∷ []) }); measure = Square; start = Some (pos 0); end = None })
    × Gives (codes "end 3\nmeasure  bits 02\nstart any\ncode 3 0 7 5\n") (record { trellis = Code (record { constraint_length = pos 3; inversion = pos 0; generators = list_from (pos 7 ∷ pos 5 ∷ []) }); measure = Bits (pos 2); start = None; end = Some (pos 3) })
    × Fails (codes "measure square\nstart\n") 30 2 15
    × Fails (codes "start 0\nstart any\n") 31 2 8
    × Fails [] 34 2 0
    × Fails (codes "measure square\ntaps 3 1\nstart 0\nend 0\n") 1 3 15
    × Fails (codes "taps 2 1 1\nmeasure square\nstart 2\nend 0\n") 21 3 26
