-- A description: which texts are accepted, with which setup, and what is refused.
use Rattle.std.specs.Prelude.{◌≡◌, ℕ, ◌≤◌, Bool, cond, List, [], length, Some, None, Ok, Err, Option, Result, nat_le}
use Rattle.model.specs.declared.refusal.Layer.TheVariants.{Blocks, Lines}
use Rattle.model.specs.declared.refusal.Refusal.TheVariants.{LineSet, RecordingLarge}
use Rattle.model.specs.Refusals.{Refused, refused_at}
use Rattle.lines.specs.declared.form.Line.{Line}
use Rattle.setups.specs.declared.held.HeldLines.{HeldLines}
use Rattle.setups.specs.declared.setup.Setup.{Setup}
use Rattle.setups.specs.Described.{Spells, Reordered}
use Rattle.setups.specs.Lines.{gathered_from, follow, read_lines}
use Rattle.setups.specs.Setups.{held_setup, setup_of}
use Rattle.setups.specs.Texts.{lines_of, text_of}
use Rattle.descriptions.specs.Checks.{answers, Passes, first_fault}

-- the most bytes that one block carries
abbrev pub most_bytes : ℕ
most_bytes = 65535

abbrev pub is_short : List ℕ → Bool
is_short text = nat_le (length text) most_bytes

-- a longer description fits no recording
abbrev pub too_long : Refused
too_long = refused_at RecordingLarge Blocks 0

-- the lines are no accepted set: the place is where the text begins
abbrev pub no_set : ℕ → Refused
no_set from = refused_at LineSet Lines from

abbrev pub unless_fault : Option Refused → Setup → Result Setup Refused
unless_fault None s = Ok s
unless_fault (Some f) s = Err f

-- the setup of the lines that are held, if they are an accepted set and no check refuses
abbrev pub set_up : ℕ → HeldLines → Option Setup → Result Setup Refused
set_up from h None = Err (no_set from)
set_up from h (Some s) = unless_fault (first_fault h (answers s)) s

-- what a description gives, or its first fault; it begins at a place from which places are counted on
abbrev pub description : ℕ → List ℕ → Result Setup Refused
description from text = cond (is_short text) (follow (gathered_from (read_lines from [] (lines_of text))) (λ held. set_up from held (held_setup held))) (Err too_long)

-- a text describes a setup: it is no longer than a block carries, and a sequence of lines, each ended by byte 10
-- and of one of the forms, with no first word twice; the lines are an accepted set, and no check refuses
pub record Describes (text : List ℕ) (s : Setup) : Type 0 where
  pub short : length text ≤ most_bytes
  pub said : List Line
  pub spells : Spells text said
  pub set : setup_of said ≡ Some s
  pub passes : Passes s

-- a text that describes a setup still does with its lines in another order
abbrev pub AnyOrder : List ℕ → Type 0
AnyOrder text = (s : Setup) (d : Describes text s) (lines : List (List ℕ)) → Reordered d.spells.lines lines → Describes (text_of lines) s
