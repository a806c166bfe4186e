-- Recordings in their parts, with no reader in sight: which are accepted, and what they give.
use Rattle.std.specs.Prelude.{◌≡◌, ℕ, ◌+◌, ◌%◌, ◌^◌, ◌≤◌, true, false, List, [], ◌∷◌, ◌++◌, length, ℤ, Ok, Err, Result}
use Rattle.model.specs.declared.refusal.Refusal.TheVariants.{NoPath, BufferShort}
use Rattle.model.specs.Refusals.{refusal_number, Refused}
use Rattle.paths.specs.Paths.{Path, Admissible}
use Rattle.paths.specs.Laws.{Lists}
use Rattle.survivors.specs.Choices.{most_samples}
use Rattle.setups.specs.declared.setup.Setup.{Setup}
use Rattle.descriptions.specs.Channels.{channel_of, measure_of}
use Rattle.descriptions.specs.Descriptions.{Describes}
use Rattle.records.specs.Held.{Held, named}
use Rattle.records.specs.Reports.{has_room, with_letters, Reports}
use Rattle.blocks.specs.Blocks.{Content, description, samples, end, number_of, payload_of}
use Rattle.blocks.specs.Samples.{samples_of}
use Rattle.recordings.specs.declared.outcome.Outcome.{Outcome}
use Rattle.recordings.specs.Recordings.{most_bytes, call_fault}

-- ---- what a recording is

-- the number of each kind of block
abbrev pub kind_number : Content → ℕ
kind_number (description text) = 1
kind_number (samples payload) = 2
kind_number end = 3

-- the bytes of a block: the length of its payload and its kind, each a number of two bytes, and the payload
pub record BlockOf (c : Content) (bytes : List ℕ) : Type 0 where
  pub l0 : ℕ
  pub l1 : ℕ
  pub k0 : ℕ
  pub k1 : ℕ
  pub whole : bytes ≡ l0 ∷ l1 ∷ k0 ∷ k1 ∷ payload_of c
  pub long : number_of l0 l1 ≡ length (payload_of c)
  pub kind : number_of k0 k1 ≡ kind_number c

-- the bytes of sample blocks one after another, with two bytes for each sample, and all their samples in order
pub data SampleBlocks : List ℕ → List ℤ → Type 0 where
  no_more : SampleBlocks [] []
  and_then : (payload block : List ℕ) {rest : List ℕ} {xs : List ℤ} → BlockOf (samples payload) block → length payload % 2 ≡ 0 → SampleBlocks rest xs → SampleBlocks (block ++ rest) (samples_of payload ++ xs)

-- a recording of a setup and samples: a block with a description of the setup, sample blocks with the samples, and an end block
-- with which it ends, of no more bytes and samples than there may be
pub record Recorded (bytes : List ℕ) (s : Setup) (xs : List ℤ) : Type 0 where
  pub first : List ℕ
  pub between : List ℕ
  pub last : List ℕ
  pub whole : bytes ≡ first ++ (between ++ last)
  pub few_bytes : length bytes ≤ most_bytes
  pub text : List ℕ
  pub described : BlockOf (description text) first
  pub describes : Describes text s
  pub carried : SampleBlocks between xs
  pub few_samples : length xs ≤ most_samples
  pub ended : BlockOf end last

-- where the end block begins
abbrev pub end_place : {bytes : List ℕ} {s : Setup} {xs : List ℤ} → Recorded bytes s xs → ℕ
end_place c = length c.first + length c.between

-- ---- what it gives

-- the start and the end that a setup names, and samples
abbrev pub held_in : Setup → List ℤ → Held
held_in s xs = record { start = named (channel_of s.trellis) s.start; end = named (channel_of s.trellis) s.end; samples = xs }

-- p is an admissible path on the samples, over the channel of the setup
abbrev pub PathIn : Setup → List ℤ → Path → Type 0
PathIn s xs p = Admissible (channel_of s.trellis) (held_in s xs).start (held_in s xs).end (length xs) p

-- the outcome is what the paths on the samples give: how many samples there are, how many admissible paths, modulo 2 ^ 64, and the report
-- of a path; its letters have room in the buffer from a place on, and the buffer then holds them there and is else unchanged
pub record Gives (s : Setup) (xs : List ℤ) (at : ℕ) (old new : List ℕ) (o : Outcome) : Type 0 where
  pub held : o.samples ≡ length xs
  pub counted : (ps : List Path) × Lists (channel_of s.trellis) (held_in s xs).start (held_in s xs).end (length xs) ps × (o.paths ≡ length ps % 2 ^ 64)
  pub path : Path
  pub reports : Reports (channel_of s.trellis) (measure_of s.measure) (held_in s xs) path o.report
  pub fits : has_room (length xs) at (length old) ≡ true
  pub letters : new ≡ with_letters at old path

-- ---- which recordings are accepted

-- what a reader answers of some bytes, and what it makes of a buffer
pub record Accepts (bytes : List ℕ) (at : ℕ) (old new : List ℕ) (r : Result Outcome Refused) : Type 0 where
  -- what is accepted is a recording, and this is what it gives
  pub only : (o : Outcome) → r ≡ Ok o → (s : Setup) × (xs : List ℤ) × Recorded bytes s xs × Gives s xs at old new o
  -- each recording is accepted for which there is an admissible path, and room for its letters
  pub each : (s : Setup) (xs : List ℤ) → Recorded bytes s xs → (p : Path) → PathIn s xs p → has_room (length xs) at (length old) ≡ true → (o : Outcome) × (r ≡ Ok o) × Gives s xs at old new o
  -- if there is no such path, or no room, the fault is that, at the end block
  pub no_path : (s : Setup) (xs : List ℤ) (c : Recorded bytes s xs) → ((p : Path) → PathIn s xs p → ⊥) → r ≡ Err (call_fault (refusal_number NoPath) (end_place c))
  pub no_room : (s : Setup) (xs : List ℤ) (c : Recorded bytes s xs) (p : Path) → PathIn s xs p → has_room (length xs) at (length old) ≡ false → r ≡ Err (call_fault (refusal_number BufferShort) (end_place c))
  -- a fault leaves the buffer as it was
  pub unchanged : (f : Refused) → r ≡ Err f → new ≡ old
