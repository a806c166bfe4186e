-- What a block is, and the block that begins at a place of a recording.
use Rattle.std.specs.Prelude.{ℕ, ◌+◌, ◌*◌, Bool, cond, List, [], length, take, drop, Some, None, Ok, Err, Option, Result, nat_le, slice_index}
use Rattle.model.specs.declared.refusal.Refusal.{Refusal}
use Rattle.model.specs.declared.refusal.Refusal.TheVariants.{BlockCut, BlockKind, BlockOrder, PayloadLength, BytesAfterEnd}
use Rattle.model.specs.declared.refusal.Layer.TheVariants.{Blocks}
use Rattle.model.specs.Refusals.{refusal_number, layer_number, Refused}
use Rattle.blocks.specs.declared.kind.Kind.{Kind}
use Rattle.blocks.specs.declared.kind.Kind.TheVariants.{Description, Samples, End}
use Rattle.blocks.specs.declared.block.Frame.{Frame}
use Rattle.blocks.specs.declared.block.Block.{Block}
use Rattle.blocks.specs.declared.block.Block.TheVariants.{Description as DescriptionBlock, Samples as SamplesBlock, End as EndBlock}
use Rattle.blocks.specs.Kinds.{kind_of, may_stand, may_carry, may_precede}

-- a number of two bytes, the low one first
abbrev pub number_of : ℕ → ℕ → ℕ
number_of low high = low + high * 256

-- the two numbers of a header: the payload's length and the kind
abbrev pub length_in : List ℕ → ℕ
length_in bytes = number_of (slice_index bytes 0) (slice_index bytes 1)

abbrev pub kind_in : List ℕ → ℕ
kind_in bytes = number_of (slice_index bytes 2) (slice_index bytes 3)

-- a block by its parts, and the bytes after it
pub record Parts : Type 0 where
  pub kind : ℕ
  pub payload : List ℕ
  pub rest : List ℕ

-- a header of four bytes and as many more as it says; nothing where there are fewer
abbrev pub frame_of : List ℕ → Option Parts
frame_of bytes = cond (nat_le (4 + length_in bytes) (length bytes)) (Some (record { kind = kind_in bytes; payload = take (length_in bytes) (drop 4 bytes); rest = drop (length_in bytes) (drop 4 bytes) })) None

abbrev pub parts : Frame → Parts
parts f = record { kind = f.kind; payload = f.payload.now; rest = f.rest.now }

-- what a block carries
pub data Content : Type 0 where
  description : List ℕ → Content
  samples : List ℕ → Content
  end : Content

abbrev pub content_of : Kind → List ℕ → Content
content_of Description payload = description payload
content_of Samples payload = samples payload
content_of End payload = end

abbrev pub content : Block → Content
content (DescriptionBlock payload) = description payload.now
content (SamplesBlock payload) = samples payload.now
content EndBlock = end

abbrev pub payload_of : Content → List ℕ
payload_of (description payload) = payload
payload_of (samples payload) = payload
payload_of end = []

-- one check in a row of them: the refusal's number where it fails, else what the rest answers
abbrev pub checked : Bool → Refusal → Result Content ℕ → Result Content ℕ
checked fits refusal rest = cond fits rest (Err (refusal_number refusal))

-- the checks from the kind on
abbrev pub block_of_kind : Bool → Parts → Option Kind → Result Content ℕ
block_of_kind first p None = Err (refusal_number BlockKind)
block_of_kind first p (Some k) =
    checked (may_stand k first) BlockOrder
    (checked (may_carry k p.payload) PayloadLength
    (checked (may_precede k p.rest) BytesAfterEnd (Ok (content_of k p.payload))))

-- all the checks
abbrev pub block_of_frame : Bool → Option Parts → Result Content ℕ
block_of_frame first None = Err (refusal_number BlockCut)
block_of_frame first (Some p) = block_of_kind first p (kind_of p.kind)

-- the block at the front of some bytes, or the number of the first check that it fails
abbrev pub first_block : List ℕ → Bool → Result Content ℕ
first_block bytes first = block_of_frame first (frame_of bytes)

-- what is wrong with a block is found where the block begins
abbrev pub block_fault : ℕ → ℕ → Refused
block_fault n place = record { number = n; layer = layer_number Blocks; place = place }

abbrev pub faulted_at : ℕ → Result Content ℕ → Result Content Refused
faulted_at place (Ok c) = Ok c
faulted_at place (Err n) = Err (block_fault n place)

-- the block that begins at a place, as the first one or a later one
abbrev pub block_at : List ℕ → ℕ → Bool → Result Content Refused
block_at recording place first = faulted_at place (first_block (drop place recording) first)

-- where the next block begins
abbrev pub next_place : ℕ → Content → ℕ
next_place place c = place + 4 + length (payload_of c)

-- what a reader of a block answers, by what the block carries
abbrev pub contents : Result (Block × ℕ) Refused → Result Content Refused
contents (Ok b) = Ok (content b.0)
contents (Err f) = Err f
