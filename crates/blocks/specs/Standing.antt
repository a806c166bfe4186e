-- Blocks in a recording, with no reader in sight.
use Rattle.std.specs.Prelude.{◌≡◌, ℕ, ◌%◌, Bool, true, false, List, [], ◌∷◌, ◌++◌, length, Some}
use Rattle.blocks.specs.declared.kind.Kind.{Kind}
use Rattle.blocks.specs.declared.kind.Kind.TheVariants.{Description, Samples, End}
use Rattle.blocks.specs.Kinds.{kind_of}
use Rattle.blocks.specs.Blocks.{Content, description, samples, end, number_of, payload_of}

abbrev pub kind_named : Content → Kind
kind_named (description payload) = Description
kind_named (samples payload) = Samples
kind_named end = End

-- the first block is a description and no other is; samples have two bytes each, and nothing follows the end
abbrev pub Allowed : Bool → Content → List ℕ → Type 0
Allowed first (description payload) rest = first ≡ true
Allowed first (samples payload) rest = (first ≡ false) × (length payload % 2 ≡ 0)
Allowed first end rest = (first ≡ false) × (rest ≡ [])

-- a block stands at a place of a recording: before it there are as many bytes as the place says; then come the length
-- of its payload and its kind, each a number of two bytes, the payload, and the rest
pub record Stands (recording : List ℕ) (place : ℕ) (first : Bool) (c : Content) : Type 0 where
  pub before : List ℕ
  pub l0 : ℕ
  pub l1 : ℕ
  pub k0 : ℕ
  pub k1 : ℕ
  pub rest : List ℕ
  pub whole : recording ≡ before ++ (l0 ∷ l1 ∷ k0 ∷ k1 ∷ (payload_of c ++ rest))
  pub at : length before ≡ place
  pub long : number_of l0 l1 ≡ length (payload_of c)
  pub named : kind_of (number_of k0 k1) ≡ Some (kind_named c)
  pub allowed : Allowed first c rest
