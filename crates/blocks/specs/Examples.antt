-- Worked blocks.
use Rattle.std.specs.Prelude.{◌≡◌, ℕ, Bool, true, false, List, [], ◌∷◌, ◌++◌, length, pos, negsuc, Ok, Err, codes}
use Rattle.blocks.specs.Blocks.{Content, description, samples, end, block_at, next_place}
use Rattle.blocks.specs.Samples.{samples_of}

-- a block of some content, and where the next one begins
abbrev pub Reads : List ℕ → ℕ → Bool → Content → ℕ → Type 0
Reads bytes place first c next = (block_at bytes place first ≡ Ok c) × (next_place place c ≡ next)

-- or a refusal with a number, where the block begins
abbrev pub Fails : List ℕ → ℕ → Bool → ℕ → Type 0
Fails bytes place first n = block_at bytes place first ≡ Err (record { number = n; layer = 1; place = place })

abbrev pub text : List ℕ
text = codes "taps 2 1 1\nmeasure square\nstart 0\nend any\n"

abbrev pub three : List ℕ
three = 0 ∷ 0 ∷ 2 ∷ 0 ∷ 1 ∷ 0 ∷ []

-- a description of 42 bytes, the samples 0, 2, 1, and the end
abbrev pub recording : List ℕ
recording = (42 ∷ 0 ∷ 1 ∷ 0 ∷ text) ++ (6 ∷ 0 ∷ 2 ∷ 0 ∷ three) ++ (0 ∷ 0 ∷ 3 ∷ 0 ∷ [])

pub record Examples : Type 0 where
  pub size : length recording ≡ 60
  pub first : Reads recording 0 true (description text) 46
  pub second : Reads recording 46 false (samples three) 56
  pub third : Reads recording 56 false end 60
  -- no block where the recording is at its end or past it, nor in fewer than four bytes, nor with a payload cut short
  pub at_end : Fails recording 60 false 40
  pub past_end : Fails recording 61 false 40
  pub nothing : Fails [] 0 true 40
  pub cut_header : Fails (0 ∷ 0 ∷ 3 ∷ []) 0 false 40
  pub cut_payload : Fails (2 ∷ 0 ∷ 9 ∷ 0 ∷ 7 ∷ []) 0 true 40
  -- a kind has two bytes: 259 is no 3
  pub kind_259 : Fails (0 ∷ 0 ∷ 3 ∷ 1 ∷ []) 0 false 42
  pub kind_0 : Fails (0 ∷ 0 ∷ 0 ∷ 0 ∷ []) 0 true 42
  pub kind_4 : Fails (1 ∷ 0 ∷ 4 ∷ 0 ∷ 7 ∷ []) 0 true 42
  -- a description stands first, and nothing else does; the order is looked at before the length
  pub samples_first : Fails (1 ∷ 0 ∷ 2 ∷ 0 ∷ 7 ∷ []) 0 true 43
  pub end_first : Fails (0 ∷ 0 ∷ 3 ∷ 0 ∷ []) 0 true 43
  pub description_later : Fails recording 0 false 43
  -- half a sample, and an end that carries something, which is looked at before what follows it
  pub odd : Fails (1 ∷ 0 ∷ 2 ∷ 0 ∷ 7 ∷ []) 0 false 44
  pub full_end : Fails (1 ∷ 0 ∷ 3 ∷ 0 ∷ 7 ∷ 7 ∷ []) 0 false 44
  -- a byte after the end
  pub after_end : Fails (0 ∷ 0 ∷ 3 ∷ 0 ∷ 7 ∷ []) 0 false 45
  -- the length 256 is the bytes 0 and 1
  pub high_length : Fails (0 ∷ 1 ∷ 1 ∷ 0 ∷ []) 0 true 40
  -- samples, and a byte that is left over
  pub samples_three : samples_of three ≡ pos 0 ∷ pos 2 ∷ pos 1 ∷ []
  pub samples_ends : samples_of (255 ∷ 255 ∷ 0 ∷ 128 ∷ 255 ∷ 127 ∷ 7 ∷ []) ≡ negsuc 0 ∷ negsuc 32767 ∷ pos 32767 ∷ []
