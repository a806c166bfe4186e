-- Blocks one after another. Assumes nothing.
use Rattle.std.proofs.Common.{◌≡◌, ℕ, zero, suc, ◌+◌, ◌<◌, ◌≤◌, false, List, length, Ok, Err, Result, sym, refl, ap, ◌∙◌, arith}
use Rattle.std.proofs.lemmas.List.{drop_all}
use Rattle.model.specs.Refusals.{Refused}
use Rattle.setups.specs.Lines.{follow}
use Rattle.records.specs.Held.{Held}
use Rattle.blocks.specs.Blocks.{Content, description, samples, end, block_fault, block_at, first_block, faulted_at, next_place}
use Rattle.blocks.specs.Samples.{samples_of}
use Rattle.recordings.specs.Recordings.{take_all, with_block, read_blocks}

follow_same : {X Y Z : Type 0} (o : Result X Z) (f g : X → Result Y Z) → ((x : X) → f x ≡ g x) → follow o f ≡ follow o g
follow_same (Ok x) f g e = e x
follow_same (Err z) f g e = refl

-- past the end of a recording no block begins
past_end : (bytes : List ℕ) (place : ℕ) → length bytes ≤ place → block_at bytes place false ≡ Err (block_fault 40 place)
past_end bytes place le = ap (λ bs. faulted_at place (first_block bs false)) (drop_all place bytes le)

block_same : (place : ℕ) (h : Held) (c : Content) (f g : Held → Result (Held × ℕ) Refused) → ((k : Held) → f k ≡ g k) → with_block place h c f ≡ with_block place h c g
block_same place h (description text) f g e = refl
block_same place h (samples payload) f g e = follow_same (take_all place h (samples_of payload)) f g e
block_same place h end f g e = refl

-- how many blocks are read at most makes no difference, if it is enough for the bytes that are left
pub enough : (f g : ℕ) (bytes : List ℕ) (place : ℕ) (h : Held) → length bytes < f + place → length bytes < g + place → read_blocks f bytes place h ≡ read_blocks g bytes place h
enough zero zero bytes place h a b = refl
enough zero (suc g) bytes place h a b = sym (ap (λ o. follow o (λ c. with_block place h c (read_blocks g bytes (next_place place c)))) (past_end bytes place (omega arith)))
enough (suc f) zero bytes place h a b = ap (λ o. follow o (λ c. with_block place h c (read_blocks f bytes (next_place place c)))) (past_end bytes place (omega arith))
enough (suc f) (suc g) bytes place h a b =
    follow_same (block_at bytes place false) (λ c. with_block place h c (read_blocks f bytes (next_place place c))) (λ c. with_block place h c (read_blocks g bytes (next_place place c)))
    (λ c. block_same place h c (read_blocks f bytes (next_place place c)) (read_blocks g bytes (next_place place c)) (λ k. enough f g bytes (next_place place c) k (omega arith) (omega arith)))

-- a sample block, and the blocks after it
pub blocks_more : (bytes : List ℕ) (place next : ℕ) (payload : List ℕ) (h k : Held) → ◌≡◌ {A = Result Content Refused} (Ok (samples payload)) (block_at bytes place false) → next ≡ next_place place (samples payload) →
    ◌≡◌ {A = Result Held Refused} (Ok k) (take_all place h (samples_of payload)) → read_blocks (suc (length bytes)) bytes next k ≡ read_blocks (suc (length bytes)) bytes place h
blocks_more bytes place next payload h k e n t =
    enough (suc (length bytes)) (length bytes) bytes next k (omega arith) (omega arith)
    ∙ ap (λ m. read_blocks (length bytes) bytes m k) n
    ∙ ap (λ o. follow o (read_blocks (length bytes) bytes (next_place place (samples payload)))) t
    ∙ ap (λ o. follow o (λ c. with_block place h c (read_blocks (length bytes) bytes (next_place place c)))) e
