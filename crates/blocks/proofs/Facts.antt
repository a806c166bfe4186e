-- What is known of a block that is accepted.
use Rattle.std.proofs.Common.{◌≡◌, ℕ, ◌+◌, ◌%◌, ◌≤◌, Bool, true, false, List, [], ◌∷◌, ◌++◌, length, take, drop, Ok, sym, refl, ap, ◌∙◌, append_assoc, arith, length-append}
use Rattle.std.proofs.lemmas.List.{drop_at, take_at, drop-take}
use Rattle.std.proofs.lemmas.Bool.{false≢true}
use Rattle.blocks.specs.Blocks.{Content, description, samples, end, payload_of, block_at, next_place}
use Rattle.blocks.proofs.Accepting.{accepted_stands}

module _ (recording : List ℕ) (place : ℕ) (first : Bool) where
  -- it lies within the recording
  pub block_within : (c : Content) → block_at recording place first ≡ Ok c → next_place place c ≤ length recording
  block_within c e =
      let s = accepted_stands recording place first c e in
      let header = s.l0 ∷ s.l1 ∷ s.k0 ∷ s.k1 ∷ (payload_of c ++ s.rest) in
      omega (arith, ap length s.whole, length-append s.before header, length-append (payload_of c) s.rest, s.at)

  -- the bytes that its payload is
  pub payload_stands : (c : Content) → block_at recording place first ≡ Ok c → drop (place + 4) (take (next_place place c) recording) ≡ payload_of c
  payload_stands c e =
      let s = accepted_stands recording place first c e in
      let header = s.l0 ∷ s.l1 ∷ s.k0 ∷ s.k1 ∷ [] in
      let start : length (s.before ++ header) ≡ place + 4 = length-append s.before header ∙ ap (λ (n : ℕ). n + 4) s.at in
      let whole : recording ≡ (s.before ++ header) ++ (payload_of c ++ s.rest) = s.whole ∙ sym (append_assoc s.before header (payload_of c ++ s.rest)) in
      drop-take (place + 4) (length (payload_of c)) recording
      ∙ ap (take (length (payload_of c))) (ap (drop (place + 4)) whole ∙ drop_at (s.before ++ header) (payload_of c ++ s.rest) (place + 4) start)
      ∙ take_at (payload_of c) s.rest (length (payload_of c)) refl

  -- a block of samples has two bytes for each
  pub even_payload : (payload : List ℕ) → block_at recording place first ≡ Ok (samples payload) → length payload % 2 ≡ 0
  even_payload payload e = (accepted_stands recording place first (samples payload) e).allowed.1

  -- the end block is the last
  pub end_last : block_at recording place first ≡ Ok end → next_place place end ≡ length recording
  end_last e =
      let s = accepted_stands recording place first end e in
      let header = s.l0 ∷ s.l1 ∷ s.k0 ∷ s.k1 ∷ s.rest in
      omega (arith, ap length s.whole, length-append s.before header, ap length s.allowed.1, s.at)

-- the first block is a description
pub first_described : (recording : List ℕ) (place : ℕ) (c : Content) → block_at recording place true ≡ Ok c → c ≡ description (payload_of c)
first_described recording place (description payload) e = refl
first_described recording place (samples payload) e = absurd (false≢true (sym (accepted_stands recording place true _ e).allowed.0))
first_described recording place end e = absurd (false≢true (sym (accepted_stands recording place true _ e).allowed.0))

-- and no later one is
pub later_undescribed : (recording : List ℕ) (place : ℕ) (payload : List ℕ) → block_at recording place false ≡ Ok (description payload) → ⊥
later_undescribed recording place payload e = false≢true (accepted_stands recording place false _ e).allowed
