-- The frame of a block: a header, a payload and the rest.
use Rattle.std.proofs.Common.{◌≡◌, ℕ, ◌+◌, ◌-◌, ◌≤◌, true, leb, List, [], ◌∷◌, ◌++◌, length, get_or, take, drop, Some, sym, refl, ap, ◌∙◌, arith, length-append, take-append-drop, le-leb}
use Rattle.std.proofs.lemmas.List.{take_at, drop_at}
use Rattle.blocks.specs.Blocks.{number_of, length_in, kind_in, frame_of}

-- bytes that are as many as the header says have a frame
pub whole_frame : (bytes : List ℕ) → 4 ≤ length bytes → length_in bytes ≤ length bytes - 4 → frame_of bytes ≡ Some (record { kind = kind_in bytes; payload = take (length_in bytes) (drop 4 bytes); rest = drop (length_in bytes) (drop 4 bytes) })
whole_frame bytes four fits =
    let whole : leb (4 + length_in bytes) (length bytes) ≡ true = le-leb _ _ (omega arith) in
    rw whole

-- and so have a header, a payload as long as the header says, and any rest
pub written_frame : (l0 l1 k0 k1 : ℕ) (payload rest : List ℕ) → number_of l0 l1 ≡ length payload → frame_of (l0 ∷ l1 ∷ k0 ∷ k1 ∷ (payload ++ rest)) ≡ Some (record { kind = number_of k0 k1; payload = payload; rest = rest })
written_frame l0 l1 k0 k1 payload rest long =
    let fits : number_of l0 l1 ≤ length (payload ++ rest) = omega (arith, length-append payload rest) in
    whole_frame (l0 ∷ l1 ∷ k0 ∷ k1 ∷ (payload ++ rest)) (omega arith) (omega arith)
    ∙ ap (λ (p : List ℕ). Some (record { kind = number_of k0 k1; payload = p; rest = drop (number_of l0 l1) (payload ++ rest) })) (take_at payload rest (number_of l0 l1) (sym long))
    ∙ ap (λ (p : List ℕ). Some (record { kind = number_of k0 k1; payload = payload; rest = p })) (drop_at payload rest (number_of l0 l1) (sym long))

four_bytes : (bytes : List ℕ) → 4 ≤ length bytes → bytes ≡ get_or bytes 0 0 ∷ get_or bytes 1 0 ∷ get_or bytes 2 0 ∷ get_or bytes 3 0 ∷ drop 4 bytes
four_bytes [] h = absurd (omega arith)
four_bytes (a ∷ []) h = absurd (omega arith)
four_bytes (a ∷ b ∷ []) h = absurd (omega arith)
four_bytes (a ∷ b ∷ c ∷ []) h = absurd (omega arith)
four_bytes (a ∷ b ∷ c ∷ d ∷ bytes) h = refl

-- bytes that have a frame are its header, its payload and the rest
pub frame_parts : (bytes : List ℕ) (n : ℕ) → 4 ≤ length bytes → bytes ≡ get_or bytes 0 0 ∷ get_or bytes 1 0 ∷ get_or bytes 2 0 ∷ get_or bytes 3 0 ∷ (take n (drop 4 bytes) ++ drop n (drop 4 bytes))
frame_parts bytes n four =
    four_bytes bytes four ∙ ap (λ (xs : List ℕ). get_or bytes 0 0 ∷ get_or bytes 1 0 ∷ get_or bytes 2 0 ∷ get_or bytes 3 0 ∷ xs) (sym (take-append-drop n (drop 4 bytes)))
