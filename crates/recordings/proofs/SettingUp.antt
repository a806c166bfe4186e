-- The first block of a recording. Assumes nothing.
use Rattle.std.proofs.Common.{◌≡◌, ℕ, true, List, take, drop, Ok, Err, Result, sym, ap, ◌∙◌}
use Rattle.model.specs.Refusals.{Refused}
use Rattle.setups.specs.declared.setup.Setup.{Setup}
use Rattle.setups.specs.Lines.{follow}
use Rattle.descriptions.specs.Descriptions as Text
use Rattle.blocks.specs.Blocks.{Content, description, payload_of, block_at, next_place}
use Rattle.blocks.proofs.Facts.{payload_stands, first_described}
use Rattle.recordings.specs.Recordings.{set_up_by, set_up}

-- its description is read from the bytes up to the next block
pub set_up_is : (bytes : List ℕ) (c : Content) (next : ℕ) → ◌≡◌ {A = Result Content Refused} (Ok c) (block_at bytes 0 true) → next ≡ next_place 0 c →
    ◌≡◌ {A = Result (Setup × ℕ) Refused} (set_up bytes) (follow (Text.description 4 (drop 4 (take next bytes))) (λ s. Ok (s, next)))
set_up_is bytes c next e n =
    let described : c ≡ description (payload_of c) = first_described bytes 0 c (sym e) in
    let text : drop 4 (take (next_place 0 c) bytes) ≡ payload_of c = payload_stands bytes 0 true c (sym e) in
    ap (λ o. follow o set_up_by) (sym e) ∙ ap set_up_by described ∙ ap (λ k. follow (Text.description 4 (payload_of c)) (λ s. Ok (s, next_place 0 k))) (sym described)
    ∙ ap (λ t. follow (Text.description 4 t) (λ s. Ok (s, next_place 0 c))) (sym text) ∙ ap (λ k. follow (Text.description 4 (drop 4 (take k bytes))) (λ s. Ok (s, k))) (sym n)

-- so it gives what the description gives
pub set_up_ok : (bytes : List ℕ) (next : ℕ) (o : Result Setup Refused) (s : Setup) → set_up bytes ≡ follow o (λ s. Ok (s, next)) → Ok s ≡ o → ◌≡◌ {A = Result (Setup × ℕ) Refused} (Ok (s, next)) (set_up bytes)
set_up_ok bytes next o s is e = ap (λ v. follow v (λ s. Ok (s, next))) e ∙ sym is

pub set_up_err : (bytes : List ℕ) (next : ℕ) (o : Result Setup Refused) (f : Refused) → set_up bytes ≡ follow o (λ s. Ok (s, next)) → Err f ≡ o → ◌≡◌ {A = Result (Setup × ℕ) Refused} (Err f) (set_up bytes)
set_up_err bytes next o f is e = ap (λ v. follow v (λ s. Ok (s, next))) e ∙ sym is
