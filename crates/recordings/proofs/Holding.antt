-- What is held over a recording: start and end as the setup names them, and samples after samples. Assumes nothing.
use Rattle.std.proofs.Common.{◌≡◌, ℕ, ◌+◌, ◌<◌, ◌≤◌, Bool, true, false, cond, ◌&&◌, eqb, ltb, List, [], ◌∷◌, ◌++◌, length, ℤ, is_some, Some, None, Ok, Err, Option, sym, refl, ap, ◌∙◌, ap₂, append_assoc, append-nil, arith, length-append, lt-ltb}
use Rattle.std.proofs.lemmas.Bool.{ltb-true}
use Rattle.std.specs.List.{AllByRecursion}
use Rattle.model.proofs.Cases.{not_ok, ok_same}
use Rattle.model.specs.declared.refusal.Refusal.TheVariants.{NotAState, RecordFull}
use Rattle.model.specs.Refusals.{refusal_number}
use Rattle.model.specs.Trellises.{Diagram, state_of}
use Rattle.survivors.specs.Choices.{most_samples}
use Rattle.setups.specs.declared.setup.Setup.{Setup}
use Rattle.setups.specs.declared.setup.TrellisSetup.{TrellisSetup}
use Rattle.setups.specs.declared.setup.TrellisSetup.TheVariants.{Taps, Code, CodeOverTaps, RllOverTaps}
use Rattle.descriptions.specs.Channels.{channel_of}
use Rattle.descriptions.specs.Checks.{About, trellis_answers, other_answers, anchor_answer, Passes}
use Rattle.records.specs.Held.{Held, new_held, is_named, if_accepted}
use Rattle.recordings.specs.Recordings.{call_fault, take_all, held_at_first}
use Rattle.recordings.specs.Recorded.{held_in}

-- ---- more samples

abbrev pub more : Held → List ℤ → Held
more h xs = record { start = h.start; end = h.end; samples = h.samples ++ xs }

pub more_none : (h : Held) → more h [] ≡ h
more_none h = ap (λ v. record { start = h.start; end = h.end; samples = v }) (append-nil h.samples)

pub more_more : (h : Held) (xs ys : List ℤ) → more (more h xs) ys ≡ more h (xs ++ ys)
more_more h xs ys = ap (λ v. record { start = h.start; end = h.end; samples = v }) (append_assoc h.samples xs ys)

abbrev by_room : Bool → Held → ℤ → Held
by_room b h x = if_accepted (cond b 0 (refusal_number RecordFull)) (more h (x ∷ [])) h

-- samples that have room are taken
pub takes_all : (place : ℕ) (h : Held) (xs : List ℤ) → length h.samples + length xs ≤ most_samples → take_all place h xs ≡ Ok (more h xs)
takes_all place h [] room = ap (λ v. Ok v) (sym (more_none h))
takes_all place h (x ∷ xs) room =
    let fits : ltb (length h.samples) most_samples ≡ true = lt-ltb _ _ (omega arith) in
    let one : length (h.samples ++ x ∷ []) ≡ length h.samples + 1 = length-append h.samples (x ∷ []) in
    ap (λ b. cond (eqb (cond b 0 (refusal_number RecordFull)) 0) (take_all place (by_room b h x) xs) (Err (call_fault (cond b 0 (refusal_number RecordFull)) place))) fits
    ∙ takes_all place (more h (x ∷ [])) xs (omega arith)
    ∙ ap (λ v. Ok v) (more_more h (x ∷ []) xs)

took_one : (place : ℕ) (h k : Held) (x : ℤ) (xs : List ℤ) → take_all place h (x ∷ xs) ≡ Ok k → (length h.samples < most_samples) × (take_all place (more h (x ∷ [])) xs ≡ Ok k)
took_one place h k x xs e = go (ltb (length h.samples) most_samples) refl e
  where
    go : (b : Bool) → ltb (length h.samples) most_samples ≡ b →
        cond (eqb (cond b 0 (refusal_number RecordFull)) 0) (take_all place (by_room b h x) xs) (Err (call_fault (cond b 0 (refusal_number RecordFull)) place)) ≡ Ok k →
        (length h.samples < most_samples) × (take_all place (more h (x ∷ [])) xs ≡ Ok k)
    go true t f = (ltb-true _ _ t, f)
    go false t f = absurd (not_ok f)

-- and samples that are taken have room
pub all_taken : (place : ℕ) (h k : Held) (xs : List ℤ) → length h.samples ≤ most_samples → take_all place h xs ≡ Ok k → (k ≡ more h xs) × (length h.samples + length xs ≤ most_samples)
all_taken place h k [] room e = (sym (ok_same e) ∙ sym (more_none h), omega arith)
all_taken place h k (x ∷ xs) room e =
    let took = took_one place h k x xs e in
    let one : length (h.samples ++ x ∷ []) ≡ length h.samples + 1 = length-append h.samples (x ∷ []) in
    let rest = all_taken place (more h (x ∷ [])) k xs (omega arith) took.1 in
    (rest.0 ∙ more_more h (x ∷ []) xs, omega arith)

-- ---- start and end

answered : (d : Diagram) (o : Option ℤ) → anchor_answer d o ≡ 0 → is_named d o ≡ true
answered d None e = refl
answered d (Some z) e = go (is_some (state_of d z)) e
  where
    go : (b : Bool) → cond b 0 (refusal_number NotAState) ≡ 0 → b ≡ true
    go true f = refl
    go false f = absurd (omega arith)

others_pass : (t : TrellisSetup) (cs : List (ℕ × About)) → AllByRecursion (λ c. c.0 ≡ 0) (trellis_answers t ++ cs) → AllByRecursion (λ c. c.0 ≡ 0) cs
others_pass (Taps t) cs a = a.1
others_pass (Code c) cs a = a.1
others_pass (CodeOverTaps c t) cs a = a.1.1.1
others_pass (RllOverTaps r t) cs a = a.1.1.1

-- the start and the end of a setup that passes its checks name states
pub held_first : (s : Setup) → Passes s → held_at_first s ≡ held_in s []
held_first s passes =
    let d = channel_of s.trellis in
    let rest = others_pass s.trellis (other_answers s) passes in
    ap₂ (λ a b. if_accepted (cond (a && b) 0 (refusal_number NotAState)) (held_in s []) new_held) (answered d s.start rest.1.0) (answered d s.end rest.1.1.0)
