-- Taking the samples of a block, one after another. Assumes nothing.
use Rattle.std.proofs.Common.{◌≡◌, ℕ, ◌<◌, cond, List, ◌∷◌, ℤ, Ok, Err, Result, sym, ap, ◌∙◌, arith, lit<}
use Rattle.std.proofs.lemmas.Bool.{ne_eqb}
use Rattle.model.specs.declared.refusal.Refusal.{Refusal}
use Rattle.model.specs.declared.refusal.Refusal.TheVariants.{TapsLetters, TapsCount, TapValue, ConstraintLength, GeneratorCount, GeneratorValue, InversionWord, RunLength, CascadeStates, BitsWidth, SamplesHeld, NotAState, RecordFull, RewindBeyond, NoPath, BufferShort, RowShort, LineForm, LineRepeated, LineSet, BlockCut, BlockKind, BlockOrder, PayloadLength, BytesAfterEnd, RecordingLarge}
use Rattle.model.specs.Refusals.{refusal_number, Refused, answer}
use Rattle.records.specs.Held.{Held, take_check, taken}
use Rattle.recordings.specs.Recordings.{call_fault, take_all}
use Rattle.model.proofs.Cases.{not_ok}
use Rattle.recordings.specs.Steps.{at_block}

-- no refusal has the number 0
pub refusal_some : (e : Refusal) → 0 < refusal_number e
refusal_some TapsLetters = lit< tt
refusal_some TapsCount = lit< tt
refusal_some TapValue = lit< tt
refusal_some ConstraintLength = lit< tt
refusal_some GeneratorCount = lit< tt
refusal_some GeneratorValue = lit< tt
refusal_some InversionWord = lit< tt
refusal_some RunLength = lit< tt
refusal_some CascadeStates = lit< tt
refusal_some BitsWidth = lit< tt
refusal_some SamplesHeld = lit< tt
refusal_some NotAState = lit< tt
refusal_some RecordFull = lit< tt
refusal_some RewindBeyond = lit< tt
refusal_some NoPath = lit< tt
refusal_some BufferShort = lit< tt
refusal_some RowShort = lit< tt
refusal_some LineForm = lit< tt
refusal_some LineRepeated = lit< tt
refusal_some LineSet = lit< tt
refusal_some BlockCut = lit< tt
refusal_some BlockKind = lit< tt
refusal_some BlockOrder = lit< tt
refusal_some PayloadLength = lit< tt
refusal_some BytesAfterEnd = lit< tt
refusal_some RecordingLarge = lit< tt

-- a sample that is refused is the fault, whatever comes after it
pub taken_no : (place : ℕ) (h : Held) (x : ℤ) (xs : List ℤ) (r : Result (Unit {0}) Refusal) (f : Refused) → ◌≡◌ {A = Result (Unit {0}) Refused} (Err f) (at_block r place) → answer r ≡ take_check h →
    ◌≡◌ {A = Result Held Refused} (Err f) (take_all place h (x ∷ xs))
taken_no place h x xs (Ok u) f e c = absurd (not_ok e)
taken_no place h x xs (Err w) f e c =
    let same : f ≡ call_fault (refusal_number w) place = cc in
    let no = ne_eqb (take_check h) 0 (λ z. omega (arith, refusal_some w)) in
    ap Err (same ∙ ap (λ n. call_fault n place) c) ∙ sym (ap (λ b. cond b (take_all place (taken h x) xs) (Err (call_fault (take_check h) place))) no)
