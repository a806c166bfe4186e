-- What is detected at the end block, by what a record answers. Assumes nothing.
use Rattle.std.proofs.Common.{◌≡◌, ℕ, suc, Bool, true, false, List, length, ℤ, Some, None, Ok, Err, Option, Result, sym, refl, ap, ◌∙◌, subst}
use Rattle.model.specs.declared.refusal.Refusal.{Refusal}
use Rattle.std.specs.Result.{result_ok}
use Rattle.model.proofs.Cases.{not_ok, err_same}
use Rattle.model.specs.Refusals.{refusal_number, Refused, answer}
use Rattle.model.specs.Trellises.{Diagram}
use Rattle.algebras.specs.Counts.{counting}
use Rattle.paths.specs.Paths.{Path}
use Rattle.paths.specs.Sums.{path_sum}
use Rattle.paths.proofs.Listing.{never}
use Rattle.setups.specs.declared.setup.Setup.{Setup}
use Rattle.setups.specs.Lines.{follow}
use Rattle.descriptions.specs.Channels.{channel_of, measure_of}
use Rattle.records.specs.declared.report.Report.{Report}
use Rattle.records.specs.Held.{Held}
use Rattle.records.specs.Reports.{has_room, path_check, if_reported, written, reported_path, report_of}
use Rattle.recordings.specs.declared.outcome.Outcome.{Outcome}
use Rattle.recordings.specs.Steps.{at_block}
use Rattle.recordings.specs.Recordings.{call_fault, outcome_of, detected, read_blocks, held_at_first, detected_from, outcome_in, buffer_after}

same_outcome : (n n' m m' : ℕ) (r r' : Report) → n ≡ n' → m ≡ m' → r ≡ r' → ◌≡◌ {A = Outcome} (record { samples = n; paths = m; report = r }) (record { samples = n'; paths = m'; report = r' })
same_outcome n n' m m' r r' p q s = cc

-- an answer and a buffer, of what is detected
pub record Detects (d : Diagram) (cost : ℤ → ℤ → ℕ) (h : Held) (at place : ℕ) (old new : List ℕ) (o : Result Outcome Refused) : Type 0 where
  pub value : o ≡ outcome_in (detected d cost at (length old) h place)
  pub letters : new ≡ buffer_after (detected d cost at (length old) h place) at old

module _ (d : Diagram) (cost : ℤ → ℤ → ℕ) (h : Held) (at place : ℕ) (old new : List ℕ) where
  abbrev found : Option Path → Bool → Result (Outcome × Path) Refused
  found o room = outcome_of d cost h place room o

  no_by : (o : Option Path) (room : Bool) (e : Refusal) → None ≡ if_reported o room (report_of d cost h) → refusal_number e ≡ path_check o room → new ≡ written o room at old →
      (Err (call_fault (refusal_number e) place) ≡ outcome_in (found o room)) × (new ≡ buffer_after (found o room) at old)
  no_by None room e v c w = (ap (λ n. Err (call_fault n place)) c, w)
  no_by (Some p) true e v c w = absurd (never {x = report_of d cost h p} refl (sym v))
  no_by (Some p) false e v c w = (ap (λ n. Err (call_fault n place)) c, w)

  pub detects_no : (e : Refusal) → None ≡ if_reported (reported_path d cost h) (has_room (length h.samples) at (length old)) (report_of d cost h) →
      refusal_number e ≡ path_check (reported_path d cost h) (has_room (length h.samples) at (length old)) → new ≡ written (reported_path d cost h) (has_room (length h.samples) at (length old)) at old →
      Detects d cost h at place old new (Err (call_fault (refusal_number e) place))
  detects_no e v c w = let b = no_by (reported_path d cost h) (has_room (length h.samples) at (length old)) e v c w in record { value = b.0; letters = b.1 }

  -- a refusal, as a fault at the block
  pub detects_fault : (r : Result Report Refusal) (f : Refused) → ◌≡◌ {A = Result Report Refused} (Err f) (at_block r place) → result_ok r ≡ if_reported (reported_path d cost h) (has_room (length h.samples) at (length old)) (report_of d cost h) →
      answer r ≡ path_check (reported_path d cost h) (has_room (length h.samples) at (length old)) → new ≡ written (reported_path d cost h) (has_room (length h.samples) at (length old)) at old →
      Detects d cost h at place old new (Err f)
  detects_fault (Ok a) f e v c w = absurd (not_ok {x = a} e)
  detects_fault (Err x) f e v c w = subst (λ k. Detects d cost h at place old new (Err k)) (sym (err_same e)) (detects_no x v c w)

  yes_by : (o : Option Path) (room : Bool) (r : Report) (n m : ℕ) → Some r ≡ if_reported o room (report_of d cost h) → new ≡ written o room at old → n ≡ length h.samples →
      m ≡ (path_sum d cost counting h.start h.end h.samples).value → (Ok (record { samples = n; paths = m; report = r }) ≡ outcome_in (found o room)) × (new ≡ buffer_after (found o room) at old)
  yes_by None room r n m v w ns ms = absurd (never (sym v) refl)
  yes_by (Some p) true r n m v w ns ms = let rs : r ≡ report_of d cost h p = cc in (ap Ok (same_outcome n _ m _ r _ ns ms rs), w)
  yes_by (Some p) false r n m v w ns ms = absurd (never (sym v) refl)

  pub detects_yes : (r : Report) (n m : ℕ) → Some r ≡ if_reported (reported_path d cost h) (has_room (length h.samples) at (length old)) (report_of d cost h) →
      new ≡ written (reported_path d cost h) (has_room (length h.samples) at (length old)) at old → n ≡ length h.samples → m ≡ (path_sum d cost counting h.start h.end h.samples).value →
      Detects d cost h at place old new (Ok (record { samples = n; paths = m; report = r }))
  detects_yes r n m v w ns ms = let b = yes_by (reported_path d cost h) (has_room (length h.samples) at (length old)) r n m v w ns ms in record { value = b.0; letters = b.1 }

-- the same of another record that holds the same
pub detects_alike : (d d' : Diagram) (cost cost' : ℤ → ℤ → ℕ) (h h' : Held) (at place : ℕ) (old new : List ℕ) (o : Result Outcome Refused) → d' ≡ d → cost' ≡ cost → h' ≡ h →
    Detects d' cost' h' at place old new o → Detects d cost h at place old new o
detects_alike d d' cost cost' h h' at place old new o p q r t =
    subst (λ x. Detects d cost x at place old new o) r (subst (λ x. Detects d x h' at place old new o) q (subst (λ x. Detects x cost' h' at place old new o) p t))

-- and after the blocks up to the end block
pub detects_from : (bytes : List ℕ) (at from place : ℕ) (s : Setup) (h : Held) (d : Diagram) (cost : ℤ → ℤ → ℕ) (old new : List ℕ) (o : Result Outcome Refused) → d ≡ channel_of s.trellis → cost ≡ measure_of s.measure →
    ◌≡◌ {A = Result (Held × ℕ) Refused} (Ok (h, place)) (read_blocks (suc (length bytes)) bytes from (held_at_first s)) → Detects d cost h at place old new o →
    (o ≡ outcome_in (detected_from bytes at (length old) s from)) × (new ≡ buffer_after (detected_from bytes at (length old) s from) at old)
detects_from bytes at from place s h d cost old new o p q e t =
    let u = detects_alike (channel_of s.trellis) d (measure_of s.measure) cost h h at place old new o p q refl t in
    let is : detected (channel_of s.trellis) (measure_of s.measure) at (length old) h place ≡ detected_from bytes at (length old) s from =
    ap (λ v. follow v (λ e. detected (channel_of s.trellis) (measure_of s.measure) at (length old) e.0 e.1)) e in
    (u.value ∙ ap outcome_in is, u.letters ∙ ap (λ v. buffer_after v at old) is)
