-- The reader accepts exactly the texts that describe a setup.
use Rattle.std.proofs.Common.{◌≡◌, ℕ, ◌≤◌, Bool, true, false, cond, leb, List, [], ◌∷◌, length, Some, None, Ok, Err, Option, Result, sym, refl, ap, ◌∙◌, arith, length-append, le-leb}
use Rattle.std.proofs.lemmas.Bool.{leb-true}
use Rattle.model.specs.declared.refusal.Fault.{Fault}
use Rattle.model.specs.Refusals.{Refused, outcome}
use Rattle.lines.specs.declared.form.Line.{Line}
use Rattle.setups.specs.declared.held.HeldLines.{HeldLines}
use Rattle.setups.specs.declared.setup.Setup.{Setup}
use Rattle.setups.specs.Described.{Spells, Reordered, nothing, keep, swap, after}
use Rattle.setups.specs.Lines.{Read, gathered, gathered_from, follow, read_lines}
use Rattle.setups.specs.Setups.{held_setup, setup_of}
use Rattle.setups.specs.Texts.{lines_of, text_of}
use Rattle.model.proofs.Cases.{not_ok, ok_same}
use Rattle.setups.proofs.Spelling.{onto, heard, reads_spelt, spelt_reads}
use Rattle.setups.proofs.Ordering.{gathered_setup, onto_alike, respelt}
use Rattle.descriptions.specs.Checks.{answers, first_fault}
use Rattle.descriptions.specs.Descriptions.{most_bytes, too_long, unless_fault, set_up, description, Describes, AnyOrder}
use Rattle.descriptions.proofs.Faults.{all_accept, none_refuses}

-- what the lines give is what a text spells
held_is : (fs : List Line) (hs : List Read) → heard hs ≡ onto fs [] → (text : List ℕ) → Spells text fs → held_setup (gathered hs) ≡ setup_of fs
held_is fs hs e text s = gathered_setup hs ∙ ap setup_of e ∙ onto_alike fs s.once

fault_by : (o : Option Refused) (t s : Setup) → unless_fault o t ≡ Ok s → (o ≡ None) × (t ≡ s)
fault_by None t s e = (refl, ok_same e)
fault_by (Some f) t s e = absurd (not_ok e)

set_by : (from : ℕ) (h : HeldLines) (o : Option Setup) (s : Setup) → set_up from h o ≡ Ok s → (o ≡ Some s) × (first_fault h (answers s) ≡ None)
set_by from h None s e = absurd (not_ok e)
set_by from h (Some t) s e =
    let parts = fault_by (first_fault h (answers t)) t s e in
    (ap (λ (x : Setup). Some x) parts.1, ap (λ (x : Setup). first_fault h (answers x)) (sym parts.1) ∙ parts.0)

module _ (from : ℕ) (text : List ℕ) (s : Setup) where
  lines_by : (o : Result (List Read) Refused) → length text ≤ most_bytes → read_lines from [] (lines_of text) ≡ o → follow (gathered_from o) (λ held. set_up from held (held_setup held)) ≡ Ok s → Describes text s
  lines_by (Ok ls) short e h =
      let spelt = reads_spelt from text ls e in
      let parts = set_by from (gathered ls) (held_setup (gathered ls)) s h in
      record { short = short; said = spelt.fs; spells = spelt.spells; set = sym (held_is spelt.fs ls spelt.all text spelt.spells) ∙ parts.0; passes = all_accept (gathered ls) (answers s) parts.1 }
  lines_by (Err f) short e h = absurd (not_ok h)

  length_by : (t : Bool) → leb (length text) most_bytes ≡ t → cond t (follow (gathered_from (read_lines from [] (lines_of text))) (λ held. set_up from held (held_setup held))) (Err too_long) ≡ Ok s → Describes text s
  length_by true e h = lines_by (read_lines from [] (lines_of text)) (leb-true _ _ e) refl h
  length_by false e h = absurd (not_ok h)

  pub accepted_describes : description from text ≡ Ok s → Describes text s
  accepted_describes h = length_by (leb (length text) most_bytes) refl h

  pub described_accepted : Describes text s → description from text ≡ Ok s
  described_accepted d =
      let short : leb (length text) most_bytes ≡ true = le-leb _ _ d.short in
      let taken = spelt_reads from text d.said d.spells in
      let given : held_setup (gathered taken.hs) ≡ Some s = held_is d.said taken.hs taken.all text d.spells ∙ d.set in
      rw short
      (ap (λ (o : Result (List Read) Refused). follow (gathered_from o) (λ held. set_up from held (held_setup held))) taken.is
      ∙ ap (set_up from (gathered taken.hs)) given
      ∙ ap (λ (o : Option Refused). unless_fault o s) (none_refuses (gathered taken.hs) (answers s) d.passes))

-- a text is as long in another order
same_length : {ls ks : List (List ℕ)} → Reordered ls ks → length (text_of ls) ≡ length (text_of ks)
same_length nothing = refl
same_length (keep x {xs} {ys} r) = let e = same_length r in omega (arith, length-append x (10 ∷ text_of xs), length-append x (10 ∷ text_of ys))
same_length (swap x y xs) = omega (arith, length-append x (10 ∷ text_of (y ∷ xs)), length-append y (10 ∷ text_of xs), length-append y (10 ∷ text_of (x ∷ xs)), length-append x (10 ∷ text_of xs))
same_length (after r q) = same_length r ∙ same_length q

pub any_order : (text : List ℕ) → AnyOrder text
any_order text s d lines r =
    let other = respelt text d.said d.spells lines r in
    let long = ap length d.spells.whole in
    record { short = omega (arith, same_length r, long, d.short); said = other.gs; spells = other.spells; set = other.alike ∙ d.set; passes = d.passes }

-- a setup is answered exactly if it is the outcome
pub outcome_ok : (r : Result Setup Fault) (s : Setup) → outcome r ≡ Ok s → r ≡ Ok s
outcome_ok (Ok t) s e = ap (λ (x : Setup). Ok x) (ok_same e)
outcome_ok (Err f) s e = absurd (not_ok e)
