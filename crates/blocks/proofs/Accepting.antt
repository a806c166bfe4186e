-- The blocks that are accepted are those that stand in a recording.
use Rattle.std.proofs.Common.{◌≡◌, ℕ, ◌+◌, ◌%◌, ◌≤◌, Bool, true, false, cond, not, eqb, leb, List, ◌∷◌, ◌++◌, length, get_or, take, drop, Some, None, Ok, Err, Option, Result, sym, refl, ap, ◌∙◌, subst, arith, length-drop, take-append-drop, eq-eqb}
use Rattle.std.proofs.lemmas.List.{drop_at, length-take-le, nil_from_length}
use Rattle.std.proofs.lemmas.Bool.{leb-true, eqb-true, not-true}
use Rattle.model.proofs.Cases.{not_ok, ok_same}
use Rattle.model.specs.declared.refusal.Refusal.{Refusal}
use Rattle.model.specs.declared.refusal.Refusal.TheVariants.{BlockOrder, PayloadLength, BytesAfterEnd}
use Rattle.model.specs.Refusals.{Refused}
use Rattle.blocks.specs.declared.kind.Kind.{Kind}
use Rattle.blocks.specs.declared.kind.Kind.TheVariants.{Description, Samples, End}
use Rattle.blocks.specs.Kinds.{kind_of, may_carry, may_precede}
use Rattle.blocks.specs.Blocks.{Content, description, samples, end, Parts, number_of, length_in, kind_in, payload_of, checked, block_of_kind, block_of_frame, first_block, faulted_at, block_at}
use Rattle.blocks.specs.Standing.{kind_named, Allowed, Stands}
use Rattle.blocks.proofs.Framing.{written_frame, frame_parts}

-- a block that is allowed passes the checks of its kind
allowed_passes : (first : Bool) (c : Content) (n : ℕ) (rest : List ℕ) → Allowed first c rest → block_of_kind first (record { kind = n; payload = payload_of c; rest = rest }) (Some (kind_named c)) ≡ Ok c
allowed_passes first (description payload) n rest a = rw a
allowed_passes first (samples payload) n rest a =
    let even : eqb (length payload % 2) 0 ≡ true = eq-eqb _ _ a.1 in
    rw (a.0, even)
allowed_passes first end n rest a =
    let last : eqb (length rest) 0 ≡ true = eq-eqb _ _ (ap length a.1) in
    rw (a.0, last)

-- and so one whose header says this passes all of them
written_passes : (first : Bool) (c : Content) (l0 l1 k0 k1 : ℕ) (rest : List ℕ) → number_of l0 l1 ≡ length (payload_of c) → kind_of (number_of k0 k1) ≡ Some (kind_named c) → Allowed first c rest → first_block (l0 ∷ l1 ∷ k0 ∷ k1 ∷ (payload_of c ++ rest)) first ≡ Ok c
written_passes first c l0 l1 k0 k1 rest long named a =
    let p : Parts = record { kind = number_of k0 k1; payload = payload_of c; rest = rest } in
    ap (block_of_frame first) (written_frame l0 l1 k0 k1 (payload_of c) rest long)
    ∙ ap (block_of_kind first p) named
    ∙ allowed_passes first c (number_of k0 k1) rest a

-- a check that is passed
passed : (fits : Bool) (refusal : Refusal) (r : Result Content ℕ) (c : Content) → checked fits refusal r ≡ Ok c → (fits ≡ true) × (r ≡ Ok c)
passed true refusal r c e = (refl, e)
passed false refusal r c e = absurd (not_ok e)

-- what is known of a block that passes the checks of its kind
abbrev Known : Bool → Parts → Option Kind → Content → Type 0
Known first p k c = (k ≡ Some (kind_named c)) × (p.payload ≡ payload_of c) × Allowed first c p.rest

passes_known : (first : Bool) (p : Parts) (k : Option Kind) (c : Content) → block_of_kind first p k ≡ Ok c → Known first p k c
passes_known first p None c e = absurd (not_ok e)
passes_known first p (Some Description) c e =
    let order = passed first BlockOrder _ c e in
    let is : Known first p (Some Description) (description p.payload) = (refl, refl, order.0) in
    subst (Known first p (Some Description)) (ok_same order.1) is
passes_known first p (Some Samples) c e =
    let order = passed (not first) BlockOrder _ c e in
    let even = passed (may_carry Samples p.payload) PayloadLength _ c order.1 in
    let is : Known first p (Some Samples) (samples p.payload) = (refl, refl, (not-true first order.0, eqb-true _ _ even.0)) in
    subst (Known first p (Some Samples)) (ok_same even.1) is
passes_known first p (Some End) c e =
    let order = passed (not first) BlockOrder _ c e in
    let empty = passed (may_carry End p.payload) PayloadLength _ c order.1 in
    let last = passed (may_precede End p.rest) BytesAfterEnd _ c empty.1 in
    let is : Known first p (Some End) end = (refl, nil_from_length _ (eqb-true _ _ empty.0), (not-true first order.0, nil_from_length _ (eqb-true _ _ last.0))) in
    subst (Known first p (Some End)) (ok_same last.1) is

module _ (recording : List ℕ) (place : ℕ) (first : Bool) (c : Content) where
  pub stands_accepted : Stands recording place first c → block_at recording place first ≡ Ok c
  stands_accepted s =
      let bytes = s.l0 ∷ s.l1 ∷ s.k0 ∷ s.k1 ∷ (payload_of c ++ s.rest) in
      let from : drop place recording ≡ bytes = ap (drop place) s.whole ∙ drop_at s.before bytes place s.at in
      ap (λ (xs : List ℕ). faulted_at place (first_block xs first)) from
      ∙ ap (faulted_at place) (written_passes first c s.l0 s.l1 s.k0 s.k1 s.rest s.long s.named s.allowed)

  abbrev from : List ℕ
  from = drop place recording

  abbrev framed : Parts
  framed = record { kind = kind_in from; payload = take (length_in from) (drop 4 from); rest = drop (length_in from) (drop 4 from) }

  stands_by : (whole : Bool) → leb (4 + length_in from) (length from) ≡ whole → block_of_frame first (cond whole (Some framed) None) ≡ Ok c → Stands recording place first c
  stands_by true t e =
      let fits : 4 + length_in from ≤ length from = leb-true _ _ t in
      let known = passes_known first framed (kind_of (kind_in from)) c e in
      let inside : place ≤ length recording = omega (arith, length-drop place recording) in
      let room : length_in from ≤ length (drop 4 from) = omega (arith, length-drop 4 from) in
      record {
        before = take place recording;
        l0 = get_or from 0 0;
        l1 = get_or from 1 0;
        k0 = get_or from 2 0;
        k1 = get_or from 3 0;
        rest = framed.rest;
        whole = sym (take-append-drop place recording) ∙ ap (λ (xs : List ℕ). take place recording ++ xs) (frame_parts from (length_in from) (omega arith) ∙ ap (λ (p : List ℕ). get_or from 0 0 ∷ get_or from 1 0 ∷ get_or from 2 0 ∷ get_or from 3 0 ∷ (p ++ framed.rest)) known.1);
        at = length-take-le place recording inside;
        long = sym (length-take-le (length_in from) (drop 4 from) room) ∙ ap length known.1;
        named = known.0;
        allowed = known.2;
      }
  stands_by false t e = absurd (not_ok e)

  accepted_first : (r : Result Content ℕ) → faulted_at place r ≡ Ok c → r ≡ Ok c
  accepted_first (Ok x) e = ap (λ (y : Content). Ok y) (ok_same e)
  accepted_first (Err n) e = absurd (not_ok e)

  pub accepted_stands : block_at recording place first ≡ Ok c → Stands recording place first c
  accepted_stands e = stands_by _ refl (accepted_first _ e)

-- a reader that answers the same accepts the same
pub accepts : (recording : List ℕ) (place : ℕ) (first : Bool) (r : Result Content Refused) → r ≡ block_at recording place first → (c : Content) → (r ≡ Ok c → Stands recording place first c) × (Stands recording place first c → r ≡ Ok c)
accepts recording place first r is c = (λ e. accepted_stands recording place first c (sym is ∙ e), λ s. is ∙ stands_accepted recording place first c s)
