-- Which recordings are accepted, and what they give. Assumes nothing.
use Rattle.std.proofs.Common.{◌≡◌, ℕ, suc, ◌≤◌, Bool, true, false, cond, leb, List, [], ◌++◌, length, drop, ℤ, is_some, Some, None, Ok, Err, Option, Result, unwrap_or, sym, refl, ap, ◌∙◌, subst, arith, le-leb}
use Rattle.std.proofs.lemmas.Bool.{leb-true}
use Rattle.model.specs.declared.refusal.Refusal.TheVariants.{NoPath, RecordingLarge}
use Rattle.model.specs.declared.refusal.Layer.TheVariants.{Blocks}
use Rattle.model.specs.Refusals.{refusal_number, layer_number, Refused}
use Rattle.model.specs.Trellises.{Diagram, Lawful}
use Rattle.algebras.specs.Counts.{counting}
use Rattle.paths.specs.Paths.{Path, last_state}
use Rattle.paths.specs.Listings.{admissible_paths}
use Rattle.paths.specs.Sums.{path_sum}
use Rattle.paths.specs.Cheapest.{cheapest_paths, first_path}
use Rattle.paths.specs.Laws.{First, IsFirst}
use Rattle.paths.proofs.Listing.{admissible_listed}
use Rattle.paths.proofs.Firsts.{first_found, second_found, cheapest_listed}
use Rattle.paths.proofs.Sayings.{counting_says}
use Rattle.setups.specs.declared.setup.Setup.{Setup}
use Rattle.setups.specs.Lines.{follow}
use Rattle.descriptions.specs.Channels.{channel_of, measure_of}
use Rattle.descriptions.specs.Descriptions as Text
use Rattle.descriptions.proofs.Describing.{accepted_describes, described_accepted}
use Rattle.records.specs.Held.{Held}
use Rattle.records.specs.Reports.{has_room, with_letters, reported_path, report_of, Reports}
use Rattle.records.proofs.FirstReports.{none_is}
use Rattle.blocks.specs.Blocks.{description, payload_of, block_at, next_place}
use Rattle.blocks.proofs.Facts.{first_described}
use Rattle.recordings.specs.declared.outcome.Outcome.{Outcome}
use Rattle.recordings.specs.Recordings.{most_bytes, call_fault, set_up_by, set_up, read_blocks, outcome_of, detected, held_at_first, detected_from, recording, outcome_in, buffer_after}
use Rattle.recordings.specs.Recorded.{Recorded, end_place, held_in, PathIn, Gives, Accepts}
use Rattle.recordings.specs.Steps.{Lawfully}
use Rattle.recordings.proofs.Holding.{held_first}
use Rattle.model.proofs.Cases.{not_ok, ok_same}
use Rattle.recordings.proofs.Parting.{stands, parted, block_length, from_block, after_block, reads, followed, BlocksFrom, blocks_from}

-- ---- what is read of a recording

module _ (bytes : List ℕ) (s : Setup) (xs : List ℤ) (c : Recorded bytes s xs) where
  pub sets_up : set_up bytes ≡ Ok (s, length c.first)
  sets_up =
      let at : block_at bytes 0 true ≡ Ok (description c.text) = stands bytes [] c.first (c.between ++ c.last) true (description c.text) c.whole c.described refl in
      let next : next_place 0 (description c.text) ≡ length c.first = omega (arith, block_length (description c.text) c.first c.described) in
      ap (λ o. follow o set_up_by) at
      ∙ ap (λ o. follow o (λ t. Ok (t, next_place 0 (description c.text)))) (described_accepted 4 c.text s c.describes)
      ∙ ap (λ k. Ok (s, k)) next

  pub detects : (at buffer : ℕ) → recording bytes at buffer ≡ detected (channel_of s.trellis) (measure_of s.measure) at buffer (held_in s xs) (end_place c)
  detects at buffer =
      let few : leb (length bytes) most_bytes ≡ true = le-leb _ _ c.few_bytes in
      let none = held_first s c.describes.passes in
      let read = reads c.carried bytes c.first c.last c.whole c.ended (held_in s []) (omega (arith, c.few_samples)) in
      ap (λ b. cond b (follow (set_up bytes) (λ t. detected_from bytes at buffer t.0 t.1)) (Err (record { number = refusal_number RecordingLarge; layer = layer_number Blocks; place = 0 }))) few
      ∙ ap (λ o. follow o (λ t. detected_from bytes at buffer t.0 t.1)) sets_up
      ∙ ap (λ o. follow o (λ e. detected (channel_of s.trellis) (measure_of s.measure) at buffer e.0 e.1)) (ap (read_blocks (suc (length bytes)) bytes (length c.first)) none ∙ read)

-- ---- what is accepted is a recording

by_length : (bytes : List ℕ) (at buffer : ℕ) (v : Outcome × Path) → recording bytes at buffer ≡ Ok v → (length bytes ≤ most_bytes) × (follow (set_up bytes) (λ t. detected_from bytes at buffer t.0 t.1) ≡ Ok v)
by_length bytes at buffer v e = go (leb (length bytes) most_bytes) refl e
  where
    go : (b : Bool) → leb (length bytes) most_bytes ≡ b →
        cond b (follow (set_up bytes) (λ t. detected_from bytes at buffer t.0 t.1)) (Err (record { number = refusal_number RecordingLarge; layer = layer_number Blocks; place = 0 })) ≡ Ok v →
        (length bytes ≤ most_bytes) × (follow (set_up bytes) (λ t. detected_from bytes at buffer t.0 t.1) ≡ Ok v)
    go true t f = (leb-true _ _ t, f)
    go false t f = absurd (not_ok f)

record FirstBlock (bytes : List ℕ) (s : Setup) (from : ℕ) : Type 0 where
  pub text : List ℕ
  pub at : block_at bytes 0 true ≡ Ok (description text)
  pub describes : Text.Describes text s
  pub next : from ≡ next_place 0 (description text)

first_by : (bytes : List ℕ) (s : Setup) (from : ℕ) → set_up bytes ≡ Ok (s, from) → FirstBlock bytes s from
first_by bytes s from e =
    let f = followed (block_at bytes 0 true) set_up_by (s, from) e in
    let is : f.0 ≡ description (payload_of f.0) = first_described bytes 0 f.0 f.1 in
    let text = payload_of f.0 in
    let d = followed (Text.description 4 text) (λ t. Ok (t, next_place 0 (description text))) (s, from) (ap set_up_by (sym is) ∙ f.2) in
    let same : (d.0, next_place 0 (description text)) ≡ (s, from) = ok_same d.2 in
    record { text = text; at = f.1 ∙ ap (λ v. Ok v) is; describes = accepted_describes 4 text s (d.1 ∙ ap (λ t. Ok t.0) same); next = sym (ap (λ t. t.1) same) }

recorded_by : (bytes : List ℕ) (s : Setup) (from : ℕ) (k : Held) → length bytes ≤ most_bytes → FirstBlock bytes s from → BlocksFrom bytes from (held_in s []) k → (xs : List ℤ) × Recorded bytes s xs
recorded_by bytes s from k few first others =
    let p = parted bytes 0 true (description first.text) first.at in
    let rest : p.rest ≡ others.between ++ others.last = sym (after_block bytes 0 true (description first.text) p) ∙ ap (λ n. drop n bytes) (sym first.next) ∙ others.rest in (
      others.xs,
      record {
        first = p.block;
        between = others.between;
        last = others.last;
        whole = from_block bytes 0 true (description first.text) p ∙ ap (λ r. p.block ++ r) rest;
        few_bytes = few;
        text = first.text;
        described = p.is_block;
        describes = first.describes;
        carried = others.carried;
        few_samples = omega (arith, others.room);
        ended = others.ended;
      },
    )

detected_by : (bytes : List ℕ) (at buffer : ℕ) (s : Setup) (from : ℕ) (v : Outcome × Path) → length bytes ≤ most_bytes → set_up bytes ≡ Ok (s, from) → detected_from bytes at buffer s from ≡ Ok v → (xs : List ℤ) × Recorded bytes s xs
detected_by bytes at buffer s from v few set e =
    let first = first_by bytes s from set in
    let b = followed (read_blocks (suc (length bytes)) bytes from (held_at_first s)) (λ k. detected (channel_of s.trellis) (measure_of s.measure) at buffer k.0 k.1) v e in
    recorded_by bytes s from b.0.0 few first
    (blocks_from (suc (length bytes)) bytes from b.0.1 (held_in s []) b.0.0 (omega arith) (ap (read_blocks (suc (length bytes)) bytes from) (sym (held_first s first.describes.passes)) ∙ b.1))

pub recorded : (bytes : List ℕ) (at buffer : ℕ) (v : Outcome × Path) → recording bytes at buffer ≡ Ok v → (s : Setup) × (xs : List ℤ) × Recorded bytes s xs
recorded bytes at buffer v e =
    let few = by_length bytes at buffer v e in
    let f = followed (set_up bytes) (λ t. detected_from bytes at buffer t.0 t.1) v few.1 in
    let is = detected_by bytes at buffer f.0.0 f.0.1 v few.0 f.1 f.2 in
    (f.0.0, is.0, is.1)

-- ---- what it gives

some_value : (o : Option ℕ) → is_some o ≡ true → o ≡ Some (unwrap_or o 0)
some_value (Some n) e = refl
some_value None e = absurd (let z : ◌≡◌ {A = ℕ} 0 1 = cc in omega arith)

-- the report of the first path says this of it
pub reports_first : (d : Diagram) → Lawful d → (cost : ℤ → ℤ → ℕ) (h : Held) (p : Path) → First d cost h.start h.end h.samples p → Reports d cost h p (report_of d cost h p)
reports_first d lawful cost h p f = record {
  path = f.path;
  first = refl;
  last = some_value (last_state d p) f.path.path.branches;
  cost_is = refl;
  ahead = f.ahead;
  ties_are = (cheapest_paths d cost h.start h.end h.samples, cheapest_listed d lawful cost h.start h.end h.samples, refl);
  second_is = second_found d lawful cost h.start h.end h.samples p;
}

module _ (s : Setup) (xs : List ℤ) (at place : ℕ) (old : List ℕ) (lawful : Lawful (channel_of s.trellis)) where
  abbrev d : Diagram
  d = channel_of s.trellis

  abbrev cost : ℤ → ℤ → ℕ
  cost = measure_of s.measure

  abbrev h : Held
  h = held_in s xs

  -- the outcome of a path
  abbrev pub outcome_with : Path → Outcome
  outcome_with p = record { samples = length xs; paths = (path_sum d cost counting h.start h.end xs).value; report = report_of d cost h p }

  pub gives : (p : Path) → First d cost h.start h.end xs p → has_room (length xs) at (length old) ≡ true → (new : List ℕ) → new ≡ with_letters at old p → Gives s xs at old new (outcome_with p)
  gives p f room new is = record {
    held = refl;
    counted = (admissible_paths d h.start h.end (length xs), admissible_listed d lawful h.start h.end (length xs), ap (λ w. w.value) (counting_says d cost h.start h.end xs));
    path = p;
    reports = reports_first d lawful cost h p f;
    fits = room;
    letters = is;
  }

  -- by the path that is reported
  by_path : (o : Option Path) (room : Bool) (v : Outcome × Path) → outcome_of d cost h place room o ≡ Ok v → (o ≡ Some v.1) × (room ≡ true) × (v.0 ≡ outcome_with v.1)
  by_path None room v e = absurd (not_ok e)
  by_path (Some p) true v e =
      let same : (outcome_with p, p) ≡ v = ok_same e in
      (ap (λ w. Some w.1) same, refl, sym (ap (λ w. w.0) same) ∙ ap (λ w. outcome_with w.1) same)
  by_path (Some p) false v e = absurd (not_ok e)

  pub gives_by : (v : Outcome × Path) (new : List ℕ) → detected d cost at (length old) h place ≡ Ok v → new ≡ with_letters at old v.1 → Gives s xs at old new v.0
  gives_by v new e is =
      let found = by_path (reported_path d cost h) (has_room (length xs) at (length old)) v e in
      let f : First d cost h.start h.end xs v.1 = subst (IsFirst d cost h.start h.end xs) found.0 (first_found d lawful cost h.start h.end xs) in
      subst (Gives s xs at old new) (sym found.2) (gives v.1 f found.1 new is)

  -- where there is an admissible path, one is reported
  pub some_first : (p : Path) → PathIn s xs p → (q : Path) × (reported_path d cost h ≡ Some q)
  some_first p a = go (first_path d cost h.start h.end xs) refl
    where
      go : (o : Option Path) → first_path d cost h.start h.end xs ≡ o → (q : Path) × (reported_path d cost h ≡ Some q)
      go (Some q) e = (q, e)
      go None e = absurd (subst (IsFirst d cost h.start h.end xs) e (first_found d lawful cost h.start h.end xs) p a)

  pub detected_some : (q : Path) (room : Bool) → reported_path d cost h ≡ Some q → has_room (length xs) at (length old) ≡ room → detected d cost at (length old) h place ≡ outcome_of d cost h place room (Some q)
  detected_some q room e f = ap (outcome_of d cost h place (has_room (length xs) at (length old))) e ∙ ap (λ b. outcome_of d cost h place b (Some q)) f

  pub detected_none : ((p : Path) → PathIn s xs p → ⊥) → detected d cost at (length old) h place ≡ Err (call_fault (refusal_number NoPath) place)
  detected_none none = ap (outcome_of d cost h place (has_room (length xs) at (length old))) (none_is d lawful cost h.start h.end xs none)

-- ---- both ways

out_by : (v : Result (Outcome × Path) Refused) (o : Outcome) → outcome_in v ≡ Ok o → (p : Path) × (v ≡ Ok (o, p))
out_by (Ok w) o e = (w.1, ap (λ x. Ok (x, w.1)) (ok_same e))
out_by (Err f) o e = absurd (not_ok e)

out_fault : (v : Result (Outcome × Path) Refused) (f : Refused) (at : ℕ) (old : List ℕ) → outcome_in v ≡ Err f → buffer_after v at old ≡ old
out_fault (Ok w) f at old e = absurd (not_ok (sym e))
out_fault (Err g) f at old e = refl

-- a reader that answers what the definition gives, over a lawful channel
pub accepts : (bytes : List ℕ) (at : ℕ) (old new : List ℕ) (r : Result Outcome Refused) → r ≡ outcome_in (recording bytes at (length old)) → new ≡ buffer_after (recording bytes at (length old)) at old →
    Lawfully bytes → Accepts bytes at old new r
accepts bytes at old new r value letters lawful = record {
  only = λ o e.
      let out = out_by (recording bytes at (length old)) o (sym value ∙ e) in
      let is = recorded bytes at (length old) (o, out.0) out.1 in
      let law = lawful is.2.few_bytes is.0 (length is.2.first) (sets_up bytes is.0 is.1 is.2) in
      let place = end_place is.2 in (
        is.0,
        is.1,
        is.2,
        gives_by is.0 is.1 at place old law (o, out.0) new (sym (detects bytes is.0 is.1 is.2 at (length old)) ∙ out.1) (letters ∙ ap (λ v. buffer_after v at old) out.1),
      );
  each = λ s xs c p a room.
      let law = lawful c.few_bytes s (length c.first) (sets_up bytes s xs c) in
      let place = end_place c in
      let q = some_first s xs at place old law p a in
      let found = detected_some s xs at place old law q.0 true q.1 room in
      let all = detects bytes s xs c at (length old) ∙ found in (
        outcome_with s xs at place old law q.0,
        value ∙ ap outcome_in all,
        gives_by s xs at place old law (outcome_with s xs at place old law q.0, q.0) new found (letters ∙ ap (λ v. buffer_after v at old) all),
      );
  no_path = λ s xs c none.
      let law = lawful c.few_bytes s (length c.first) (sets_up bytes s xs c) in
      value ∙ ap outcome_in (detects bytes s xs c at (length old) ∙ detected_none s xs at (end_place c) old law none);
  no_room = λ s xs c p a short.
      let law = lawful c.few_bytes s (length c.first) (sets_up bytes s xs c) in
      let place = end_place c in
      let q = some_first s xs at place old law p a in
      value ∙ ap outcome_in (detects bytes s xs c at (length old) ∙ detected_some s xs at place old law q.0 false q.1 short);
  unchanged = λ f e. letters ∙ out_fault (recording bytes at (length old)) f at old (sym value ∙ e);
}
