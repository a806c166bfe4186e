-- A recording and its blocks. Assumes nothing.
use Rattle.std.proofs.Common.{◌≡◌, ℕ, zero, suc, ◌+◌, ◌≤◌, Bool, true, false, cond, eqb, List, [], ◌∷◌, ◌++◌, length, drop, ℤ, Some, None, Ok, Err, Result, sym, refl, ap, ◌∙◌, append_assoc, append-nil, arith, length-append}
use Rattle.std.proofs.lemmas.List.{drop_at}
use Rattle.std.proofs.lemmas.Bool.{eqb-true}
use Rattle.model.specs.Refusals.{Refused}
use Rattle.paths.proofs.Listing.{never}
use Rattle.survivors.specs.Choices.{most_samples}
use Rattle.setups.specs.Lines.{follow}
use Rattle.records.specs.Held.{Held}
use Rattle.blocks.specs.declared.kind.Kind.{Kind}
use Rattle.blocks.specs.declared.kind.Kind.TheVariants.{Description, Samples, End}
use Rattle.blocks.specs.Kinds.{kind_of}
use Rattle.blocks.specs.Blocks.{Content, description, samples, end, payload_of, block_at, next_place}
use Rattle.blocks.specs.Samples.{samples_of}
use Rattle.blocks.specs.Standing.{kind_named, Allowed}
use Rattle.blocks.proofs.Accepting.{stands_accepted, accepted_stands}
use Rattle.blocks.proofs.Facts.{later_undescribed}
use Rattle.recordings.specs.Recordings.{take_all, with_block, read_blocks}
use Rattle.recordings.specs.Recorded.{kind_number, BlockOf, SampleBlocks, no_more, and_then}
use Rattle.recordings.proofs.BlockLists.{blocks_more}
use Rattle.model.proofs.Cases.{not_ok, ok_same}
use Rattle.recordings.proofs.Holding.{more, more_none, more_more, takes_all, all_taken}

-- ---- one block

named_kind : (c : Content) (n : ℕ) → n ≡ kind_number c → kind_of n ≡ Some (kind_named c)
named_kind (description text) n e = ap kind_of e
named_kind (samples payload) n e = ap kind_of e
named_kind end n e = ap kind_of e

abbrev number : Kind → ℕ
number Description = 1
number Samples = 2
number End = 3

number_is : (c : Content) → number (kind_named c) ≡ kind_number c
number_is (description text) = refl
number_is (samples payload) = refl
number_is end = refl

kind_named_by : (n : ℕ) (k : Kind) (a b c : Bool) → eqb n 1 ≡ a → eqb n 2 ≡ b → eqb n 3 ≡ c → cond a (Some Description) (cond b (Some Samples) (cond c (Some End) None)) ≡ Some k → n ≡ number k
kind_named_by n k true b c x y z e = let same : Description ≡ k = cc in eqb-true _ _ x ∙ ap number same
kind_named_by n k false true c x y z e = let same : Samples ≡ k = cc in eqb-true _ _ y ∙ ap number same
kind_named_by n k false false true x y z e = let same : End ≡ k = cc in eqb-true _ _ z ∙ ap number same
kind_named_by n k false false false x y z e = absurd (never e refl)

-- a block in a recording, where it may stand, is accepted at its place
pub stands : (bytes before block rest : List ℕ) (first : Bool) (c : Content) → bytes ≡ before ++ (block ++ rest) → BlockOf c block → Allowed first c rest → block_at bytes (length before) first ≡ Ok c
stands bytes before block rest first c whole b allowed =
    stands_accepted bytes (length before) first c (record {
      before = before;
      l0 = b.l0;
      l1 = b.l1;
      k0 = b.k0;
      k1 = b.k1;
      rest = rest;
      whole = whole ∙ ap (λ v. before ++ (v ++ rest)) b.whole;
      at = refl;
      long = b.long;
      named = named_kind c _ b.kind;
      allowed = allowed;
    })

-- a block that is accepted, and the bytes before and after it
pub record Parted (bytes : List ℕ) (place : ℕ) (first : Bool) (c : Content) : Type 0 where
  pub before : List ℕ
  pub block : List ℕ
  pub rest : List ℕ
  pub whole : bytes ≡ before ++ (block ++ rest)
  pub at : length before ≡ place
  pub is_block : BlockOf c block
  pub allowed : Allowed first c rest

pub parted : (bytes : List ℕ) (place : ℕ) (first : Bool) (c : Content) → block_at bytes place first ≡ Ok c → Parted bytes place first c
parted bytes place first c e =
    let s = accepted_stands bytes place first c e in
    record {
      before = s.before;
      block = s.l0 ∷ s.l1 ∷ s.k0 ∷ s.k1 ∷ payload_of c;
      rest = s.rest;
      whole = s.whole;
      at = s.at;
      is_block = record { l0 = s.l0; l1 = s.l1; k0 = s.k0; k1 = s.k1; whole = refl; long = s.long; kind = kind_named_by _ (kind_named c) _ _ _ refl refl refl s.named ∙ number_is c };
      allowed = s.allowed;
    }

pub block_length : (c : Content) (block : List ℕ) → BlockOf c block → length block ≡ 4 + length (payload_of c)
block_length c block b = omega (arith, ap length b.whole)

-- the bytes from such a block on, and those after it
pub from_block : (bytes : List ℕ) (place : ℕ) (first : Bool) (c : Content) (p : Parted bytes place first c) → drop place bytes ≡ p.block ++ p.rest
from_block bytes place first c p = ap (drop place) p.whole ∙ drop_at p.before (p.block ++ p.rest) place p.at

pub after_block : (bytes : List ℕ) (place : ℕ) (first : Bool) (c : Content) (p : Parted bytes place first c) → drop (next_place place c) bytes ≡ p.rest
after_block bytes place first c p =
    let long : length (p.before ++ p.block) ≡ next_place place c = omega (arith, length-append p.before p.block, block_length c p.block p.is_block, p.at) in
    ap (drop (next_place place c)) (p.whole ∙ sym (append_assoc p.before p.block p.rest)) ∙ drop_at (p.before ++ p.block) p.rest (next_place place c) long

-- ---- sample blocks and the end block

-- what is read of sample blocks and an end block
pub reads : {between : List ℕ} {xs : List ℤ} → SampleBlocks between xs → (bytes before last : List ℕ) → bytes ≡ before ++ (between ++ last) → BlockOf end last → (h : Held) → length h.samples + length xs ≤ most_samples →
    ◌≡◌ {A = Result (Held × ℕ) Refused} (read_blocks (suc (length bytes)) bytes (length before) h) (Ok (more h xs, length before + length between))
reads no_more bytes before last whole ended h room =
    let at : block_at bytes (length before) false ≡ Ok end = stands bytes before last [] false end (whole ∙ ap (λ v. before ++ v) (sym (append-nil last))) ended (refl, refl) in
    let place : length before ≡ length before + 0 = omega arith in
    ap (λ o. follow o (λ c. with_block (length before) h c (read_blocks (length bytes) bytes (next_place (length before) c)))) at
    ∙ ap (λ k. Ok (k, length before)) (sym (more_none h))
    ∙ ap (λ k. Ok (more h [], k)) place
reads (and_then payload block {rest} {xs} b even others) bytes before last whole ended h room =
    let many : length (samples_of payload ++ xs) ≡ length (samples_of payload) + length xs = length-append (samples_of payload) xs in
    let held : length (h.samples ++ samples_of payload) ≡ length h.samples + length (samples_of payload) = length-append h.samples (samples_of payload) in
    let whole' : bytes ≡ before ++ (block ++ (rest ++ last)) = whole ∙ ap (λ v. before ++ v) (append_assoc block rest last) in
    let at : block_at bytes (length before) false ≡ Ok (samples payload) = stands bytes before block (rest ++ last) false (samples payload) whole' b (refl, even) in
    let long : length (before ++ block) ≡ length before + length block = length-append before block in
    let next : length (before ++ block) ≡ next_place (length before) (samples payload) = omega (arith, block_length (samples payload) block b) in
    let place : length (before ++ block) + length rest ≡ length before + length (block ++ rest) = omega (arith, length-append block rest) in
    sym (blocks_more bytes (length before) (length (before ++ block)) payload h (more h (samples_of payload)) (sym at) next (sym (takes_all (length before) h (samples_of payload) (omega arith))))
    ∙ reads others bytes (before ++ block) last (whole' ∙ sym (append_assoc before block (rest ++ last))) ended (more h (samples_of payload)) (omega arith)
    ∙ ap (λ k. Ok (k, length (before ++ block) + length rest)) (more_more h (samples_of payload) xs)
    ∙ ap (λ k. Ok (more h (samples_of payload ++ xs), k)) place

-- what follows from a value, if there is no fault
pub followed : {X Y Z : Type 0} (o : Result X Z) (f : X → Result Y Z) (y : Y) → follow o f ≡ Ok y → (x : X) × (o ≡ Ok x) × (f x ≡ Ok y)
followed (Ok x) f y e = (x, refl, e)
followed (Err z) f y e = absurd (not_ok e)

-- sample blocks from a place on and the end block, after which k is held if h was before them
pub record BlocksFrom (bytes : List ℕ) (place : ℕ) (h k : Held) : Type 0 where
  pub between : List ℕ
  pub last : List ℕ
  pub xs : List ℤ
  pub rest : drop place bytes ≡ between ++ last
  pub carried : SampleBlocks between xs
  pub ended : BlockOf end last
  pub held : k ≡ more h xs
  pub room : length h.samples + length xs ≤ most_samples

by_content : (n : ℕ) (bytes : List ℕ) (place e : ℕ) (h k : Held) (c : Content) → length h.samples ≤ most_samples → block_at bytes place false ≡ Ok c →
    with_block place h c (read_blocks n bytes (next_place place c)) ≡ Ok (k, e) →
    ((i : Held) (at : ℕ) → length i.samples ≤ most_samples → read_blocks n bytes at i ≡ Ok (k, e) → BlocksFrom bytes at i k) → BlocksFrom bytes place h k
by_content n bytes place e h k (description text) room at is again = absurd (later_undescribed bytes place text at)
by_content n bytes place e h k (samples payload) room at is again =
    let p = parted bytes place false (samples payload) at in
    let f = followed (take_all place h (samples_of payload)) (read_blocks n bytes (next_place place (samples payload))) (k, e) is in
    let taken = all_taken place h f.0 (samples_of payload) room f.1 in
    let held : length (h.samples ++ samples_of payload) ≡ length h.samples + length (samples_of payload) = length-append h.samples (samples_of payload) in
    let others = again (more h (samples_of payload)) (next_place place (samples payload)) (omega arith) (ap (read_blocks n bytes (next_place place (samples payload))) (sym taken.0) ∙ f.2) in
    record {
      between = p.block ++ others.between;
      last = others.last;
      xs = samples_of payload ++ others.xs;
      rest = from_block bytes place false (samples payload) p ∙ ap (λ v. p.block ++ v) (sym (after_block bytes place false (samples payload) p) ∙ others.rest) ∙ sym (append_assoc p.block others.between others.last);
      carried = and_then payload p.block p.is_block p.allowed.1 others.carried;
      ended = others.ended;
      held = others.held ∙ more_more h (samples_of payload) others.xs;
      room = omega (arith, length-append (samples_of payload) others.xs, others.room);
    }
by_content n bytes place e h k end room at is again =
    let p = parted bytes place false end at in
    record {
      between = [];
      last = p.block;
      xs = [];
      rest = from_block bytes place false end p ∙ ap (λ v. p.block ++ v) p.allowed.1 ∙ append-nil p.block;
      carried = no_more;
      ended = p.is_block;
      held = sym (ap (λ v. v.0) (ok_same is)) ∙ sym (more_none h);
      room = omega arith;
    }

pub blocks_from : (n : ℕ) (bytes : List ℕ) (place e : ℕ) (h k : Held) → length h.samples ≤ most_samples → ◌≡◌ {A = Result (Held × ℕ) Refused} (read_blocks n bytes place h) (Ok (k, e)) → BlocksFrom bytes place h k
blocks_from zero bytes place e h k room is = absurd (not_ok is)
blocks_from (suc n) bytes place e h k room is =
    let f = followed (block_at bytes place false) (λ c. with_block place h c (read_blocks n bytes (next_place place c))) (k, e) is in
    by_content n bytes place e h k f.0 room f.1 f.2 (λ i at fits more-is. blocks_from n bytes at e i k fits more-is)
