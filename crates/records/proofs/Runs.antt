-- Lists of calls, one call after another. Assumes nothing.
use Rattle.std.proofs.Common.{◌≡◌, ℕ, zero, suc, ◌+◌, ◌<◌, ◌≤◌, min, Bool, true, false, cond, ◌&&◌, leb, List, [], ◌∷◌, length, get_or, take, drop, fold, sym, refl, ap, ◌∙◌, arith, le-leb, leb-false, leb-true}
use borrow.Author.Tests.{lt-leb}
use Rattle.std.proofs.lemmas.List.{at_drop_more, at_drop_all}
use Rattle.std.proofs.lemmas.List.Sums.{fold_more}
use Rattle.model.specs.Trellises.{Diagram}
use Rattle.records.specs.declared.call.Call.{Call}
use Rattle.records.specs.Held.{Held, new_held}
use Rattle.records.specs.Runs.{has, turned, held_by, allowed, allowed_from, settled_after, held_after}

leb_min : (s m : ℕ) → s ≤ 64 → leb s (min m 64) ≡ leb s m
leb_min s m h = by (leb s m) refl
  where
    by : (b : Bool) → leb s m ≡ b → leb s (min m 64) ≡ b
    by true e = let l : s ≤ m = leb-true s m e in le-leb s (min m 64) (omega arith)
    by false e = let l : m < s = leb-false s m e in lt-leb s (min m 64) (omega arith)

-- rows that are cut at 64 entries are long enough where the whole ones are
pub rows_cut : (s m n m' n' : ℕ) → s ≤ 64 → m' ≡ min m 64 → n' ≡ min n 64 → ◌≡◌ {A = ℕ} (cond (leb s m' && leb s n') 0 26) (cond (leb s m && leb s n) 0 26)
rows_cut s m n m' n' h p q = rw (p, q, leb_min s m h, leb_min s n h)

-- ---- which calls are allowed

allowed_by : (b : Bool) (c : Call) (cs : List Call) (v : Bool) → has b c ≡ v → allowed_from b (c ∷ cs) ≡ cond v (suc (allowed_from (turned b c) cs)) 0
allowed_by b c cs v e = ap (λ w. cond w (suc (allowed_from (turned b c) cs)) 0) e

pub allowed_no : (b : Bool) (cs : List Call) (i : ℕ) (d : Call) → i < length cs → has b (get_or cs i d) ≡ false → allowed_from b (drop i cs) ≡ 0
allowed_no b cs i d lt e = at_drop_more (allowed_from b) cs i d lt ∙ allowed_by b (get_or cs i d) (drop (i + 1) cs) false e

pub allowed_yes : (b : Bool) (cs : List Call) (i : ℕ) (d : Call) → i < length cs → has b (get_or cs i d) ≡ true → allowed_from b (drop i cs) ≡ suc (allowed_from (turned b (get_or cs i d)) (drop (i + 1) cs))
allowed_yes b cs i d lt e = at_drop_more (allowed_from b) cs i d lt ∙ allowed_by b (get_or cs i d) (drop (i + 1) cs) true e

pub allowed_all : (b : Bool) (cs : List Call) (i : ℕ) → length cs ≤ i → allowed_from b (drop i cs) ≡ 0
allowed_all b cs i le = at_drop_all (allowed_from b) cs i le

-- the state has each of the allowed calls when its turn comes
pub allowed_has : (b : Bool) (cs : List Call) (i : ℕ) (d : Call) → i < allowed_from b cs → has (fold turned b (take i cs)) (get_or cs i d) ≡ true
allowed_has b [] i d lt = absurd (omega arith)
allowed_has b (c ∷ cs) i d lt = by (has b c) refl i lt (λ j h. allowed_has (turned b c) cs j d h)
  where
    by : (v : Bool) → has b c ≡ v → (j : ℕ) → j < allowed_from b (c ∷ cs) → ((k : ℕ) → k < allowed_from (turned b c) cs → has (fold turned (turned b c) (take k cs)) (get_or cs k d) ≡ true) →
        has (fold turned b (take j (c ∷ cs))) (get_or (c ∷ cs) j d) ≡ true
    by true e zero h rest = e
    by true e (suc j) h rest = rest j (omega (arith, allowed_by b c cs true e))
    by false e j h rest = absurd (omega (arith, allowed_by b c cs false e))

-- up to the first that is not allowed, all are
pub allowed_take : (b : Bool) (cs : List Call) → allowed_from b (take (allowed_from b cs) cs) ≡ length (take (allowed_from b cs) cs)
allowed_take b [] = refl
allowed_take b (c ∷ cs) = by (has b c) refl (allowed_take (turned b c) cs)
  where
    by : (v : Bool) → has b c ≡ v → allowed_from (turned b c) (take (allowed_from (turned b c) cs) cs) ≡ length (take (allowed_from (turned b c) cs) cs) →
        allowed_from b (take (allowed_from b (c ∷ cs)) (c ∷ cs)) ≡ length (take (allowed_from b (c ∷ cs)) (c ∷ cs))
    by true e rest = rw (allowed_by b c cs true e) (allowed_by b c (take (allowed_from (turned b c) cs) cs) true e ∙ ap suc rest)
    by false e rest = rw (allowed_by b c cs false e)

-- no more are allowed than there are
pub allowed_few : (b : Bool) (cs : List Call) → allowed_from b cs ≤ length cs
allowed_few b [] = omega arith
allowed_few b (c ∷ cs) = by (has b c) refl (allowed_few (turned b c) cs)
  where
    by : (v : Bool) → has b c ≡ v → allowed_from (turned b c) cs ≤ length cs → allowed_from b (c ∷ cs) ≤ length (c ∷ cs)
    by true e rest = omega (arith, allowed_by b c cs true e)
    by false e rest = omega (arith, allowed_by b c cs false e)

-- ---- one call more

pub run_more : (d d' : Diagram) (cs : List Call) (i : ℕ) (c : Call) (s s' : Bool) (h h' : Held) → i < length cs → i < allowed cs → d' ≡ d → s ≡ settled_after (take i cs) → h ≡ held_after d (take i cs) →
    s' ≡ cond (has s (get_or cs i c)) (turned s (get_or cs i c)) s → h' ≡ cond (has s (get_or cs i c)) (held_by d' h (get_or cs i c)) h →
    (s' ≡ settled_after (take (i + 1) cs)) × (h' ≡ held_after d (take (i + 1) cs))
run_more d d' cs i c s s' h h' lt in' de se he s-is h-is =
    let yes_has : has s (get_or cs i c) ≡ true = ap (λ b. has b (get_or cs i c)) se ∙ allowed_has false cs i c in' in (
      s-is ∙ ap (λ b. cond b (turned s (get_or cs i c)) s) yes_has ∙ ap (λ b. turned b (get_or cs i c)) se ∙ sym (fold_more turned false cs i c lt),
      h-is ∙ ap (λ b. cond b (held_by d' h (get_or cs i c)) h) yes_has ∙ ap (λ e. held_by e h (get_or cs i c)) de ∙ ap (λ k. held_by d k (get_or cs i c)) he ∙ sym (fold_more (held_by d) new_held cs i c lt),
    )
