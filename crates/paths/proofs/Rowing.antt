-- Rows that are written entry by entry, and rows to which the branches of a list are added.
use Rattle.std.proofs.Common.{◌≡◌, ℕ, ◌+◌, ◌<◌, ◌≤◌, Bool, true, false, cond, eqb, ◌≢◌, List, [], ◌∷◌, length, get_or, drop, set, ℤ, Some, None, Option, sym, refl, ap, ◌∙◌, arith, get_or-set_other, get_or-set_same, length-set, drop-set-lt, below_more, eqb-true}
use borrow.Author.Tests.{eqb-false}
use Rattle.std.proofs.lemmas.List.{get_or_default}
use Rattle.std.specs.List.{AllByRecursion}
use Rattle.model.specs.Trellises.{Branch, StaysIn}
use Rattle.algebras.specs.Semirings.{Semiring, Laws}
use Rattle.paths.specs.declared.branch.ListedBranch.{ListedBranch}
use Rattle.paths.specs.Paths.{permits}
use Rattle.paths.specs.Listings.{below}
use Rattle.paths.specs.Sums.{total}
use Rattle.paths.specs.Rows.{Entries}
use Rattle.paths.specs.Branches.{Within}
use Rattle.paths.specs.FlatRecursion.{branch_brings, with_listed_branch, with_branches}
use Rattle.paths.proofs.Totals.{plus_zero, total_more}

-- one entry more of f
pub placed : {W : Type 0} (f : ℕ → W) (ws : List W) (i : ℕ) (w d : W) → i < length ws → ((k : ℕ) → k < i → get_or ws k d ≡ f k) → w ≡ f i → (k : ℕ) → k < i + 1 → get_or (set ws i w) k d ≡ f k
placed f ws i w d h under e =
    below_more (λ k. get_or (set ws i w) k d ≡ f k) i
    (λ k l. let ne : k ≢ i = omega arith in get_or-set_other ws i k w d ne ∙ under k l)
    (get_or-set_same ws i w d h ∙ e)

module _ {W : Type 0} (r : Semiring W) (laws : Laws r) where
  -- sums that grow by one term at each entry
  pub gathered_more : (n a : ℕ) (f : ℕ → ℕ → W) (u v w : List W) →
      Entries n (λ k. r.plus (get_or u k r.zero) (total r (f k) (below a))) u v →
      Entries n (λ k. r.plus (get_or v k r.zero) (f k a)) v w →
      Entries n (λ k. r.plus (get_or u k r.zero) (total r (f k) (below (a + 1)))) u w
  gathered_more n a f u v w p q = record {
    entry = λ k d l.
        q.entry k d l
        ∙ ap (λ y. r.plus y (f k a)) (p.entry k r.zero l)
        ∙ laws.plus_assoc (get_or u k r.zero) (total r (f k) (below a)) (f k a)
        ∙ ap (r.plus (get_or u k r.zero)) (sym (total_more r laws (f k) a));
    rest = q.rest ∙ p.rest;
  }

  pub at_place : (ws : List W) (t k : ℕ) (v d : W) (b : Bool) → eqb k t ≡ b → t < length ws → k < length ws →
      get_or (set ws t (r.plus (get_or ws t r.zero) v)) k d ≡ r.plus (get_or ws k r.zero) (cond b v r.zero)
  at_place ws t k v d true e h l =
      let s : k ≡ t = eqb-true k t e in
      ap (λ j. get_or (set ws t (r.plus (get_or ws t r.zero) v)) j d) s ∙ get_or-set_same ws t (r.plus (get_or ws t r.zero) v) d h ∙ ap (λ j. r.plus (get_or ws j r.zero) v) (sym s)
  at_place ws t k v d false e h l =
      get_or-set_other ws t k (r.plus (get_or ws t r.zero) v) d (eqb-false k t e) ∙ get_or_default ws k d r.zero l ∙ sym (plus_zero r laws (get_or ws k r.zero))

  -- what the branches of a list bring, each added at its place
  module _ (cost : ℤ → ℤ → ℕ) (x : ℤ) (row : ℕ → W) (n : ℕ) where
    pub extended : (bs : List ListedBranch) (ws : List W) → AllByRecursion (Within n n) bs → n ≤ length ws →
        Entries n (λ t. r.plus (get_or ws t r.zero) (total r (branch_brings cost r x row t) bs)) ws (with_branches cost r x row ws bs)
    extended [] ws i h = record {
      entry = λ k e l. get_or_default ws k e r.zero (omega arith) ∙ sym (plus_zero r laws (get_or ws k r.zero));
      rest = refl;
    }
    extended (b ∷ bs) ws i h =
        let v = r.times (row b.from) (r.weight (cost b.label x)) in
        let lt : b.next < n = i.0.1 in
        let more = extended bs (with_listed_branch cost r x row ws b) i.1 (simp length-set h) in
        record {
          entry = λ k e l.
              more.entry k e l
              ∙ ap (λ y. r.plus y (total r (branch_brings cost r x row k) bs)) (at_place ws b.next k v r.zero (eqb k b.next) refl (omega arith) (omega arith))
              ∙ laws.plus_assoc (get_or ws k r.zero) (branch_brings cost r x row k b) (total r (branch_brings cost r x row k) bs);
          rest = more.rest ∙ drop-set-lt n ws b.next (r.plus (get_or ws b.next r.zero) v) lt;
        }

    -- into a row that was cleared
    pub extended_clear : (bs : List ListedBranch) (us vs ws : List W) → AllByRecursion (Within n n) bs → n ≤ length vs → Entries n (λ k. r.zero) us vs → ws ≡ with_branches cost r x row vs bs →
        Entries n (λ t. total r (branch_brings cost r x row t) bs) us ws
    extended_clear bs us vs ws i h p e =
        let q = extended bs vs i h in
        record {
          entry = λ k c l.
              ap (λ y. get_or y k c) e ∙ q.entry k c l
              ∙ ap (λ y. r.plus y (total r (branch_brings cost r x row k) bs)) (p.entry k r.zero l) ∙ laws.zero_plus (total r (branch_brings cost r x row k) bs);
          rest = ap (drop n) e ∙ q.rest ∙ p.rest;
        }

-- a branch that stays within fewer states stays within more
pub stays_more : (m n : ℕ) (b : Branch) → m ≤ n → StaysIn m b → StaysIn n b
stays_more m n None h i = tt
stays_more m n (Some b) h i = (omega (arith, i.0), i.1)

-- a sum over the permitted entries of a row, that grows by one entry
module _ {W : Type 0} (r : Semiring W) (laws : Laws r) (end : Option ℕ) (row : List W) where
  abbrev term : ℕ → W
  term s = cond (permits end s) (get_or row s r.zero) r.zero

  pub term_taken : (s : ℕ) (sum v : W) → permits end s ≡ true → v ≡ get_or row s r.zero → sum ≡ total r term (below s) → r.plus sum v ≡ total r term (below (s + 1))
  term_taken s sum v e a p =
      ap (λ y. r.plus y v) p ∙ ap (r.plus (total r term (below s))) (a ∙ ap (λ b. cond b (get_or row s r.zero) r.zero) (sym e)) ∙ sym (total_more r laws term s)

  pub term_left : (s : ℕ) (sum : W) → permits end s ≡ false → sum ≡ total r term (below s) → sum ≡ total r term (below (s + 1))
  term_left s sum e p =
      p ∙ sym (plus_zero r laws (total r term (below s))) ∙ ap (r.plus (total r term (below s))) (ap (λ b. cond b (get_or row s r.zero) r.zero) (sym e)) ∙ sym (total_more r laws term s)
