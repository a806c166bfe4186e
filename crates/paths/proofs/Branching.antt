-- The list of all branches, and what its branches bring.
use Rattle.std.proofs.Common.{◌≡◌, ℕ, zero, suc, ◌+◌, ◌<◌, ◌≤◌, List, [], ◌++◌, ℤ, Some, None, sym, refl, ap, ◌∙◌, subst, add-one, arith}
use Rattle.std.specs.List.{flat_map, AllByRecursion}
use Rattle.std.proofs.lemmas.List.{flat_map_more}
use Rattle.std.proofs.ByRecursion.{All-append, All-weaker}
use Rattle.model.specs.Trellises.{Branch, Diagram, StaysIn, Lawful}
use Rattle.algebras.specs.Semirings.{Semiring, Laws}
use Rattle.paths.specs.declared.branch.ListedBranch.{ListedBranch}
use Rattle.paths.specs.Listings.{below}
use Rattle.paths.specs.Sums.{total}
use Rattle.paths.specs.Branches.{listed, branches_from, branches_of, Within}
use Rattle.paths.specs.Recursion.{brings_into, from_state, stepped}
use Rattle.paths.specs.FlatRecursion.{branch_brings}
use Rattle.paths.proofs.Totals.{plus_zero, total_joined, total_ext}

-- one number more
pub listed_more : {X : Type 0} (f : ℕ → List X) (bs xs ys : List X) (i : ℕ) → xs ≡ bs ++ flat_map f (below i) → ys ≡ xs ++ f i → ys ≡ bs ++ flat_map f (below (i + 1))
listed_more f bs xs ys i p q = q ∙ ap (λ z. z ++ f i) p ∙ flat_map_more f bs (below i) i ∙ ap (λ n. bs ++ flat_map f (below n)) (sym (add-one i))

pub state_all : (d : Diagram) (s a : ℕ) (bs xs : List ListedBranch) → a ≡ d.letters → xs ≡ bs ++ flat_map (λ l. listed s l (d.branch s l)) (below a) → xs ≡ bs ++ branches_from d s
unfolding branches_from
state_all d s a bs xs e p = p ∙ ap (λ n. bs ++ flat_map (λ l. listed s l (d.branch s l)) (below n)) e

pub states_all : (d : Diagram) (s : ℕ) (xs : List ListedBranch) → s ≡ d.states → xs ≡ flat_map (branches_from d) (below s) → xs ≡ branches_of d
unfolding branches_of
states_all d s xs e p = p ∙ ap (λ n. flat_map (branches_from d) (below n)) e

-- ---- each is a branch between two states

module _ {X : Type 0} (P : X → Type 0) (f : ℕ → List X) where
  all_joined : (n : ℕ) → ((k : ℕ) → k < n → AllByRecursion P (f k)) → AllByRecursion P (flat_map f (below n))
  all_joined zero h = tt
  all_joined (suc n) h = subst (AllByRecursion P) (flat_map_more f [] (below n) n) (All-append P (flat_map f (below n)) (f n) (all_joined n (λ k l. h k (omega arith))) (h n (omega arith)))

one_within : (n s a : ℕ) (b : Branch) → s < n → StaysIn n b → AllByRecursion (Within n n) (listed s a b)
one_within n s a None l h = tt
one_within n s a (Some b) l h = ((l, h.0), tt)

pub all_within : (d : Diagram) → Lawful d → AllByRecursion (Within d.states d.states) (branches_of d)
unfolding branches_of branches_from
all_within d lawful =
    let P = Within d.states d.states in
    all_joined P (branches_from d) d.states (λ s l. all_joined P (λ a. listed s a (d.branch s a)) d.letters (λ a m. one_within d.states s a (d.branch s a) l (lawful.stays s a)))

-- also where there are more states
pub within_more : (k m n : ℕ) → k ≤ m → k ≤ n → (bs : List ListedBranch) → AllByRecursion (Within k k) bs → AllByRecursion (Within m n) bs
within_more k m n p q = All-weaker (Within k k) (Within m n) (λ b h. (omega (arith, h.0), omega (arith, h.1)))

-- ---- what they bring

module _ {W : Type 0} (r : Semiring W) (laws : Laws r) (cost : ℤ → ℤ → ℕ) (d : Diagram) (x : ℤ) (row : ℕ → W) (t : ℕ) where
  abbrev f : ListedBranch → W
  f = branch_brings cost r x row t

  one_brings : (s a : ℕ) (b : Branch) → total r f (listed s a b) ≡ brings_into cost r x t b (row s)
  one_brings s a None = refl
  one_brings s a (Some b) = plus_zero r laws _

  pub all_bring : total r f (branches_of d) ≡ stepped d cost r x row t
  unfolding branches_of branches_from stepped from_state
  all_bring =
      total_joined r laws f (branches_from d) (below d.states)
      ∙ total_ext r laws (λ s. total r f (branches_from d s)) (λ s. from_state d cost r x s (row s) t) (below d.states)
      (λ s. total_joined r laws f (λ a. listed s a (d.branch s a)) (below d.letters)
      ∙ total_ext r laws (λ a. total r f (listed s a (d.branch s a))) (λ a. brings_into cost r x t (d.branch s a) (row s)) (below d.letters) (λ a. one_brings s a (d.branch s a)))
