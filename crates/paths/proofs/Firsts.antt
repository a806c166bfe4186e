-- The first of the cheapest paths, how many they are, and what the others cost.
use Rattle.std.proofs.Common.{◌≡◌, ℕ, ◌<◌, ◌≤◌, Bool, true, false, cond, not, eqb, ◌⊎◌, List, [], ◌∷◌, map, length, ℤ, Some, None, filter, Option, sym, refl, ap, ◌∙◌, subst, ap₂, inl, inr, arith, eq-eqb, eqb-true}
use borrow.Author.Tests.{clash}
use Rattle.std.proofs.lemmas.Bool.{cases_lt, cases_Bool, and_parts, and_from, not-true, not_from_false, both_ways}
use Rattle.model.specs.Trellises.{Diagram}
use Rattle.algebras.specs.Semirings.{Semiring, Laws}
use Rattle.paths.specs.Paths.{Path, PathOn, Admissible, path_cost}
use Rattle.paths.specs.Lists.{In, NoRepeats}
use Rattle.paths.specs.Listings.{admissible_paths}
use Rattle.paths.specs.Sums.{total}
use Rattle.paths.specs.Orders.{before}
use Rattle.paths.specs.Cheapest.{at_most_each, cheapest_of, first_of_two, first_of, same_letters, same_path, cheapest_paths, first_path, second}
use Rattle.paths.specs.Laws.{Lists, Ahead, First, IsFirst, FirstFound, OneFirst, ListsCheapest, CheapestListed, IsSecond, SecondFound}
use Rattle.paths.proofs.Ordering.{total_order, one_way, transitive}
use Rattle.paths.proofs.Listing.{in_map, from_map, in_kept, from_kept, once_kept, admissible_listed}
use Rattle.paths.proofs.Reordering.{total_same}
use Rattle.paths.proofs.Leasts.{IsLeast, least_is, at_most_says, at_most_from}

-- ---- the cheapest of a list

module _ (cost : Path → ℕ) (ps : List Path) where
  in_cheapest : (p : Path) → In p ps → ((q : Path) → In q ps → cost p ≤ cost q) → In p (cheapest_of cost ps)
  in_cheapest p h low =
      in_kept (λ q. at_most_each (cost q) (map cost ps)) p ps
      (at_most_from (cost p) (map cost ps) (λ b k. let r = from_map cost b ps k in let le : cost p ≤ cost r.0 = low r.0 r.1 in let e = r.2 in omega arith)) h

  from_cheapest : (p : Path) → In p (cheapest_of cost ps) → In p ps × ((q : Path) → In q ps → cost p ≤ cost q)
  from_cheapest p h =
      let k = from_kept (λ q. at_most_each (cost q) (map cost ps)) p ps h in
      (k.1, λ q m. at_most_says (cost p) (map cost ps) k.0 (cost q) (in_map cost q ps m))

-- where there is a path, there is a cheapest
a_cheapest : (cost : Path → ℕ) (p : Path) (ps : List Path) → (q : Path) × In q (p ∷ ps) × ((r : Path) → In r (p ∷ ps) → cost q ≤ cost r)
a_cheapest cost p [] = (p, inl refl, λ r h. elim h [ inl e ↦ let f = ap cost e in omega arith | inr f ↦ absurd f ])
a_cheapest cost p (x ∷ ps) =
    let b = a_cheapest cost x ps in
    elim (cases_lt (cost p) (cost b.0)) [
      | inl l ↦ (p, inl refl, λ r h. elim h [ inl e ↦ let f = ap cost e in omega arith | inr k ↦ let le : cost b.0 ≤ cost r = b.2 r k in omega arith ])
      | inr l ↦ (b.0, inr b.1, λ r h. elim h [ inl e ↦ let f = ap cost e in omega arith | inr k ↦ b.2 r k ])
    ]

-- ---- the first of a list

module _ (d : Diagram) (n : ℕ) where
  abbrev IsFirstOf : List Path → Option Path → Type 0
  IsFirstOf ps None = (q : Path) → In q ps → ⊥
  IsFirstOf ps (Some p) = In p ps × ((q : Path) → In q ps → (p ≡ q) ⊎ (before d p q ≡ true))

  first_of_is : (ps : List Path) → ((q : Path) → In q ps → PathOn d n q) → IsFirstOf ps (first_of d ps)
  first_of_is [] on = λ q h. h
  first_of_is (p ∷ ps) on = go (first_of d ps) (first_of_is ps (λ q h. on q (inr h)))
    where
      go : (o : Option Path) → IsFirstOf ps o → IsFirstOf (p ∷ ps) (Some (first_of_two d p o))
      go None h = (inl refl, λ q k. elim k [ inl e ↦ inl (sym e) | inr m ↦ absurd (h q m) ])
      go (Some x) h = by (before d x p) refl
        where
          -- p is before x, and so before all that x is before
          passed : (q : Path) → In q ps → (p ≡ x) ⊎ (before d p x ≡ true) → (x ≡ q) ⊎ (before d x q ≡ true) → (p ≡ q) ⊎ (before d p q ≡ true)
          passed q k (inl e) (inl f) = inl (e ∙ f)
          passed q k (inl e) (inr f) = inr (subst (λ y. before d y q ≡ true) (sym e) f)
          passed q k (inr e) (inl f) = inr (subst (λ y. before d p y ≡ true) f e)
          passed q k (inr e) (inr f) = inr (transitive d p x q e f)

          ahead : before d x p ≡ false → (p ≡ x) ⊎ (before d p x ≡ true)
          ahead e = elim (total_order d n p x (on p (inl refl)) (on x (inr h.0))) [ inl f ↦ inl f | inr g ↦ elim g [ inl f ↦ inr f | inr f ↦ absurd (both_ways (before d x p) e f) ] ]

          by : (b : Bool) → before d x p ≡ b → IsFirstOf (p ∷ ps) (Some (cond b x p))
          by true e = (inr h.0, λ q k. elim k [ inl f ↦ inr (subst (λ y. before d x y ≡ true) (sym f) e) | inr m ↦ h.1 q m ])
          by false e = (inl refl, λ q k. elim k [ inl f ↦ inl (sym f) | inr m ↦ passed q m (ahead e) (h.1 q m) ])

-- ---- paths that are the same

same_letters_says : (v w : List ℕ) → same_letters v w ≡ true → v ≡ w
same_letters_says [] [] h = refl
same_letters_says [] (b ∷ w) h = absurd (clash h)
same_letters_says (a ∷ v) [] h = absurd (clash h)
same_letters_says (a ∷ v) (b ∷ w) h =
    let k = and_parts (eqb a b) (same_letters v w) h in
    ap₂ (λ x y. x ∷ y) (eqb-true a b k.0) (same_letters_says v w k.1)

same_letters_self : (w : List ℕ) → same_letters w w ≡ true
same_letters_self [] = refl
same_letters_self (a ∷ w) = and_from (eqb a a) (same_letters w w) (eq-eqb a a refl) (same_letters_self w)

pub same_path_says : (p q : Path) → same_path p q ≡ true → p ≡ q
same_path_says p q h =
    let k = and_parts (eqb p.first q.first) (same_letters p.letters q.letters) h in
    let e : p.first ≡ q.first = eqb-true p.first q.first k.0 in
    let f : p.letters ≡ q.letters = same_letters_says p.letters q.letters k.1 in
    λ i. record { first = e i; letters = f i }

pub same_path_self : (p : Path) → same_path p p ≡ true
same_path_self p = and_from (eqb p.first p.first) (same_letters p.letters p.letters) (eq-eqb p.first p.first refl) (same_letters_self p.letters)

abbrev pub others : Path → List Path → List Path
others p ps = filter (λ q. not (same_path p q)) ps

in_others : (p q : Path) (ps : List Path) → In q ps → (p ≡ q → ⊥) → In q (others p ps)
in_others p q ps h ne = in_kept (λ x. not (same_path p x)) q ps (elim (cases_Bool (same_path p q)) [ inl e ↦ absurd (ne (same_path_says p q e)) | inr e ↦ not_from_false (same_path p q) e ]) h

from_others : (p q : Path) (ps : List Path) → In q (others p ps) → In q ps × (p ≡ q → ⊥)
from_others p q ps h =
    let k = from_kept (λ x. not (same_path p x)) q ps h in
    (k.1, λ e. both_ways (same_path p q) (not-true (same_path p q) k.0) (ap (same_path p) (sym e) ∙ same_path_self p))

-- a sum, with one path taken out
pub total_others : {W : Type 0} (r : Semiring W) (laws : Laws r) (f : Path → W) (p : Path) (ps : List Path) → NoRepeats ps → In p ps → total r f ps ≡ r.plus (f p) (total r f (others p ps))
total_others r laws f p ps once h =
    total_same r laws f ps (p ∷ others p ps) once (λ k. (from_others p p ps k).1 refl, once_kept (λ q. not (same_path p q)) ps once)
    (λ q k. elim (cases_Bool (same_path p q)) [ inl e ↦ inl (sym (same_path_says p q e)) | inr e ↦ inr (in_kept (λ x. not (same_path p x)) q ps (not_from_false (same_path p q) e) k) ])
    (λ q k. elim k [ inl e ↦ subst (λ x. In x ps) (sym e) h | inr m ↦ (from_others p q ps m).0 ])

-- ---- among the admissible paths

pub cheapest_listed : CheapestListed
cheapest_listed d lawful cost start end xs =
    let ps = admissible_paths d start end (length xs) in
    let listed = admissible_listed d lawful start end (length xs) in
    record {
      each = λ p h low. in_cheapest (path_cost d cost xs) ps p (listed.each p h) (λ q k. low q (listed.only q k));
      only = λ p h. let k = from_cheapest (path_cost d cost xs) ps p h in (listed.only p k.0, λ q m. k.1 q (listed.each q m));
      once = once_kept (λ p. at_most_each (path_cost d cost xs p) (map (path_cost d cost xs) ps)) ps listed.once;
    }

pub first_found : FirstFound
first_found d lawful cost start end xs = go (first_path d cost start end xs) (first_of_is d (length xs) (cheapest_paths d cost start end xs) (λ q h. (all.only q h).0.path))
  where
    all : ListsCheapest d cost start end xs (cheapest_paths d cost start end xs)
    all = cheapest_listed d lawful cost start end xs

    -- a cheapest path that comes first among the cheapest is ahead of every other
    leads : (p : Path) → In p (cheapest_paths d cost start end xs) → ((q : Path) → In q (cheapest_paths d cost start end xs) → (p ≡ q) ⊎ (before d p q ≡ true)) → First d cost start end xs p
    leads p h before-all = record { path = low.0; ahead = λ q k ne. ahead q k ne (cases_lt (path_cost d cost xs p) (path_cost d cost xs q)) }
      where
        low : Admissible d start end (length xs) p × ((q : Path) → Admissible d start end (length xs) q → path_cost d cost xs p ≤ path_cost d cost xs q)
        low = all.only p h

        ahead : (q : Path) → Admissible d start end (length xs) q → (p ≡ q → ⊥) → (path_cost d cost xs p < path_cost d cost xs q) ⊎ (path_cost d cost xs q ≤ path_cost d cost xs p) → Ahead d cost xs p q
        ahead q k ne (inl l) = inl l
        ahead q k ne (inr l) =
            let m : path_cost d cost xs p ≤ path_cost d cost xs q = low.1 q k in
            let tied : In q (cheapest_paths d cost start end xs) = all.each q k (λ r j. let i : path_cost d cost xs p ≤ path_cost d cost xs r = low.1 r j in omega arith) in
            elim (before-all q tied) [ inl e ↦ absurd (ne e) | inr e ↦ inr (omega arith, e) ]

    -- where no path is cheapest, there is none
    none : ((q : Path) → In q (cheapest_paths d cost start end xs) → ⊥) → (ps : List Path) → ps ≡ admissible_paths d start end (length xs) → (p : Path) → In p ps → ⊥
    none h [] e p k = k
    none h (x ∷ ps) e p k =
        let b = a_cheapest (path_cost d cost xs) x ps in
        h b.0 (subst (λ l. In b.0 (cheapest_of (path_cost d cost xs) l)) e (in_cheapest (path_cost d cost xs) (x ∷ ps) b.0 b.1 b.2))

    go : (o : Option Path) → IsFirstOf d (length xs) (cheapest_paths d cost start end xs) o → IsFirst d cost start end xs o
    go None h = λ p k. none h (admissible_paths d start end (length xs)) refl p ((admissible_listed d lawful start end (length xs)).each p k)
    go (Some p) h = leads p h.0 h.1

-- neither of two is ahead of the other
ahead_one_way : (d : Diagram) (cost : ℤ → ℤ → ℕ) (xs : List ℤ) (p q : Path) → Ahead d cost xs p q → Ahead d cost xs q p → ⊥
ahead_one_way d cost xs p q (inl h) (inl k) = omega arith
ahead_one_way d cost xs p q (inl h) (inr k) = omega (arith, k.0)
ahead_one_way d cost xs p q (inr h) (inl k) = omega (arith, h.0)
ahead_one_way d cost xs p q (inr h) (inr k) = one_way d p q h.1 k.1

pub one_first : OneFirst
one_first d cost start end xs p q f g = elim (cases_Bool (same_path p q)) [
  | inl e ↦ same_path_says p q e
  | inr e ↦
      let ne : p ≡ q → ⊥ = λ s. both_ways (same_path p q) e (ap (same_path p) (sym s) ∙ same_path_self p) in
      absurd (ahead_one_way d cost xs p q (f.ahead q g.path ne) (g.ahead p f.path (λ s. ne (sym s))))
]

pub second_found : SecondFound
second_found d lawful cost start end xs p = go (second d cost start end xs p) (least_is (map (path_cost d cost xs) (others p ps)))
  where
    ps : List Path
    ps = admissible_paths d start end (length xs)

    listed : Lists d start end (length xs) (admissible_paths d start end (length xs))
    listed = admissible_listed d lawful start end (length xs)

    priced : (q : Path) → Admissible d start end (length xs) q → (p ≡ q → ⊥) → In (path_cost d cost xs q) (map (path_cost d cost xs) (others p ps))
    priced q k ne = in_map (path_cost d cost xs) q (others p ps) (in_others p q ps (listed.each q k) ne)

    go : (o : Option ℕ) → IsLeast (map (path_cost d cost xs) (others p ps)) o → IsSecond d cost start end xs p o
    go None h = λ q k ne. h (path_cost d cost xs q) (priced q k ne)
    go (Some c) h =
        let r = from_map (path_cost d cost xs) c (others p ps) h.0 in
        let k = from_others p r.0 ps r.1 in
        ((r.0, listed.only r.0 k.0, k.1, sym r.2), λ q m ne. h.1 (path_cost d cost xs q) (priced q m ne))
