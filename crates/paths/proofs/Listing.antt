-- The list of all paths has each path, nothing else, and nothing twice.
use Rattle.std.proofs.Common.{◌≡◌, ℕ, zero, suc, ◌<◌, Bool, true, false, cond, ◌⊎◌, List, [], ◌∷◌, ◌++◌, map, length, ℤ, is_some, Some, None, filter, Option, sym, refl, ap, ◌∙◌, subst, inl, inr, arith}
use borrow.Author.Tests.{clash}
use Rattle.std.proofs.lemmas.Bool.{cases_lt, cases_order}
use Rattle.std.specs.List.{flat_map}
use Rattle.model.specs.Trellises.{Diagram, Lawful}
use Rattle.paths.specs.Paths.{Path, PathOn, along, reached, last_state, admissible}
use Rattle.paths.specs.Lists.{In, NoRepeats}
use Rattle.paths.specs.Listings.{below, words, candidates, all_paths, admissible_paths}
use Rattle.paths.specs.Laws.{AllListed, ListedOnce, AdmissibleListed, NoneListed}

pub never : {X : Type 0} {o : Option X} {x : X} → o ≡ Some x → o ≡ None → ⊥
never {X} {o} {x} p q = let z : ◌≡◌ {A = ℕ} 0 1 = cc in omega arith

-- ---- what stands in a list that is made of others

pub in_left : {X : Type 0} (x : X) (xs ys : List X) → In x xs → In x (xs ++ ys)
in_left x [] ys h = absurd h
in_left x (y ∷ xs) ys (inl e) = inl e
in_left x (y ∷ xs) ys (inr h) = inr (in_left x xs ys h)

pub in_right : {X : Type 0} (x : X) (xs ys : List X) → In x ys → In x (xs ++ ys)
in_right x [] ys h = h
in_right x (y ∷ xs) ys h = inr (in_right x xs ys h)

pub in_parts : {X : Type 0} (x : X) (xs ys : List X) → In x (xs ++ ys) → In x xs ⊎ In x ys
in_parts x [] ys h = inr h
in_parts x (y ∷ xs) ys (inl e) = inl (inl e)
in_parts x (y ∷ xs) ys (inr h) = elim (in_parts x xs ys h) [ inl k ↦ inl (inr k) | inr k ↦ inr k ]

in_below : (n k : ℕ) → k < n → In k (below n)
in_below zero k h = absurd (omega arith)
in_below (suc n) k h = elim (cases_order k n) [
  | inl e ↦ in_right k (below n) (n ∷ []) (inl e)
  | inr o ↦ elim o [ inl l ↦ in_left k (below n) (n ∷ []) (in_below n k l) | inr l ↦ absurd (omega arith) ]
]

below_low : (n k : ℕ) → In k (below n) → k < n
below_low zero k h = absurd h
below_low (suc n) k h = elim (in_parts k (below n) (n ∷ []) h) [
  | inl l ↦ let z : k < n = below_low n k l in omega arith
  | inr l ↦ elim l [ inl e ↦ omega arith | inr f ↦ absurd f ]
]

pub in_map : {X Y : Type 0} (f : X → Y) (x : X) (xs : List X) → In x xs → In (f x) (map f xs)
in_map f x [] h = absurd h
in_map f x (y ∷ xs) (inl e) = inl (ap f e)
in_map f x (y ∷ xs) (inr h) = inr (in_map f x xs h)

pub from_map : {X Y : Type 0} (f : X → Y) (y : Y) (xs : List X) → In y (map f xs) → (x : X) × In x xs × (y ≡ f x)
from_map f y [] h = absurd h
from_map f y (x ∷ xs) (inl e) = (x, inl refl, e)
from_map f y (x ∷ xs) (inr h) = let r = from_map f y xs h in (r.0, inr r.1, r.2)

in_joined : {X Y : Type 0} (g : X → List Y) (x : X) (y : Y) (xs : List X) → In x xs → In y (g x) → In y (flat_map g xs)
in_joined g x y [] h k = absurd h
in_joined g x y (z ∷ xs) (inl e) k = in_left y (g z) (flat_map g xs) (subst (λ v. In y (g v)) e k)
in_joined g x y (z ∷ xs) (inr h) k = in_right y (g z) (flat_map g xs) (in_joined g x y xs h k)

from_joined : {X Y : Type 0} (g : X → List Y) (y : Y) (xs : List X) → In y (flat_map g xs) → (x : X) × In x xs × In y (g x)
from_joined g y [] h = absurd h
from_joined g y (x ∷ xs) h = elim (in_parts y (g x) (flat_map g xs) h) [ inl k ↦ (x, inl refl, k) | inr k ↦ let r = from_joined g y xs k in (r.0, inr r.1, r.2) ]

pub in_kept : {X : Type 0} (p : X → Bool) (x : X) (xs : List X) → p x ≡ true → In x xs → In x (filter p xs)
in_kept p x [] e h = absurd h
in_kept p x (y ∷ xs) e (inl f) = subst (λ b. In x (cond b (y ∷ filter p xs) (filter p xs))) (sym (ap p (sym f) ∙ e)) (inl f)
in_kept p x (y ∷ xs) e (inr h) = elim (p y) as (λ b. In x (cond b (y ∷ filter p xs) (filter p xs))) [ true ↦ inr (in_kept p x xs e h) | false ↦ in_kept p x xs e h ]

pub from_kept : {X : Type 0} (p : X → Bool) (x : X) (xs : List X) → In x (filter p xs) → (p x ≡ true) × In x xs
from_kept p x [] h = absurd h
from_kept p x (y ∷ xs) h = go (p y) refl h (λ k. from_kept p x xs k)
  where
    go : (b : Bool) → p y ≡ b → In x (cond b (y ∷ filter p xs) (filter p xs)) → (In x (filter p xs) → (p x ≡ true) × In x xs) → (p x ≡ true) × In x (y ∷ xs)
    go true e (inl f) r = (ap p f ∙ e, inl f)
    go true e (inr k) r = let q = r k in (q.0, inr q.1)
    go false e k r = let q = r k in (q.0, inr q.1)

-- ---- that nothing stands in it twice

once_append : {X : Type 0} (xs ys : List X) → NoRepeats xs → NoRepeats ys → ((x : X) → In x xs → In x ys → ⊥) → NoRepeats (xs ++ ys)
once_append [] ys a b apart = b
once_append (x ∷ xs) ys a b apart = (
  λ h. elim (in_parts x xs ys h) [ inl k ↦ a.0 k | inr k ↦ apart x (inl refl) k ],
  once_append xs ys a.1 b (λ z k. apart z (inr k)),
)

once_below : (n : ℕ) → NoRepeats (below n)
once_below zero = tt
once_below (suc n) = once_append (below n) (n ∷ []) (once_below n) (λ f. f, tt) (λ x h k. elim k [ inl e ↦ let l : x < n = below_low n x h in omega arith | inr f ↦ f ])

once_map : {X Y : Type 0} (f : X → Y) (xs : List X) → ((x z : X) → f x ≡ f z → x ≡ z) → NoRepeats xs → NoRepeats (map f xs)
once_map f [] told a = tt
once_map f (x ∷ xs) told a = (
  λ h. let r = from_map f (f x) xs h in a.0 (subst (λ z. In z xs) (sym (told x r.0 r.2)) r.1),
  once_map f xs told a.1,
)

-- lists that have nothing in common, one after the other
once_joined : {X Y : Type 0} (g : X → List Y) (xs : List X) → NoRepeats xs → ((x : X) → NoRepeats (g x)) → ((x z : X) (y : Y) → In y (g x) → In y (g z) → x ≡ z) → NoRepeats (flat_map g xs)
once_joined g [] a each apart = tt
once_joined g (x ∷ xs) a each apart =
    once_append (g x) (flat_map g xs) (each x) (once_joined g xs a.1 each apart)
    (λ y h k. let r = from_joined g y xs k in a.0 (subst (λ z. In z xs) (sym (apart x r.0 y h r.2)) r.1))

pub once_kept : {X : Type 0} (p : X → Bool) (xs : List X) → NoRepeats xs → NoRepeats (filter p xs)
once_kept p [] a = tt
once_kept p (x ∷ xs) a = elim (p x) as (λ b. NoRepeats (cond b (x ∷ filter p xs) (filter p xs))) [
  | true ↦ (λ h. a.0 (from_kept p x xs h).1, once_kept p xs a.1)
  | false ↦ once_kept p xs a.1
]

-- ---- the lists of letters and of paths

front_of : {X : Type 0} (a b : X) (v w : List X) → a ∷ v ≡ b ∷ w → a ≡ b
front_of a b v w e = cc

rest_of : {X : Type 0} (a b : X) (v w : List X) → a ∷ v ≡ b ∷ w → v ≡ w
rest_of a b v w e = cc

words_length : (a m : ℕ) (w : List ℕ) → In w (words a m) → length w ≡ m
words_length a zero w (inl e) = ap length e
words_length a zero w (inr f) = absurd f
words_length a (suc m) w h =
    let r = from_joined (λ x. map (λ v. x ∷ v) (words a m)) w (below a) h in
    let s = from_map (λ v. r.0 ∷ v) w (words a m) r.2 in
    ap length s.2 ∙ ap suc (words_length a m s.0 s.1)

once_words : (a m : ℕ) → NoRepeats (words a m)
once_words a zero = (λ f. f, tt)
once_words a (suc m) =
    once_joined (λ x. map (λ v. x ∷ v) (words a m)) (below a) (once_below a)
    (λ x. once_map (λ v. x ∷ v) (words a m) (λ v w e. rest_of x x v w e) (once_words a m))
    (λ x z w h k.
    let r = from_map (λ v. x ∷ v) w (words a m) h in
    let s = from_map (λ v. z ∷ v) w (words a m) k in
    front_of x z r.0 s.0 (sym r.2 ∙ s.2))

abbrev path : ℕ → List ℕ → Path
path s w = record { first = s; letters = w }

pub listed_once : ListedOnce
listed_once d n =
    once_kept (λ p. is_some (last_state d p)) (candidates d n)
    (once_joined (λ s. map (path s) (words d.letters n)) (below d.states) (once_below d.states)
    (λ s. once_map (path s) (words d.letters n) (λ v w e. ap (λ p. p.letters) e) (once_words d.letters n))
    (λ s t p h k.
    let x = from_map (path s) p (words d.letters n) h in
    let y = from_map (path t) p (words d.letters n) k in
    sym (ap (λ q. q.first) x.2) ∙ ap (λ q. q.first) y.2))

module _ (d : Diagram) (lawful : Lawful d) where
  low_letter : (s a : ℕ) (b : ℕ × ℤ) → d.branch s a ≡ Some b → a < d.letters
  low_letter s a b e = elim (cases_lt a d.letters) [ inl h ↦ h | inr h ↦ absurd (never e (lawful.no_letter s a h)) ]

  in_words : (s : ℕ) (w : List ℕ) → is_some (reached d s w) ≡ true → In w (words d.letters (length w))
  in_words s [] h = inl refl
  in_words s (a ∷ w) h =
      (elim (d.branch s a) as (λ b. d.branch s a ≡ b → is_some (along b None (λ t l. reached d t w)) ≡ true → In (a ∷ w) (words d.letters (suc (length w)))) [
        | None ↦ λ e f. absurd (clash f)
        | Some b ↦ λ e f.
            in_joined (λ x. map (λ v. x ∷ v) (words d.letters (length w))) a (a ∷ w) (below d.letters) (in_below d.letters a (low_letter s a b e))
            (in_map (λ v. a ∷ v) w (words d.letters (length w)) (in_words b.0 w f))
      ]) refl h

  listed : (n : ℕ) (p : Path) → PathOn d n p → In p (all_paths d n)
  listed n p h =
      in_kept (λ q. is_some (last_state d q)) p (candidates d n) h.branches
      (in_joined (λ s. map (path s) (words d.letters n)) p.first p (below d.states) (in_below d.states p.first h.state)
      (in_map (path p.first) p.letters (words d.letters n) (subst (λ m. In p.letters (words d.letters m)) h.steps (in_words p.first p.letters h.branches))))

  is_path : (n : ℕ) (p : Path) → In p (all_paths d n) → PathOn d n p
  is_path n p h =
      let k = from_kept (λ q. is_some (last_state d q)) p (candidates d n) h in
      let r = from_joined (λ s. map (path s) (words d.letters n)) p (below d.states) k.1 in
      let w = from_map (path r.0) p (words d.letters n) r.2 in
      record {
        state = subst (λ j. j < d.states) (sym (ap (λ q. q.first) w.2)) (below_low d.states r.0 r.1);
        steps = ap (λ q. length q.letters) w.2 ∙ words_length d.letters n w.0 w.1;
        branches = k.0;
      }

pub all_listed : AllListed
all_listed d lawful n p = (listed d lawful n p, is_path d lawful n p)

pub admissible_listed : AdmissibleListed
admissible_listed d lawful start end n = record {
  each = λ p h. in_kept (admissible d start end) p (all_paths d n) h.permitted (listed d lawful n p h.path);
  only = λ p h. let k = from_kept (admissible d start end) p (all_paths d n) h in record { path = is_path d lawful n p k.1; permitted = k.0 };
  once = once_kept (admissible d start end) (all_paths d n) (listed_once d n);
}

empty : {X : Type 0} (xs : List X) → ((x : X) → In x xs → ⊥) → xs ≡ []
empty [] h = refl
empty (x ∷ xs) h = absurd (h x (inl refl))

pub none_listed : NoneListed
none_listed d lawful start end n none = empty (admissible_paths d start end n) (λ p h. none p ((admissible_listed d lawful start end n).only p h))
