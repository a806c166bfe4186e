-- A scan finds the least cost, and the first number that has it.
use Rattle.std.proofs.Common.{◌≡◌, ℕ, zero, suc, ◌<◌, ◌≤◌, Bool, true, false, cond, ltb, ◌⊎◌, Some, None, Option, refl, inl, inr, arith, below_more, ltb-false, ltb-true}
use Rattle.survivors.specs.Survivors.{pick, scan}
use Rattle.paths.proofs.Listing.{never}
use Rattle.survivors.proofs.Pushes.{same_some}

pub below_suc : (P : ℕ → Type 0) (n : ℕ) → ((j : ℕ) → j < n → P j) → P n → (j : ℕ) → j < suc n → P j
below_suc P n f p j h = below_more P n f p j (omega arith)

-- the cost c at i is ahead of the cost d at j
abbrev pub Sooner : ℕ → ℕ → ℕ → ℕ → Type 0
Sooner c i d j = (c < d) ⊎ ((c ≡ d) × (i ≤ j))

abbrev pub Least : (ℕ → Option ℕ) → ℕ → Option (ℕ × ℕ) → Type 0
Least f n None = (j : ℕ) → j < n → f j ≡ None
Least f n (Some b) = (b.1 < n) × (f b.1 ≡ Some b.0) × ((j : ℕ) → j < n → (d : ℕ) → f j ≡ Some d → Sooner b.0 b.1 d j)

pick_cheap : (f : ℕ → Option ℕ) (n c : ℕ) (b : ℕ × ℕ) → Least f n (Some b) → f n ≡ Some c → c < b.0 → Least f (suc n) (Some (c, n))
pick_cheap f n c b h e l = (
  omega arith,
  e,
  below_suc (λ j. (d : ℕ) → f j ≡ Some d → Sooner c n d j) n
      (λ j k d p. elim (h.2 j k d p) [ inl m ↦ inl (omega arith) | inr m ↦ inl (omega (arith, m.0)) ])
      (λ d p. inr (same_some e p, omega arith)),
)

pick_old : (f : ℕ → Option ℕ) (n c : ℕ) (b : ℕ × ℕ) → Least f n (Some b) → f n ≡ Some c → b.0 ≤ c → Least f (suc n) (Some b)
pick_old f n c b h e l = (
  omega (arith, h.0),
  h.1,
  below_suc (λ j. (d : ℕ) → f j ≡ Some d → Sooner b.0 b.1 d j) n h.2 (λ d p. last d (same_some e p)),
)
  where
    last : (d : ℕ) → c ≡ d → Sooner b.0 b.1 d n
    last d p = split (ltb b.0 d) refl
      where
        split : (t : Bool) → ltb b.0 d ≡ t → Sooner b.0 b.1 d n
        split true q = inl (ltb-true b.0 d q)
        split false q = let m : d ≤ b.0 = ltb-false b.0 d q in inr (omega arith, omega (arith, h.0))

pick_least : (f : ℕ → Option ℕ) (n : ℕ) (o : Option (ℕ × ℕ)) → Least f n o → (v : Option ℕ) → f n ≡ v → Least f (suc n) (pick o n v)
pick_least f n None h None e = below_suc (λ j. f j ≡ None) n h e
pick_least f n (Some b) h None e = (
  omega (arith, h.0),
  h.1,
  below_suc (λ j. (d : ℕ) → f j ≡ Some d → Sooner b.0 b.1 d j) n h.2 (λ d p. absurd (never p e)),
)
pick_least f n None h (Some c) e = (
  omega arith,
  e,
  below_suc (λ j. (d : ℕ) → f j ≡ Some d → Sooner c n d j) n (λ j k d p. absurd (never p (h j k))) (λ d p. inr (same_some e p, omega arith)),
)
pick_least f n (Some b) h (Some c) e = split (ltb c b.0) refl
  where
    split : (t : Bool) → ltb c b.0 ≡ t → Least f (suc n) (cond t (Some (c, n)) (Some b))
    split true q = pick_cheap f n c b h e (ltb-true c b.0 q)
    split false q = pick_old f n c b h e (ltb-false c b.0 q)

pub scan_least : (f : ℕ → Option ℕ) (n : ℕ) → Least f n (scan f n)
scan_least f zero = λ j h. absurd (omega arith)
scan_least f (suc n) = pick_least f n (scan f n) (scan_least f n) (f n) refl

pub is_none : (o : Option ℕ) → ((c : ℕ) → o ≡ Some c → ⊥) → o ≡ None
is_none None h = refl
is_none (Some c) h = absurd (h c refl)
