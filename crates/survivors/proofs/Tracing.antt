-- The way back, and the last state.
use Rattle.std.proofs.Common.{◌≡◌, ℕ, zero, suc, ◌-◌, ◌/◌, ◌%◌, ◌<◌, ◌≤◌, Bool, true, false, cond, ltb, leb, ◌⊎◌, List, [], ◌∷◌, ◌++◌, length, get_or, take, drop, set, ℤ, Some, None, Option, sym, refl, ap, ◌∙◌, subst, inl, inr, append_assoc, add-one, arith, take_all, lt-ltb}
use Rattle.std.proofs.lemmas.List.{drop-set}
use Rattle.std.proofs.lemmas.Bool.{and_from, and_parts, le-leb, ltb-true, leb-true}
use Rattle.std.specs.Option.{option_map}
use Rattle.model.specs.Trellises.{Diagram, Lawful}
use Rattle.paths.specs.Paths.{Path, Admissible, along, reached, permits, path_cost}
use Rattle.paths.specs.Laws.{First, HasNoPath, IsFirst}
use Rattle.survivors.specs.Choices.{place, byte_at, CostsOf, cost_of}
use Rattle.survivors.specs.Laws.{first_back, letters_back, path_back}
use Rattle.survivors.specs.Survivors.{scan, at_end}
use Rattle.survivors.specs.Rows.{held}
use Rattle.survivors.specs.declared.ending.Ending.{Ending}
use Rattle.survivors.specs.Traces.{in_table, traced_first, traced_letters, Traced, cost_and_last, Ends}
use Rattle.paths.proofs.Listing.{never}
use Rattle.survivors.proofs.Pushes.{same_some, arrives, branch_low}
use Rattle.survivors.proofs.Scans.{Least, scan_least}
use Rattle.survivors.proofs.Firsts.{leads_back, ends_at, over_ends}
use Rattle.survivors.proofs.Bests.{cost_known, path_known}

-- one step back
step_back : (bs out : List ℕ) (k s : ℕ) → 0 < k → k ≤ length out → (first_back (byte_at bs) (k - 1) (byte_at bs (k - 1) s / 4) ≡ first_back (byte_at bs) k s)
    × (letters_back (byte_at bs) (k - 1) (byte_at bs (k - 1) s / 4) ++ drop (k - 1) (set out (k - 1) (byte_at bs (k - 1) s % 4)) ≡ letters_back (byte_at bs) k s ++ drop k out)
step_back bs out zero s h le = absurd (omega arith)
step_back bs out (suc j) s h le =
    let e : suc j - 1 ≡ j = omega arith in
    let lt : j < length out = omega arith in
    (rw e, rw (e, drop-set, add-one) (sym (append_assoc (letters_back (byte_at bs) j (byte_at bs j s / 4)) _ _)))

-- that, by the byte that lies at i, as its letter a and its state u
pub back_by : (bs out : List ℕ) (k s i a u : ℕ) → 0 < k → k ≤ length out → i ≡ place (k - 1) s → a ≡ get_or bs i 0 % 4 → u ≡ get_or bs i 0 / 4 →
    (first_back (byte_at bs) (k - 1) u ≡ first_back (byte_at bs) k s) × (letters_back (byte_at bs) (k - 1) u ++ drop (k - 1) (set out (k - 1) a) ≡ letters_back (byte_at bs) k s ++ drop k out)
back_by bs out k s i a u h le e f g =
    let w = step_back bs out k s h le in
    let p : u ≡ byte_at bs (k - 1) s / 4 = g ∙ ap (λ j. get_or bs j 0 / 4) e in
    let q : a ≡ byte_at bs (k - 1) s % 4 = f ∙ ap (λ j. get_or bs j 0 % 4) e in (
      ap (first_back (byte_at bs) (k - 1)) p ∙ w.0,
      ap (λ z. letters_back (byte_at bs) (k - 1) z ++ drop (k - 1) (set out (k - 1) a)) p
          ∙ ap (λ z. letters_back (byte_at bs) (k - 1) (byte_at bs (k - 1) s / 4) ++ drop (k - 1) (set out (k - 1) z)) q ∙ w.1,
    )

-- a path ends in a state
reached_low : (d : Diagram) → Lawful d → (s : ℕ) (w : List ℕ) (t : ℕ) → s < d.states → reached d s w ≡ Some t → t < d.states
reached_low d lawful s [] t l e = let z : s ≡ t = same_some refl e in omega arith
reached_low d lawful s (a ∷ w) t l e =
    (elim (d.branch s a) as (λ b. d.branch s a ≡ b → along b None (λ u m. reached d u w) ≡ Some t → t < d.states) [
      | None ↦ λ q p. absurd (never p refl)
      | Some b ↦ λ q p. reached_low d lawful b.0 w t (branch_low d lawful s a b q) p
    ]) refl e

pub arrives_low : (d : Diagram) → Lawful d → (start : Option ℕ) (n t : ℕ) (p : Path) → Admissible d start (Some t) n p → t < d.states
arrives_low d lawful start n t p h = reached_low d lawful p.first p.letters t h.path.state (arrives d start n t p h).1

pub in_table_yes : (n last : ℕ) → last < 64 → n ≤ 512 → in_table n last ≡ true
in_table_yes n last h l = and_from (ltb last 64) (leb n 512) (lt-ltb last 64 h) (le-leb n 512 l)

pub in_table_says : (n last : ℕ) → in_table n last ≡ true → (last < 64) × (n ≤ 512)
in_table_says n last e = let k = and_parts (ltb last 64) (leb n 512) e in (ltb-true last 64 k.0, leb-true n 512 k.1)

pub traced_yes : (table : List ℕ) (last : ℕ) (old : List ℕ) → in_table (length old) last ≡ true → (Some (first_back (byte_at table) (length old) last) ≡ traced_first table (length old) last) × (letters_back (byte_at table) (length old) last ≡ traced_letters table last old)
traced_yes table last old e = (
  sym (ap (λ b. cond b (Some (path_back table (length old) last).first) None) e),
  sym (ap (λ b. cond b (path_back table (length old) last).letters old) e),
)

pub traced_no : (table : List ℕ) (last : ℕ) (old : List ℕ) → in_table (length old) last ≡ false → (None ≡ traced_first table (length old) last) × (old ≡ traced_letters table last old)
traced_no table last old e = (
  sym (ap (λ b. cond b (Some (path_back table (length old) last).first) None) e),
  sym (ap (λ b. cond b (path_back table (length old) last).letters old) e),
)

-- what was traced is the first path
pub traced : (table : List ℕ) (last : ℕ) (old : List ℕ) (letters : List ℕ) (r : Option ℕ) → length letters ≡ length old → r ≡ traced_first table (length old) last → letters ≡ traced_letters table last old → Traced table last letters r
traced table last old letters r len e f d lawful cost start xs tab n p first =
    let low : last < d.states = arrives_low d lawful start (length xs) last p first.path in
    let few : length xs ≤ 512 = tab.few in
    let in_it : in_table (length old) last ≡ true =
    in_table_yes (length old) last (omega (arith, lawful.few_states)) (omega arith) in
    let k : length xs ≡ length old = n ∙ len in
    let whole : First d cost start (Some last) (take (length xs) xs) p = subst (λ ys. First d cost start (Some last) ys p) (sym (take_all (length xs) xs (omega arith))) first in
    let q : path_back table (length old) last ≡ p = ap (λ j. path_back table j last) (sym k) ∙ leads_back d lawful cost start xs table tab (length xs) (omega arith) last p whole in (
      e ∙ ap (λ b. cond b (Some (path_back table (length old) last).first) None) in_it ∙ ap (λ z. Some z.first) q,
      f ∙ ap (λ b. cond b (path_back table (length old) last).letters old) in_it ∙ ap (λ z. z.letters) q,
    )

-- ---- the last state

at_end_says : (end : Option ℕ) (row : ℕ → Option ℕ) (t c : ℕ) → at_end end row t ≡ Some c → (permits end t ≡ true) × (row t ≡ Some c)
at_end_says end row t c h = go (permits end t) refl h
  where
    go : (b : Bool) → permits end t ≡ b → cond b (row t) None ≡ Some c → (permits end t ≡ true) × (row t ≡ Some c)
    go true e k = (e, k)
    go false e k = absurd (never k refl)

at_end_made : (end : Option ℕ) (row : ℕ → Option ℕ) (t c : ℕ) → permits end t ≡ true → row t ≡ Some c → at_end end row t ≡ Some c
at_end_made end row t c p e = ap (λ b. cond b (row t) None) p ∙ e

module _ (d : Diagram) (lawful : Lawful d) (end : Option ℕ) (row : List (Option ℕ)) (cost : ℤ → ℤ → ℕ) (start : Option ℕ) (xs : List ℤ) (of : CostsOf d cost start xs row) where
  -- what is held of a state that a path arrives at
  held_some : (q : Path) (t : ℕ) → Admissible d start (Some t) (length xs) q → (c : ℕ) × (held row t ≡ Some c)
  held_some q t h = let k = of.costs t (arrives_low d lawful start (length xs) t q h) in go k.0 k.1 k.2
    where
      go : (o : Option Path) → IsFirst d cost start (Some t) xs o → held row t ≡ cost_of d cost xs o → (c : ℕ) × (held row t ≡ Some c)
      go None g e = absurd (g q h)
      go (Some p) g e = (path_cost d cost xs p, e)

  pub none_left : Least (at_end end (held row)) d.states None → HasNoPath d start end (length xs)
  none_left least q h =
      let m = ends_at d start end (length xs) q h in
      let c = held_some q m.0 m.1 in
      never (at_end_made end (held row) m.0 c.0 m.2 c.1) (least m.0 (arrives_low d lawful start (length xs) m.0 q m.1))

  pub one_left : (c t : ℕ) → Least (at_end end (held row)) d.states (Some (c, t)) → (p : Path) × First d cost start end xs p × First d cost start (Some t) xs p × (path_cost d cost xs p ≡ c)
  one_left c t least =
      let a = at_end_says end (held row) t c least.1 in
      let k = path_known d cost start xs t c (held row t) (of.costs t least.0) a.1 in
      (k.0, over_ends d lawful cost start end xs t k.0 k.1 a.0 (λ u q pu g. sooner k.0 k.2 u q pu g), k.1, k.2)
    where
      sooner : (p : Path) → path_cost d cost xs p ≡ c → (u : ℕ) (q : Path) → permits end u ≡ true → First d cost start (Some u) xs q →
          (path_cost d cost xs p < path_cost d cost xs q) ⊎ ((path_cost d cost xs p ≡ path_cost d cost xs q) × (t ≤ u))
      sooner p e u q pu g =
          let l : u < d.states = arrives_low d lawful start (length xs) u q g.path in
          let h = at_end_made end (held row) u (path_cost d cost xs q) pu (cost_known d cost start xs u (held row u) q (of.costs u l) g) in
          elim (least.2 u l (path_cost d cost xs q) h) [ inl m ↦ inl (subst (λ z. z < path_cost d cost xs q) (sym e) m) | inr m ↦ inr (e ∙ m.0, m.1) ]

-- what the scan of the costs found
pub scan_says : (f : ℕ → Option ℕ) (m n : ℕ) (o : Option (ℕ × ℕ)) → m ≡ n → o ≡ scan f m → Least f n o
scan_says f m n o e q = subst (λ j. Least f j o) e (subst (Least f m) (sym q) (scan_least f m))

pub ends_from : (d : Diagram) → Lawful d → (end : Option ℕ) (row : List (Option ℕ)) (n : ℕ) → n ≡ d.states → (e : Option Ending) → option_map cost_and_last e ≡ scan (at_end end (held row)) n → Ends d end row e
ends_from d lawful end row n same None found cost start xs of = none_left d lawful end row cost start xs of (scan_says (at_end end (held row)) n d.states None same found)
ends_from d lawful end row n same (Some e) found cost start xs of = one_left d lawful end row cost start xs of e.cost e.last (scan_says (at_end end (held row)) n d.states (Some (e.cost, e.last)) same found)
