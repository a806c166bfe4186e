-- The table of bytes, one step after another.
use Rattle.std.proofs.Common.{◌≡◌, ℕ, zero, suc, ◌+◌, ◌*◌, ◌<◌, ◌≤◌, List, [], ◌∷◌, ◌++◌, length, get_or, take, drop, replicate, ℤ, pos, Option, sym, ap, ◌∙◌, subst, inl, inr, arith, length-take, get_or-drop, get_or-take, rules, below_more}
use lib.ListN.{length-replicate}
use denote.Param.Members.{Mut, Called}
use borrow.Rule.Slice.PartMut.{put_mid}
use Rattle.std.proofs.slice.Indexed.{places}
use Rattle.std.proofs.lemmas.List.{take_more, get_or_past, get_or-replicate}
use Rattle.std.proofs.lemmas.Bool.{cases_lt}
use Rattle.std.specs.Array.{IsFromFnResultFrom}
use Rattle.model.specs.Trellises.{Diagram, Lawful}
use Rattle.survivors.specs.Choices.{Chosen, Costs, TableOf, byte_at}
use Rattle.survivors.specs.Survivors.{best, byte_in, opening}
use Rattle.survivors.specs.Rows.{Zeros, Tabled}
use Rattle.survivors.specs.Reaches.{reached_at, KeptNumbers, CostedNumbers}
use Rattle.survivors.proofs.Bests.{best_costs, best_chosen, best_past, opening_costs}

-- ---- an array made from a function of the index

-- calls that keep I of the closure and answer v of each index
pub from_fn_gives : {F B : Type 0} (g : Mut F (ℕ × Unit {0}) B) (v : ℕ → B) (I : F → Type 0) → ((f : F) (i : ℕ) (r : B) (q : F) → Called g f (i, tt) r q → I f → (r ≡ v i) × I q) →
    (f : F) (ys : List B) (i n : ℕ) → I f → IsFromFnResultFrom g f ys i n → (k : ℕ) (d : B) → i ≤ k → k < i + n → get_or ys k d ≡ v k
from_fn_gives g v I step f ys i zero h each k d le lt = absurd (omega arith)
from_fn_gives {F} {B} g v I step f ys i (suc n) h each k d le lt =
    let one = step f i each.1 each.0 each.3 h in
    elim (cases_lt i k) [
      | inl l ↦ from_fn_gives g v I step each.0 ys (i + 1) n one.1 each.4 k d (omega arith) (omega arith)
      | inr l ↦ let e : k ≡ i = omega arith in ap (λ j. get_or ys j d) e ∙ each.2.1 d ∙ one.0 ∙ sym (ap v e)
    ]

-- ---- a part of the table

pub put_below : {X : Type 0} (a k : ℕ) (xs ys : List X) (i : ℕ) (d : X) → i < a → a ≤ length xs → get_or (put_mid a k xs ys) i d ≡ get_or xs i d
put_below a k xs ys i d h le = search (rules, places)

pub put_in : {X : Type 0} (a k : ℕ) (xs ys : List X) (j : ℕ) (d : X) → j < length ys → a ≤ length xs → get_or (put_mid a k xs ys) (a + j) d ≡ get_or ys j d
put_in a k xs ys j d h le = search (rules, places)

pub put_above : {X : Type 0} (a k : ℕ) (xs ys : List X) (i : ℕ) (d : X) → a + k ≤ i → length ys ≡ k → a ≤ length xs → get_or (put_mid a k xs ys) i d ≡ get_or xs i d
put_above a k xs ys i d h len le = search (rules, places)

-- a part of what is 0 from a on
pub zeros_part : (a k : ℕ) (table : List ℕ) → ((i : ℕ) → a ≤ i → get_or table i 0 ≡ 0) → Zeros (take k (drop a table))
zeros_part a k table h i = elim (cases_lt i k) [
  | inl l ↦ get_or-take k (drop a table) i 0 l ∙ get_or-drop a table i 0 ∙ h (a + i) (omega arith)
  | inr l ↦ get_or_past (take k (drop a table)) i 0 (simp length-take (omega arith))
]

-- ---- before any sample

pub costed_none : (d : Diagram) (cost : ℤ → ℤ → ℕ) (start : Option ℕ) (row : List ℕ) → ((k : ℕ) → k < d.states → reached_at row k ≡ opening start k) → CostedNumbers d cost start [] row
costed_none d cost start row h s l = subst (Costs d cost start [] s) (sym (h s l)) (opening_costs d cost start s l)

-- ---- one sample more

module _ (d : Diagram) (lawful : Lawful d) (cost : ℤ → ℤ → ℕ) (start : Option ℕ) (xs : List ℤ) (k : ℕ) (lt : k < length xs) (row next bytes : List ℕ)
    (at : CostedNumbers d cost start (take k xs) row) (kept : KeptNumbers 64 (best d cost (get_or xs k (pos 0)) (reached_at row)) next bytes) where
  more : take k xs ++ get_or xs k (pos 0) ∷ [] ≡ take (k + 1) xs
  more = sym (take_more xs k (pos 0) lt)

  pub costed_more : CostedNumbers d cost start (take (k + 1) xs) next
  costed_more s l =
      subst (λ ys. Costs d cost start ys s (reached_at next s)) more
      (subst (Costs d cost start (take k xs ++ get_or xs k (pos 0) ∷ []) s) (sym (kept.cost s (omega (arith, lawful.few_states)))) (best_costs d lawful cost start (take k xs) (get_or xs k (pos 0)) (reached_at row) at s))

  module _ (table : List ℕ) (a w : ℕ) (from : a ≡ k * 64) (room : a ≤ length table) (wide : length bytes ≡ 64) where
    here : (s : ℕ) → s < 64 → byte_at (put_mid a w table bytes) k s ≡ byte_in (best d cost (get_or xs k (pos 0)) (reached_at row) s)
    here s l = ap (λ j. get_or (put_mid a w table bytes) (j + s) 0) (sym from) ∙ put_in a w table bytes s 0 (omega arith) room ∙ kept.byte s

    old : (j s : ℕ) → j < k → s < 64 → byte_at (put_mid a w table bytes) j s ≡ byte_at table j s
    old j s h l = put_below a w table bytes (j * 64 + s) 0 (omega arith) room

    pub tabled_more : Tabled d cost start xs k table → Tabled d cost start xs (k + 1) (put_mid a w table bytes)
    tabled_more tab = record {
      chosen = λ j s h l. below_more (λ i. (s : ℕ) → s < d.states → Chosen d cost start (take (i + 1) xs) s (byte_at (put_mid a w table bytes) i s)) k
          (λ i m s l. subst (Chosen d cost start (take (i + 1) xs) s) (sym (old i s m (omega (arith, lawful.few_states)))) (tab.chosen i s m l))
          (λ s l. subst (λ ys. Chosen d cost start ys s (byte_at (put_mid a w table bytes) k s)) more
          (subst (Chosen d cost start (take k xs ++ get_or xs k (pos 0) ∷ []) s) (sym (here s (omega (arith, lawful.few_states)))) (best_chosen d lawful cost start (take k xs) (get_or xs k (pos 0)) (reached_at row) at s)))
          j h s l;
      no_state = λ j s h l m. below_more (λ i. byte_at (put_mid a w table bytes) i s ≡ 0) k
          (λ i n. old i s n m ∙ tab.no_state i s n l m)
          (here s m ∙ best_past d lawful cost start (take k xs) (get_or xs k (pos 0)) (reached_at row) at s l)
          j h;
    }

    pub rest_more : w ≡ 64 → ((i : ℕ) → k * 64 ≤ i → get_or table i 0 ≡ 0) → (i : ℕ) → (k + 1) * 64 ≤ i → get_or (put_mid a w table bytes) i 0 ≡ 0
    rest_more e h i l = put_above a w table bytes i 0 (omega arith) (omega arith) room ∙ h i (omega arith)

-- ---- all of it

pub zeros_all : (n : ℕ) (table : List ℕ) → table ≡ replicate n 0 → Zeros table
zeros_all n table e k =
    ap (λ t. get_or t k 0) e
    ∙ elim (cases_lt k n) [ inl l ↦ get_or-replicate n k 0 0 l | inr l ↦ get_or_past (replicate n 0) k 0 (simp length-replicate l) ]

pub table_made : (d : Diagram) (cost : ℤ → ℤ → ℕ) (start : Option ℕ) (xs : List ℤ) (table : List ℕ) → length table ≡ 32768 → length xs ≤ 512 →
    Tabled d cost start xs (length xs) table → ((i : ℕ) → length xs * 64 ≤ i → get_or table i 0 ≡ 0) → TableOf d cost start xs table
table_made d cost start xs table size few tab rest = record {
  size = size;
  few = few;
  chosen = λ k s l m. tab.chosen k s l m;
  no_state = λ k s l m. elim (cases_lt k (length xs)) [ inl h ↦ tab.no_state k s h l m | inr h ↦ rest (k * 64 + s) (omega arith) ];
  no_sample = λ k s h. rest (k * 64 + s) (omega arith);
}
