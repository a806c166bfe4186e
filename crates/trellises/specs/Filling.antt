-- A trellis of few states and letters is lawful if each branch stays in it.
use Rattle.std.specs.Prelude.{◌≡◌, ℕ, ◌<◌, ◌≤◌, Bool, true, false, cond, ◌&&◌, ℤ, Some, None, nat_lt, refl}
use Rattle.std.proofs.lemmas.Bool.{ltb-true, le-ltb, and_parts, and_left, and_right, cond-false}
use Rattle.model.specs.Ranges.{InRange}
use Rattle.model.specs.Trellises.{StaysIn, Lawful, most_states, most_letters}
use Rattle.trellises.specs.Full.{full}

module _ (states letters : ℕ) (branch : ℕ → ℕ → ℕ × ℤ) where
  absent : (s a : ℕ) → (nat_lt s states && nat_lt a letters) ≡ false → (full states letters branch).branch s a ≡ None
  absent s a e = cond-false (nat_lt s states && nat_lt a letters) _ _ e

  present : (inside : (s a : ℕ) → s < states → a < letters → ((branch s a).0 < states) × InRange (branch s a).1) → (s a : ℕ) (b : Bool) → (nat_lt s states && nat_lt a letters) ≡ b → StaysIn states (cond b (Some (branch s a)) None)
  present inside s a true e = let p = and_parts (nat_lt s states) (nat_lt a letters) e in inside s a (ltb-true s states p.0) (ltb-true a letters p.1)
  present inside s a false e = tt

  pub full_lawful : 1 ≤ states → states ≤ most_states → 1 ≤ letters → letters ≤ most_letters → ((s a : ℕ) → s < states → a < letters → ((branch s a).0 < states) × InRange (branch s a).1) → Lawful (full states letters branch)
  full_lawful some-s few-s some-l few-l inside = record {
    some_state = some-s;
    few_states = few-s;
    some_letter = some-l;
    few_letters = few-l;
    no_state = λ s a h. absent s a (and_left _ _ (le-ltb s states h));
    no_letter = λ s a h. absent s a (and_right _ _ (le-ltb a letters h));
    stays = λ s a. present inside s a (nat_lt s states && nat_lt a letters) refl;
  }
