-- The channel with taps, by its number of letters and its taps hs, the newest letter's first.
use Rattle.std.specs.Prelude.{◌≡◌, ℕ, ◌-◌, ◌*◌, ◌^◌, ◌<◌, ◌≤◌, Bool, false, cond, ◌&&◌, ◌||◌, List, [], ◌∷◌, length, take, ℤ, pos, negsuc, ◌+ℤ◌, ◌-ℤ◌, ◌*ℤ◌, ◌==◌, nat_le, unsigned_abs}
use Rattle.model.specs.declared.refusal.Refusal.TheVariants.{TapsLetters, TapsCount, TapValue}
use Rattle.model.specs.Refusals.{refusal_number}
use Rattle.model.specs.Trellises.{Diagram}
use Rattle.model.specs.Bare.{or_bare}
use Rattle.arrays.specs.Lists.{list_items}
use Rattle.trellises.specs.Bare.{unless_refused}
use Rattle.trellises.specs.Checks.{checked, taps_fit}
use Rattle.trellises.specs.Digits.{written, digits_of}
use Rattle.trellises.specs.Full.{full}
use Rattle.trellises.specs.declared.or_bare.OrBare.{OrBare}
use Rattle.trellises.specs.declared.taps.channel.Channel.{Channel}

-- the level that a letter stands for
abbrev pub level : ℕ → ℕ → ℤ
level letters a = pos (2 * a) -ℤ pos (letters - 1)

-- the sum of the taps, each times the level of its letter, the newest letter with the first tap
abbrev pub tapped : ℕ → List ℤ → List ℕ → ℤ
tapped letters [] rest = pos 0
tapped letters (h ∷ hs) [] = pos 0
tapped letters (h ∷ hs) (a ∷ rest) = (h *ℤ level letters a) +ℤ tapped letters hs rest

-- how many letters a state holds: each tap but the first weighs one
abbrev pub memory : List ℤ → ℕ
memory hs = length hs - 1

-- the new letter and then those that the state holds, the newest first
abbrev pub last_letters : ℕ → List ℤ → ℕ → ℕ → List ℕ
last_letters letters hs s a = a ∷ digits_of letters (memory hs) s

-- the next state: the new letter has entered and the oldest has left
abbrev pub next_state : ℕ → List ℤ → ℕ → ℕ → ℕ
next_state letters hs s a = written letters (take (memory hs) (last_letters letters hs s a))

-- the label
abbrev pub taps_label : ℕ → List ℤ → ℕ → ℕ → ℤ
taps_label letters hs s a = tapped letters hs (last_letters letters hs s a)

-- each state and letter has a branch
abbrev pub taps : ℕ → List ℤ → Diagram
taps letters hs = full (letters ^ memory hs) letters (λ s a. (next_state letters hs s a, taps_label letters hs s a))

-- the numbers of letters that there may be
abbrev pub two_or_four : ℤ → Bool
two_or_four (pos n) = n == 2 || n == 4
two_or_four (negsuc n) = false

-- at most 7 taps for two letters, at most 4 for four
abbrev pub most_taps : ℕ → ℕ
most_taps letters = cond (letters == 2) 7 4

-- 0, or the first of the parameters that is out of range
abbrev pub taps_check : ℤ → List ℤ → ℕ
taps_check letters hs =
    checked (two_or_four letters) (refusal_number TapsLetters)
    (checked (nat_le 1 (length hs) && nat_le (length hs) (most_taps (unsigned_abs letters))) (refusal_number TapsCount)
    (checked (taps_fit hs) (refusal_number TapValue) 0))

-- what the parameters make
abbrev pub taps_trellis : ℤ → List ℤ → Diagram
taps_trellis letters hs = unless_refused (taps_check letters hs) (taps (unsigned_abs letters) hs)

-- the taps that a channel holds
abbrev pub taps_of : Channel → List ℤ
taps_of c = list_items c.taps

-- what a channel means
abbrev pub channel_meaning : Channel → Diagram
channel_meaning c = taps c.letters (taps_of c)

-- and what it means where it may have been refused
abbrev pub taps_meaning : OrBare Channel → Diagram
taps_meaning t = or_bare channel_meaning t.accepted

-- a next state holds the new letter and then what the state held, without the oldest
abbrev pub TapsByLetters : Type 0
TapsByLetters =
    (letters : ℕ) (hs : List ℤ) (s a : ℕ) → 1 ≤ length hs → s < letters ^ memory hs → a < letters
    → digits_of letters (memory hs) (next_state letters hs s a) ≡ take (memory hs) (a ∷ digits_of letters (memory hs) s)
