-- The words of a line.
use Rattle.std.specs.Prelude.{ℕ, Bool, false, cond, not, ◌&&◌, List, [], ◌∷◌, Some, None, Option, ◌==◌, nat_le}
use Rattle.std.specs.List.{list_all}

-- words are parted by spaces
abbrev pub is_space : ℕ → Bool
is_space b = b == 32

-- whether b is another byte than the one that is looked for
abbrev pub other : ℕ → ℕ → Bool
other sought b = not (b == sought)

-- a list begins with a byte of a word
abbrev pub starts_word : List ℕ → Bool
starts_word [] = false
starts_word (b ∷ bs) = other 32 b

-- one byte more at the front of the first word
abbrev pub onto_first : ℕ → List (List ℕ) → List (List ℕ)
onto_first b [] = (b ∷ []) ∷ []
onto_first b (w ∷ ws) = (b ∷ w) ∷ ws

-- the words: the longest runs of bytes other than spaces
abbrev pub words : List ℕ → List (List ℕ)
words [] = []
words (b ∷ bs) = cond (is_space b) (words bs) (cond (starts_word bs) (onto_first b (words bs)) ((b ∷ []) ∷ words bs))

abbrev pub all_digits : List ℕ → Bool
all_digits bs = list_all (λ b. nat_le 48 b && nat_le b 57) bs

abbrev pub some_digits : List ℕ → Bool
some_digits [] = false
some_digits (b ∷ bs) = all_digits (b ∷ bs)

-- a figure is an optional minus and one or more digits
abbrev pub figure : List ℕ → Bool
figure [] = false
figure (b ∷ bs) = cond (b == 45) (some_digits bs) (all_digits (b ∷ bs))

abbrev pub first : List (List ℕ) → Option (List ℕ)
first [] = None
first (w ∷ ws) = Some w

abbrev pub others : List (List ℕ) → List (List ℕ)
others [] = []
others (w ∷ ws) = ws
