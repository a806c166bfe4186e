-- The six forms of a line.
use Rattle.std.specs.Prelude.{ℕ, ◌-◌, Bool, true, false, cond, not, ◌&&◌, ◌||◌, List, [], ◌∷◌, length, ℤ, Some, None, codes, Option, ◌==◌, nat_le, slice_index_or}
use Rattle.std.specs.Option.{option_map}
use Rattle.std.specs.List.{list_all}
use Rattle.std.specs.Str.{bytes_eq}
use Rattle.lines.specs.declared.form.MeasureLine.TheVariants.{Square, Bits}
use Rattle.lines.specs.declared.form.Line.{Line}
use Rattle.lines.specs.declared.form.Line.TheVariants.{Code, Rll, Taps, Measure, Start, End}
use Rattle.lines.specs.declared.number.Radix.TheVariants.{Decimal, Octal}
use Rattle.lines.specs.Words.{is_space, words, first, others}
use Rattle.lines.specs.Numbers.{decimal}
use Rattle.lines.specs.Lists.{list_from, first_number, number_list}

-- what follows from a value, if there is one
abbrev pub then : {A B : Type 0} → Option A → (A → Option B) → Option B
then None f = None
then (Some x) f = f x

abbrev pub none_left : List (List ℕ) → Bool
none_left [] = true
none_left (w ∷ ws) = false

-- K and V in base ten, then 1 to 7 generators in octal digits
abbrev pub code_form : List (List ℕ) → Option Line
code_form ws =
    then (first_number Decimal ws)
    (λ k. then (first_number Decimal (others ws)) (λ v. then (number_list Octal (others (others ws))) (λ gs. Some (Code (record { constraint_length = k; inversion = v; generators = list_from gs })))))

-- d and k, and nothing more
abbrev pub rll_form : List (List ℕ) → Option Line
rll_form ws = then (first_number Decimal ws) (λ d. then (first_number Decimal (others ws)) (λ k. cond (none_left (others (others ws))) (Some (Rll (record { d = d; k = k }))) None))

-- the number of letters, then 1 to 7 taps
abbrev pub taps_form : List (List ℕ) → Option Line
taps_form ws = then (first_number Decimal ws) (λ a. then (number_list Decimal (others ws)) (λ hs. Some (Taps (record { letters = a; taps = list_from hs }))))

-- `square`, or `bits` and a width
abbrev pub measure_form : List (List ℕ) → Option Line
measure_form ws =
    then (first ws)
    (λ w. cond (bytes_eq w (codes "square")) (cond (none_left (others ws)) (Some (Measure Square)) None)
    (cond (bytes_eq w (codes "bits")) (then (first_number Decimal (others ws)) (λ n. cond (none_left (others (others ws))) (Some (Measure (Bits n))) None)) None))

-- `any`, or a number
abbrev pub anchor_in : List ℕ → Option (Option ℤ)
anchor_in w = cond (bytes_eq w (codes "any")) (Some None) (option_map Some (decimal w))

-- `any`, or a number, and nothing more
abbrev pub anchor_form : List (List ℕ) → Option (Option ℤ)
anchor_form ws = then (first ws) (λ w. cond (none_left (others ws)) (anchor_in w) None)

-- the form that the first word names, of the words after it
abbrev pub form_of : List (List ℕ) → Option Line
form_of ws =
    then (first ws)
    (λ w. cond (bytes_eq w (codes "code")) (code_form (others ws)) (cond (bytes_eq w (codes "rll")) (rll_form (others ws)) (cond (bytes_eq w (codes "taps")) (taps_form (others ws))
    (cond (bytes_eq w (codes "measure")) (measure_form (others ws)) (cond (bytes_eq w (codes "start")) (option_map Start (anchor_form (others ws))) (cond (bytes_eq w (codes "end")) (option_map End (anchor_form (others ws))) None))))))

-- a byte that a line may have: a to z, 0 to 9, minus or space
abbrev pub line_byte : ℕ → Bool
line_byte b = (nat_le 97 b && nat_le b 122) || (nat_le 48 b && nat_le b 57) || b == 45 || is_space b

abbrev pub line_bytes : List ℕ → Bool
line_bytes bs = list_all line_byte bs

-- bytes with no space at either end
abbrev pub bare_ends : List ℕ → Bool
bare_ends bs = not (is_space (slice_index_or bs 0 32)) && not (is_space (slice_index_or bs (length bs - 1) 32))

-- words parted by spaces, with no space at either end
abbrev pub well_spaced : List ℕ → Bool
well_spaced bs = bare_ends bs && line_bytes bs

-- what a line, without the byte that ends it, says; nothing where it has none of the forms
abbrev pub line_form : List ℕ → Option Line
line_form bs = cond (well_spaced bs) (form_of (words bs)) None
