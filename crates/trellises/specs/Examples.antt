-- Worked examples of the definitions.
use Rattle.std.specs.Prelude.{◌≡◌, ℕ, [], ◌∷◌, ℤ, pos, negsuc, Some, None}
use Rattle.model.specs.Trellises.{Diagram}
use Rattle.model.specs.Bare.{bare}
use Rattle.trellises.specs.Cascades.{cascade_check, cascade_trellis}
use Rattle.trellises.specs.Codes.{code_check, code_trellis}
use Rattle.trellises.specs.RunLengths.{run_length_check, run_length_trellis}
use Rattle.trellises.specs.Taps.{taps_check, taps_trellis}

-- the branch of a state and letter leads to a next state and shows a label
abbrev pub Leads : Diagram → ℕ → ℕ → ℕ → ℤ → Type 0
Leads d s a next label = d.branch s a ≡ Some (next, label)

-- the branch of a state and letter is missing
abbrev pub Missing : Diagram → ℕ → ℕ → Type 0
Missing d s a = d.branch s a ≡ None

-- the code of constraint length 3 with the octal generators 7 and 5
abbrev pub small_code : Diagram
small_code = code_trellis (pos 3) (pos 0) (pos 0o7 ∷ pos 0o5 ∷ [])

-- the CCSDS code: constraint length 7, octal generators 171 and 133, the second bit inverted
abbrev pub ccsds_code : Diagram
ccsds_code = code_trellis (pos 7) (pos 1) (pos 0o171 ∷ pos 0o133 ∷ [])

-- one tap of 1: the labels are the levels of so many letters
abbrev pub one_tap : ℕ → Diagram
one_tap letters = taps_trellis (pos letters) (pos 1 ∷ [])

-- two letters, and two taps of 1
abbrev pub two_taps : Diagram
two_taps = taps_trellis (pos 2) (pos 1 ∷ pos 1 ∷ [])

-- at least two and at most three zeros between two ones
abbrev pub two_three : Diagram
two_three = run_length_trellis (pos 2) (pos 3)

-- codes alone and over taps: over four levels the label 3 is a letter, over two it is none
abbrev pub CodeExamples : Type 0
CodeExamples =
    Leads small_code 0 1 2 (pos 3)
    × Leads ccsds_code 0 1 32 (pos 2)
    × Leads (cascade_trellis small_code (one_tap 4)) 0 1 2 (pos 3)
    × Missing (cascade_trellis small_code (one_tap 2)) 0 1

-- taps: the newest letter is the next state, and labels are sums of two levels
abbrev pub TapsExamples : Type 0
TapsExamples =
    Leads two_taps 0 1 1 (pos 0)
    × Leads two_taps 1 1 1 (pos 2)
    × Leads two_taps 0 0 0 (negsuc 1)
    × Missing two_taps 2 0
    × Missing two_taps 0 2

-- run-length limits: a one from state 2 on, a zero up to state 3
abbrev pub RunLengthExamples : Type 0
RunLengthExamples =
    Leads two_three 2 1 0 (pos 1)
    × Missing two_three 1 1
    × Leads two_three 1 0 2 (pos 0)
    × Missing two_three 3 0

-- each refusal
abbrev pub RefusalExamples : Type 0
RefusalExamples =
    (taps_check (pos 3) [] ≡ 1)
    × (taps_check (pos 2) [] ≡ 2)
    × (taps_check (pos 4) (pos 1 ∷ negsuc 127 ∷ []) ≡ 3)
    × (code_check (pos 8) (pos 0) [] ≡ 4)
    × (code_check (pos 3) (pos 0) [] ≡ 5)
    × (code_check (pos 3) (pos 4) (pos 7 ∷ pos 8 ∷ []) ≡ 6)
    × (code_check (pos 3) (pos 4) (pos 7 ∷ pos 5 ∷ []) ≡ 7)
    × (run_length_check (pos 3) (pos 2) ≡ 8)
    × (cascade_check ccsds_code two_taps ≡ 10)

-- none
abbrev pub AcceptedExamples : Type 0
AcceptedExamples =
    (taps_check (pos 4) (negsuc 126 ∷ pos 127 ∷ pos 0 ∷ pos 1 ∷ []) ≡ 0)
    × (code_check (pos 7) (pos 1) (pos 0o171 ∷ pos 0o133 ∷ []) ≡ 0)
    × (run_length_check (pos 0) (pos 63) ≡ 0)
    × (cascade_check ccsds_code (one_tap 4) ≡ 0)

-- refused parameters make the bare trellis; over a bare part a cascade is not bare, and has no branch
abbrev pub BareExamples : Type 0
BareExamples =
    (taps_trellis (pos 3) (pos 1 ∷ []) ≡ bare)
    × (code_trellis (pos 3) (negsuc 0) (pos 7 ∷ pos 5 ∷ []) ≡ bare)
    × (run_length_trellis (negsuc 0) (pos 2) ≡ bare)
    × (cascade_trellis ccsds_code two_taps ≡ bare)
    × ((cascade_trellis small_code bare).states ≡ 4)
    × ((cascade_trellis small_code bare).letters ≡ 2)
    × Missing (cascade_trellis small_code bare) 0 1

abbrev pub Examples : Type 0
Examples = CodeExamples × TapsExamples × RunLengthExamples × RefusalExamples × AcceptedExamples × BareExamples
