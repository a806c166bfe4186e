-- Worked examples, on the trellis of three states and three letters.
use Rattle.std.specs.Prelude.{◌≡◌, ℕ, List, [], ◌∷◌, replicate, ℤ, pos, Some, None, Option, slice_set}
use Rattle.paths.specs.Cheapest.{first_path}
use Rattle.paths.specs.Examples.{small, apart}
use Rattle.survivors.specs.Choices.{table_size, place, byte_of, last_byte, cost_of}
use Rattle.survivors.specs.Laws.{path_back}

-- the byte of the last branch of the first path from 0 to s on samples
abbrev pub byte_to : List ℤ → ℕ → ℕ
byte_to xs s = last_byte small (first_path small apart (Some 0) (Some s) xs)

abbrev pub cost_to : List ℤ → ℕ → Option ℕ
cost_to xs s = cost_of small apart xs (first_path small apart (Some 0) (Some s) xs)

abbrev one : List ℤ
one = pos 1 ∷ []

abbrev two : List ℤ
two = pos 1 ∷ pos 0 ∷ []

abbrev three : List ℤ
three = pos 1 ∷ pos 0 ∷ pos 2 ∷ []

-- the bytes that are not 0 after three samples, on the way to 1
abbrev pub three_bytes : List ℕ
three_bytes = slice_set (slice_set (replicate 192 0) (place 1 2) (byte_of 1 1)) (place 2 1) (byte_of 2 1)

pub record Examples : Type 0 where
  pub bytes : table_size ≡ 32768
  pub place_is : place 2 5 ≡ 133
  pub byte_is : byte_of 2 1 ≡ 9
  -- one sample: from 0 to 0 by 1, to 1 by 0, and none to 2
  pub one_0 : byte_to one 0 ≡ 1
  pub one_1 : byte_to one 1 ≡ 0
  pub one_2 : byte_to one 2 ≡ 0
  pub one_costs : cost_to one 1 ≡ Some 0
  pub one_none : cost_to one 2 ≡ None
  -- two: into 0 from 0 by 1 as cheaply as from 1 by 0, and the lower state wins; into 2 from 1 by 1
  pub two_0 : byte_to two 0 ≡ 1
  pub two_1 : byte_to two 1 ≡ 0
  pub two_2 : byte_to two 2 ≡ 5
  -- three: into 1 from 2 by 1 and by 2 equally, and the lower letter wins
  pub three_1 : byte_to three 1 ≡ 9
  pub three_cost : cost_to three 1 ≡ Some 1
  -- back from 1: to 2 by 1, to 1 by 1, to 0 by 0
  pub three_back : path_back three_bytes 3 1 ≡ record { first = 0; letters = 0 ∷ 1 ∷ 1 ∷ [] }
