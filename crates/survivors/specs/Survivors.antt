-- What the code does at each step: it scans the branches into a state, and keeps the cheapest. That this is the chosen branch is proved of it.
use Rattle.std.specs.Prelude.{ℕ, zero, suc, ◌+◌, ◌*◌, ◌/◌, ◌%◌, cond, List, ℤ, Some, None, fold, Option, ◌==◌, nat_lt}
use Rattle.model.specs.Trellises.{Branch, Diagram, most_letters}
use Rattle.paths.specs.declared.branch.ListedBranch.{ListedBranch}
use Rattle.paths.specs.Paths.{permits}

-- a cost with the number it was met at, and one more: what was met first stays, unless the new one is cheaper
abbrev pub pick : Option (ℕ × ℕ) → ℕ → Option ℕ → Option (ℕ × ℕ)
pick o i None = o
pick None i (Some c) = Some (c, i)
pick (Some b) i (Some c) = cond (nat_lt c b.0) (Some (c, i)) (Some b)

-- the least cost among the numbers below n, with the first number that has it
abbrev pub scan : (ℕ → Option ℕ) → ℕ → Option (ℕ × ℕ)
scan f zero = None
scan f (suc n) = pick (scan f n) n (f n)

-- what it costs to come to the state t by a branch, from a state that was reached at a cost
abbrev pub offer : (ℤ → ℤ → ℕ) → ℤ → ℕ → Branch → Option ℕ → Option ℕ
offer cost x t None v = None
offer cost x t (Some b) None = None
offer cost x t (Some b) (Some c) = cond (t == b.0) (Some (c + cost b.1 x)) None

-- the same, the branch being that of a byte
abbrev pub offered : Diagram → (ℤ → ℤ → ℕ) → ℤ → (ℕ → Option ℕ) → ℕ → ℕ → Option ℕ
offered d cost x row t byte = offer cost x t (d.branch (byte / most_letters) (byte % most_letters)) (row (byte / most_letters))

-- the cheapest way to come to t, and the byte of its branch
unfoldable pub best : Diagram → (ℤ → ℤ → ℕ) → ℤ → (ℕ → Option ℕ) → ℕ → Option (ℕ × ℕ)
best d cost x row t = scan (offered d cost x row t) (d.states * most_letters)

-- what it costs to come to t by a listed branch
abbrev pub offered_by : (ℤ → ℤ → ℕ) → ℤ → (ℕ → Option ℕ) → ℕ → ListedBranch → Option ℕ
offered_by cost x row t b = offer cost x t (Some (b.next, b.label)) (row b.from)

-- the cheapest way to come to t by a branch of a list, and its byte
unfoldable pub best_of : (ℤ → ℤ → ℕ) → ℤ → (ℕ → Option ℕ) → List ListedBranch → ℕ → Option (ℕ × ℕ)
best_of cost x row bs t = fold (λ o b. pick o b.byte (offered_by cost x row t b)) None bs

-- the cost that was met
abbrev pub cost_in : Option (ℕ × ℕ) → Option ℕ
cost_in None = None
cost_in (Some b) = Some b.0

-- the number that it was met at, or 0
abbrev pub byte_in : Option (ℕ × ℕ) → ℕ
byte_in None = 0
byte_in (Some b) = b.1

-- the cost of a state before any sample
abbrev pub opening : Option ℕ → ℕ → Option ℕ
opening start s = cond (permits start s) (Some 0) None

-- the costs of the states that an end permits
abbrev pub at_end : Option ℕ → (ℕ → Option ℕ) → ℕ → Option ℕ
at_end end row t = cond (permits end t) (row t) None
