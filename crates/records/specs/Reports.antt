-- What a settled record reports, by the paths on what it holds.
use Rattle.std.specs.Prelude.{◌≡◌, ℕ, ◌+◌, ◌%◌, ◌^◌, Bool, true, false, cond, List, ◌++◌, length, take, drop, ℤ, IfOk, IfErr, Some, None, Option, Result, ◌≢◌, nat_le}
use Rattle.std.specs.Option.{unwrap_or}
use Rattle.model.specs.declared.refusal.Refusal.{Refusal}
use Rattle.model.specs.declared.refusal.Refusal.TheVariants.{NoPath, BufferShort}
use Rattle.model.specs.Refusals.{refusal_number, answer}
use Rattle.model.specs.Trellises.{Diagram}
use Rattle.paths.specs.Paths.{Path, Admissible, last_state, path_cost}
use Rattle.paths.specs.Cheapest.{ties, first_path, second}
use Rattle.paths.specs.Laws.{Ahead, HasNoPath, ListsCheapest, IsSecond}
use Rattle.survivors.specs.declared.standing.Standing.{Standing}
use Rattle.records.specs.declared.report.Report.{Report}
use Rattle.records.specs.Held.{Held}

-- ---- which report comes, as definitions

-- so many letters have room from a place on in a buffer of this length; a place past the buffer leaves none
abbrev pub has_room : ℕ → ℕ → ℕ → Bool
has_room letters place buffer = nat_le (place + letters) buffer

-- 24 where there is no path to report, then 25 where its letters have no room
abbrev pub path_check : Option Path → Bool → ℕ
path_check None room = refusal_number NoPath
path_check (Some p) room = cond room 0 (refusal_number BufferShort)

-- what is said of a path, if there is one and its letters have room
abbrev pub if_reported : {B : Type 0} → Option Path → Bool → (Path → B) → Option B
if_reported None room f = None
if_reported (Some p) room f = cond room (Some (f p)) None

-- the report of a path that stands so and has this first state
abbrev pub report_from : Standing → ℕ → Report
report_from e first = record { first = first; last = e.last; cost = e.cost; ties = e.ties; second = e.second }

-- a buffer with the letters of a path from a place on
abbrev pub with_letters : ℕ → List ℕ → Path → List ℕ
with_letters place buffer p = take place buffer ++ (p.letters ++ drop (place + length p.letters) buffer)

-- the same, unchanged where there is no path or no room
abbrev pub written : Option Path → Bool → ℕ → List ℕ → List ℕ
written None room place buffer = buffer
written (Some p) room place buffer = cond room (with_letters place buffer p) buffer

module _ (d : Diagram) (cost : ℤ → ℤ → ℕ) (h : Held) where
  -- the path that is reported: the first of the cheapest admissible paths, if there is one
  abbrev pub reported_path : Option Path
  reported_path = first_path d cost h.start h.end h.samples

  -- the report of a path
  abbrev pub report_of : Path → Report
  report_of p = record {
    first = p.first;
    last = unwrap_or (last_state d p) 0;
    cost = path_cost d cost h.samples p;
    ties = ties d cost h.start h.end h.samples % 2 ^ 64;
    second = second d cost h.start h.end h.samples p;
  }

  -- ---- what it means, in words of paths

  -- p is an admissible path, of this first and last state and this cost; every other admissible path costs more, or as much and comes later in the order;
  -- ties counts the cheapest, and second is the least cost of the others
  pub record Reports (p : Path) (r : Report) : Type 0 where
    pub path : Admissible d h.start h.end (length h.samples) p
    pub first : r.first ≡ p.first
    pub last : last_state d p ≡ Some r.last
    pub cost_is : r.cost ≡ path_cost d cost h.samples p
    pub ahead : (q : Path) → Admissible d h.start h.end (length h.samples) q → (p ≢ q) → Ahead d cost h.samples p q
    pub ties_are : (ps : List Path) × ListsCheapest d cost h.start h.end h.samples ps × (r.ties ≡ length ps % 2 ^ 64)
    pub second_is : IsSecond d cost h.start h.end h.samples p r.second

  -- what a report answers that is asked to write at a place, from the buffer old to new
  pub record AnswersReport (place : ℕ) (r : Result Report Refusal) (old new : List ℕ) : Type 0 where
    -- 24 exactly where no path is admissible
    pub no_path : HasNoPath d h.start h.end (length h.samples) → answer r ≡ refusal_number NoPath
    pub only_no_path : answer r ≡ refusal_number NoPath → HasNoPath d h.start h.end (length h.samples)
    -- else 25 exactly where the letters have no room
    pub no_room : (p : Path) → Admissible d h.start h.end (length h.samples) p → has_room (length h.samples) place (length old) ≡ false → answer r ≡ refusal_number BufferShort
    -- else the report of a path, whose letters then stand at the place, with nothing else changed
    pub accepted : (p : Path) → Admissible d h.start h.end (length h.samples) p → has_room (length h.samples) place (length old) ≡ true → answer r ≡ 0
    pub reports : IfOk r (λ a. (p : Path) × Reports p a × (new ≡ with_letters place old p))
    -- a refusal leaves the buffer as it was
    pub unchanged : IfErr r (λ _. new ≡ old)
