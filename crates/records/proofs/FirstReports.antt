-- What a report says of the first path. Assumes nothing.
use Rattle.std.proofs.Common.{◌≡◌, ℕ, ◌+◌, ◌-◌, ◌%◌, ◌^◌, ◌≤◌, Bool, true, false, not, T, List, ◌++◌, length, take, drop, ℤ, Some, None, Ok, Err, Option, Result, unwrap_or, sym, refl, ap, ◌∙◌, subst, arith, eqb→eq, length-drop, length-take, drop-drop, leb-true}
use borrow.Rule.Slice.PartMut.{put_mid}
use Rattle.std.specs.Result.{result_ok}
use Rattle.model.specs.declared.refusal.Refusal.{Refusal}
use Rattle.model.specs.declared.refusal.Refusal.TheVariants.{NoPath, BufferShort}
use Rattle.model.specs.Refusals.{refusal_number, answer}
use Rattle.model.specs.Trellises.{Diagram, Lawful}
use Rattle.paths.specs.Paths.{Path, Admissible, last_state, path_cost}
use Rattle.paths.specs.Cheapest.{cheapest_paths, ties, first_path, second}
use Rattle.paths.specs.Laws.{First, HasNoPath, IsFirst, IsSecond}
use Rattle.paths.proofs.Firsts.{first_found, one_first, second_found, cheapest_listed}
use Rattle.survivors.specs.declared.standing.Standing.{Standing}
use Rattle.survivors.specs.Choices.{TableOf}
use Rattle.survivors.proofs.Firsts.{ends_at}
use Rattle.records.specs.declared.report.Report.{Report}
use Rattle.records.specs.Held.{Held}
use Rattle.records.specs.Seen.{Shown as RecordShown}
use Rattle.records.specs.Reports.{has_room, path_check, if_reported, written, with_letters, report_from, report_of, reported_path, AnswersReport}

-- ---- the first path

module _ (d : Diagram) (lawful : Lawful d) (cost : ℤ → ℤ → ℕ) (start end : Option ℕ) (xs : List ℤ) where
  -- a path that is first is the one that the definition gives
  pub first_is : (p : Path) → First d cost start end xs p → first_path d cost start end xs ≡ Some p
  first_is p f = by (first_path d cost start end xs) (first_found d lawful cost start end xs)
    where
      by : (o : Option Path) → IsFirst d cost start end xs o → o ≡ Some p
      by None n = absurd (n p f.path)
      by (Some q) g = ap Some (one_first d cost start end xs q p g f)

  pub none_is : HasNoPath d start end (length xs) → first_path d cost start end xs ≡ None
  none_is n = by (first_path d cost start end xs) (first_found d lawful cost start end xs)
    where
      by : (o : Option Path) → IsFirst d cost start end xs o → o ≡ None
      by None m = refl
      by (Some q) g = absurd (n q g.path)

-- a path to a permitted state ends there
pub last_is : (d : Diagram) (start : Option ℕ) (n t : ℕ) (p : Path) → Admissible d start (Some t) n p → last_state d p ≡ Some t
last_is d start n t p a =
    let e = ends_at d start (Some t) n p a in
    e.3 ∙ ap Some (eqb→eq e.0 t (subst T (sym e.2) tt))

-- ---- the answers of a report

same_report : (a a' b b' c c' e e' : ℕ) (f f' : Option ℕ) → a ≡ a' → b ≡ b' → c ≡ c' → e ≡ e' → f ≡ f' →
    ◌≡◌ {A = Report} (record { first = a; last = b; cost = c; ties = e; second = f }) (record { first = a'; last = b'; cost = c'; ties = e'; second = f' })
same_report a a' b b' c c' e e' f f' p q r s t = cc

clash : ◌≡◌ {A = Bool} false true → ⊥
clash e = subst (λ b. T (not b)) e tt

-- letters written into the part of a buffer that starts at a place
pub put_letters : (place n : ℕ) (old new ls : List ℕ) → new ≡ ls → length ls ≡ n → put_mid place (place + n - place) old new ≡ take place old ++ (ls ++ drop (place + length ls) old)
put_letters place n old new ls is len = let m : place + n - place ≡ n = omega arith in rw (m, is, len, drop-drop)

-- and as many as there is room for
pub part_length : (place n : ℕ) (old : List ℕ) → has_room n place (length old) ≡ true → length (take (place + n - place) (drop place old)) ≡ n
part_length place n old fits = let le : place + n ≤ length old = leb-true (place + n) (length old) fits in simp (length-take, length-drop) (omega arith)

module _ (d : Diagram) (cost : ℤ → ℤ → ℕ) (h : Held) (place : ℕ) (old : List ℕ) where
  abbrev room : Bool
  room = has_room (length h.samples) place (length old)

  -- what a report has to show: which answer, by the path that is reported, and what the buffer then holds
  pub record Shown (r : Result Report Refusal) (new : List ℕ) : Type 0 where
    pub value : result_ok r ≡ if_reported (reported_path d cost h) room (report_of d cost h)
    pub checked : answer r ≡ path_check (reported_path d cost h) room
    pub buffer : new ≡ written (reported_path d cost h) room place old
    pub law : AnswersReport d cost h place r old new

-- the bytes of a settled record are those that it shows
pub table_seen : {T M : Type 0} (meaning : T → Diagram) (costs : M → ℤ → ℤ → ℕ) {v w : RecordShown T M} → v ≡ w →
    TableOf (meaning v.seen.trellis) (costs v.seen.measure) v.seen.held.start v.seen.held.samples v.choices → TableOf (meaning w.seen.trellis) (costs w.seen.measure) w.seen.held.start w.seen.held.samples w.choices
table_seen meaning costs e t = subst (λ v. TableOf (meaning v.seen.trellis) (costs v.seen.measure) v.seen.held.start v.seen.held.samples v.choices) e t

-- the same of what a record shows
pub along : {T M : Type 0} (meaning : T → Diagram) (costs : M → ℤ → ℤ → ℕ) (place : ℕ) (old new : List ℕ) (r : Result Report Refusal) {v w : RecordShown T M} → v ≡ w →
    Shown (meaning v.seen.trellis) (costs v.seen.measure) v.seen.held place old r new → Shown (meaning w.seen.trellis) (costs w.seen.measure) w.seen.held place old r new
along meaning costs place old new r e s = subst (λ v. Shown (meaning v.seen.trellis) (costs v.seen.measure) v.seen.held place old r new) e s

module _ (d : Diagram) (lawful : Lawful d) (cost : ℤ → ℤ → ℕ) (h : Held) (place : ℕ) (old : List ℕ) where
  pub shown_none : HasNoPath d h.start h.end (length h.samples) → (e : Refusal) → refusal_number e ≡ refusal_number NoPath → Shown d cost h place old (Err e) old
  shown_none n e is =
      let none : reported_path d cost h ≡ None = none_is d lawful cost h.start h.end h.samples n in
      record { value = rw none; checked = rw none is; buffer = rw none; law = record { no_path = λ _. is; only_no_path = λ _. n; no_room = λ p a _. absurd (n p a); accepted = λ p a _. absurd (n p a); reports = tt; unchanged = refl } }

  pub shown_short : (p : Path) → First d cost h.start h.end h.samples p → room d cost h place old ≡ false → Shown d cost h place old (Err BufferShort) old
  shown_short p f short =
      let e : reported_path d cost h ≡ Some p = first_is d lawful cost h.start h.end h.samples p f in
      record {
        value = rw (e, short);
        checked = rw (e, short);
        buffer = rw (e, short);
        law = record { no_path = λ n. absurd (n p f.path); only_no_path = λ z. absurd (omega arith); no_room = λ _ _ _. refl; accepted = λ _ _ fits. absurd (clash (sym short ∙ fits)); reports = tt; unchanged = refl };
      }

  pub shown_path : (p : Path) → First d cost h.start h.end h.samples p → room d cost h place old ≡ true → (e : Standing) → Admissible d h.start (Some e.last) (length h.samples) p → (a : ℕ) → a ≡ p.first →
      path_cost d cost h.samples p ≡ e.cost → e.ties ≡ ties d cost h.start h.end h.samples % 2 ^ 64 → e.second ≡ second d cost h.start h.end h.samples p →
      (r : Report) → r ≡ report_from e a → (new : List ℕ) → new ≡ with_letters place old p → Shown d cost h place old (Ok r) new
  shown_path p f fits e to a first costs many least r r-is new is =
      let found : reported_path d cost h ≡ Some p = first_is d lawful cost h.start h.end h.samples p f in
      let ends : last_state d p ≡ Some e.last = last_is d h.start (length h.samples) e.last p to in
      let whole : r ≡ report_of d cost h p = r-is ∙ same_report a _ e.last _ e.cost _ e.ties _ e.second _ first (sym (ap (λ v. unwrap_or v 0) ends)) (sym costs) many least in
      record {
        value = rw (found, fits) (ap Some whole);
        checked = rw (found, fits);
        buffer = rw (found, fits) is;
        law = record {
          no_path = λ n. absurd (n p f.path);
          only_no_path = λ z. absurd (omega arith);
          no_room = λ _ _ short. absurd (clash (sym short ∙ fits));
          accepted = λ _ _ _. refl;
          unchanged = tt;
          reports = (
            p,
            record {
              path = f.path;
              first = ap (λ v. v.first) r-is ∙ first;
              last = ends ∙ ap (λ v. Some v.last) (sym r-is);
              cost_is = ap (λ v. v.cost) r-is ∙ sym costs;
              ahead = f.ahead;
              ties_are = (cheapest_paths d cost h.start h.end h.samples, cheapest_listed d lawful cost h.start h.end h.samples, ap (λ v. v.ties) r-is ∙ many);
              second_is = subst (IsSecond d cost h.start h.end h.samples p) (sym (ap (λ v. v.second) r-is ∙ least)) (second_found d lawful cost h.start h.end h.samples p);
            },
            is,
          );
        };
      }
