use Rattle.std.proofs.Common.{◌≡◌, true, length, is_some, None, sym, ap, ◌∙◌, subst}
use Rattle.std.proofs.lemmas.Result.{err_from_is_err_and}
use Rattle.std.specs.Option.{ok_or}
use Rattle.model.specs.declared.refusal.Refusal.TheVariants.{NoPath}
use Rattle.model.specs.Refusals.{answer}
use Rattle.survivors.specs.Traces.{StandsAt}
use Rattle.records.specs.Tables.{held_of}
use Rattle.records.specs.Reports.{has_room}
use Rattle.records.proofs.FirstReports.{along, table_seen, shown_none, shown_short, shown_path, put_letters, part_length}
use Rattle.records.proofs.settled.Settled.report.Goals as goal

pub returns-in_err-standing : goal.returns-in_err-standing
returns-in_err-standing g c =
    let w = c.self.inside in
    let d = g.T.Trellis.meaning w.trellis in
    let p = g.M.Measure.costs w.measure in
    let h = held_of w.table in
    let buf = c.args.buffer.now in
    let is : w.standing ≡ None = c.in_err-standing.ensures.value in
    let none = subst (StandsAt d p h.start h.end h.samples) is c.self.invariant.stands in
    let e = err_from_is_err_and c.from_residual.result c.from_residual.ensures.1 in
    let found = shown_none d (g.met.T.Trellis.lawful w.trellis) p h c.args.place buf none c.in_err-standing.field-0.0 (ap answer (c.in_err-standing.ensures.checked ∙ ap (λ o. ok_or o NoPath) is)) in
    let shown = along g.T.Trellis.meaning g.M.Measure.costs c.args.place buf _ _ c.self.view_is found in
    rw (e.1, e.2) (record { value = shown.value; checked = shown.checked; buffer = shown.buffer; chosen = table_seen g.T.Trellis.meaning g.M.Measure.costs c.self.view_is c.self.invariant.chosen; law = shown.law })

pub returns-then-not-is_room : goal.returns-then-not-is_room
returns-then-not-is_room g c =
    let w = c.self.inside in
    let d = g.T.Trellis.meaning w.trellis in
    let p = g.M.Measure.costs w.measure in
    let h = held_of w.table in
    let buf = c.args.buffer.now in
    let some = subst (StandsAt d p h.start h.end h.samples) c.in_ok-standing.ensures.value c.self.invariant.stands in
    let found = shown_short d (g.met.T.Trellis.lawful w.trellis) p h c.args.place buf some.0 some.1 (rw (← c.len-held.ensures) (sym c.is_room.ensures ∙ c.if-not-is_room.true)) in
    let shown = along g.T.Trellis.meaning g.M.Measure.costs c.args.place buf _ _ c.self.view_is found in
    record { value = shown.value; checked = shown.checked; buffer = shown.buffer; chosen = table_seen g.T.Trellis.meaning g.M.Measure.costs c.self.view_is c.self.invariant.chosen; law = shown.law }

pub unwrap-first-requires : goal.unwrap-first-requires
unwrap-first-requires g c =
    let w = c.self.inside in
    let d = g.T.Trellis.meaning w.trellis in
    let p = g.M.Measure.costs w.measure in
    let h = held_of w.table in
    let some = subst (StandsAt d p h.start h.end h.samples) c.in_ok-standing.ensures.value c.self.invariant.stands in
    let fits = sym c.is_room.ensures ∙ c.if-not-is_room.false in
    let len : length h.samples ≡ length c.trace.new.letters = sym c.len-held.ensures ∙ sym (c.trace.auto.letters ∙ part_length c.args.place c.len-held.result c.args.buffer.now fits) in
    let way = c.trace.ensures.path d (g.met.T.Trellis.lawful w.trellis) p h.start h.samples c.self.invariant.chosen len some.0 some.2 in
    ap is_some way.0

pub returns : goal.returns
returns g c =
    let w = c.self.inside in
    let d = g.T.Trellis.meaning w.trellis in
    let p = g.M.Measure.costs w.measure in
    let h = held_of w.table in
    let buf = c.args.buffer.now in
    let lawful = g.met.T.Trellis.lawful w.trellis in
    let some = subst (StandsAt d p h.start h.end h.samples) c.in_ok-standing.ensures.value c.self.invariant.stands in
    let n : length h.samples ≡ c.len-held.result = sym c.len-held.ensures in
    let fits : has_room c.len-held.result c.args.place (length buf) ≡ true = sym c.is_room.ensures ∙ c.if-not-is_room.false in
    let len : length h.samples ≡ length c.trace.new.letters = n ∙ sym (c.trace.auto.letters ∙ part_length c.args.place c.len-held.result buf fits) in
    let way = c.trace.ensures.path d lawful p h.start h.samples c.self.invariant.chosen len some.0 some.2 in
    let first : c.unwrap-first.result ≡ some.0.first = let e = c.unwrap-first.ensures in let v = way.0 in cc in
    let new = put_letters c.args.place c.len-held.result buf c.trace.new.letters some.0.letters way.1 (some.1.path.path.steps ∙ n) in
    let found = shown_path d lawful p h c.args.place buf some.0 some.1 (rw n fits) c.in_ok-standing.standing some.2.path c.unwrap-first.result first some.3 some.4 some.5 _ c.new.ensures _ new in
    let shown = along g.T.Trellis.meaning g.M.Measure.costs c.args.place buf _ _ c.self.view_is found in
    record { value = shown.value; checked = shown.checked; buffer = shown.buffer; chosen = table_seen g.T.Trellis.meaning g.M.Measure.costs c.self.view_is c.self.invariant.chosen; law = shown.law }
