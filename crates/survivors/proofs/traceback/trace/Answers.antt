use Rattle.std.proofs.Common.{◌≡◌, length, Some, None, sym, refl, ap, ◌∙◌}
use Rattle.survivors.specs.Traces.{traced_first, traced_letters}
use Rattle.survivors.proofs.Tracing.{in_table_says, traced_yes, traced_no, traced}
use Rattle.survivors.proofs.traceback.trace.Goals as goal

pub walk_back-requires : goal.walk_back-requires
walk_back-requires c =
    let h = in_table_says (length c.args.letters.now) c.args.last (sym c.has.ensures ∙ c.if-has.true) in
    record { table = c.told-choices; few = h.1; state = h.0 }

pub returns-then-has : goal.returns-then-has
returns-then-has c =
    let table = c.args.choices.now in
    let old = c.args.letters.now in
    let last = c.args.last in
    let yes = traced_yes table last old (sym c.has.ensures ∙ c.if-has.true) in
    let first : Some c.walk_back.result ≡ traced_first table (length old) last = ap Some c.walk_back.ensures.first ∙ yes.0 in
    let letters : c.walk_back.new.letters ≡ traced_letters table last old = c.walk_back.ensures.letters ∙ yes.1 in
    record { first = first; letters = letters; path = traced table last old c.walk_back.new.letters (Some c.walk_back.result) c.walk_back.auto.letters first letters }

pub returns-else-has : goal.returns-else-has
returns-else-has c =
    let table = c.args.choices.now in
    let old = c.args.letters.now in
    let last = c.args.last in
    let no = traced_no table last old (sym c.has.ensures ∙ c.if-has.false) in
    record { first = no.0; letters = no.1; path = traced table last old old None refl no.0 no.1 }
