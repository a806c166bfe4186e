use Rattle.std.proofs.Common.{◌≡◌, ◌<◌, length, ℕ, List, ℤ, Some, sym, ap, ◌∙◌, subst, w32, SFits, rules}
use Rattle.std.proofs.lemmas.Int.{to_z-of_z}
use Rattle.arrays.specs.Lists.{list_items, with_last}
use Rattle.lines.specs.Lexers.{pending}
use Rattle.lines.proofs.NumberLists.{Reads, reads_more}
use Rattle.lines.proofs.list.all_numbers.Goals as goal

pub loop-word-preserved : goal.loop-word-preserved
loop-word-preserved c =
    let told = c.in-Some.ensures in
    let room : length (list_items c.loop-word.numbers) < 7 = search rules in
    let f : SFits w32 c.in_ok-number_of.field-0 = search rules in
    let z = to_z-of_z w32 _ f in
    let first = ap (λ (w : List ℕ). Some w) c.bytes.ensures ∙ told.bytes in
    let after : c.push.new.self ≡ with_last c.loop-word.numbers _ = search rules in
    let pushed = after ∙ ap (λ (x : ℤ). with_last c.loop-word.numbers x) z in
    let more = reads_more c.args.radix (pending c.args.words.now) c.loop-word.numbers (pending c.loop-word.words) c.loop-word.invariant c.in_ok-number_of.field-0 first c.in_ok-number_of.ensures room c.push.new.self pushed in
    subst (λ (left : List (List ℕ)). Reads c.args.radix (pending c.args.words.now) c.push.new.self left) (sym told.others) more
