use Rattle.std.proofs.Common.{Some, sym, ap, ◌∙◌}
use Rattle.lines.specs.declared.lexer.Word.{Word}
use Rattle.lines.specs.Lexers.{word_bytes}
use Rattle.lines.proofs.Names.{name_first, first_number_at}
use Rattle.lines.proofs.list.next_number.Goals as goal

pub returns-in-Name : goal.returns-in-Name
returns-in-Name c =
    let told = c.in_ok-bytes.ensures in
    let none = name_first c.args.words.now c.in_ok-bytes.field-0 told.word told.bytes c.in-Name.field-0 c.in-Name.field-1 c.args.radix c.in-Name.is in
    let first = ap (λ (w : Word). Some (word_bytes w)) (sym c.in-Name.is) ∙ told.bytes in
    record { value = none ∙ first_number_at c.args.radix _ first; others = told.others }
