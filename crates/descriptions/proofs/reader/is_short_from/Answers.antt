use Rattle.std.proofs.Common.{ℕ, leb, sym, ap, ◌∙◌, length-drop}
use Rattle.descriptions.proofs.reader.is_short_from.Goals as goal

pub returns : goal.returns
returns c = ap (λ (n : ℕ). leb n 65535) (c.saturating_sub.ensures ∙ sym (length-drop c.args.from c.args.bytes.now))
