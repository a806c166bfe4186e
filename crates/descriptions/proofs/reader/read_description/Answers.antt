use Rattle.std.proofs.Common.{drop, sym, ap, ◌∙◌}
use Rattle.model.specs.Refusals.{outcome}
use Rattle.descriptions.proofs.Describing.{accepted_describes, described_accepted, any_order, outcome_ok}
use Rattle.descriptions.proofs.reader.read_description.Goals as goal

pub returns : goal.returns
returns c =
    let text = drop c.args.from c.args.bytes.now in
    let is = c.read.ensures in
    record {
      value = is;
      accepts = λ s. (λ e. accepted_describes c.args.from text s (sym is ∙ ap outcome e), λ d. outcome_ok c.read.result s (is ∙ described_accepted c.args.from text s d));
      order = any_order text;
    }
