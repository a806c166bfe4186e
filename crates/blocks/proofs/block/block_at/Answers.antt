use Rattle.std.proofs.Common.{◌≡◌, Ok, Result, sym, arith, rules}
use Rattle.model.specs.Refusals.{Refused}
use Rattle.blocks.specs.Blocks.{Content, content, block_at}
use Rattle.blocks.proofs.Accepting.{accepts}
use Rattle.blocks.proofs.Facts.{block_within}
use Rattle.blocks.proofs.block.block_at.Goals as goal

pub returns-in_err-block-clause-accepts : goal.returns-in_err-block-clause-accepts
returns-in_err-block-clause-accepts c = accepts _ _ _ _ (search rules)

pub returns-clause-within : goal.returns-clause-within
returns-clause-within c =
    let is : ◌≡◌ {A = Result Content Refused} (Ok (content c.in_ok-block.block)) (block_at c.args.recording.now c.args.place c.args.is_first) = search rules in
    omega (arith, c.end_of.ensures, block_within c.args.recording.now c.args.place c.args.is_first _ (sym is))

pub returns-clause-accepts : goal.returns-clause-accepts
returns-clause-accepts c = accepts _ _ _ _ (search rules)
