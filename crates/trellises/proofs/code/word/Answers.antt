use Rattle.std.proofs.Common.{◌≡◌, ◌*◌, ◌%◌, ◌^◌, ◌∙◌, bit_or, unsigned_abs, fold, rules}
use Rattle.trellises.specs.Codes.{code_bit}
use Rattle.trellises.specs.Coding.{shifted_in}
use Rattle.trellises.proofs.code.word.Goals as goal

pub returns : goal.returns
returns c =
    let folded : c.fold.result ≡ fold (λ w g. bit_or (w * 2 ^ 1 % 2 ^ 32) (code_bit c.args.register (unsigned_abs g))) 0 c.args.generators.now = search rules in
    folded ∙ shifted_in c.args.register c.args.generators.now c.requires
