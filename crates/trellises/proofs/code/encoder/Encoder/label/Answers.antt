use Rattle.std.proofs.Common.{◌≡◌, arith, w16, rules}
use Rattle.std.proofs.lemmas.Int.{ints, to_z_pos}
use Rattle.trellises.specs.Codes.{code_word, generators_of}
use Rattle.trellises.specs.Encoders.{word_small}
use Rattle.trellises.proofs.code.encoder.Encoder.label.Goals as goal

pub overflow_cast-result : goal.overflow_cast-result
overflow_cast-result c =
    let e = c.args.self.now in
    let made : c.word.result ≡ code_word (generators_of e) c.args.register = search rules in
    rw made (let small = word_small e c.args.register in omega (arith, ints))

pub returns : goal.returns
returns c =
    let e = c.args.self.now in
    let made : c.word.result ≡ code_word (generators_of e) c.args.register = search rules in
    rw made (let small = word_small e c.args.register in to_z_pos w16 _ (omega arith))
