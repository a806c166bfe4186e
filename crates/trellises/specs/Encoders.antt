-- What the fields of an encoder say of its generators.
use Rattle.std.specs.Prelude.{ℕ, ◌^◌, ◌<◌, ◌≤◌, length, bit_xor, unsigned_abs}
use Rattle.std.proofs.Common.{arith}
use Rattle.std.proofs.lemmas.List.{length-map}
use Rattle.arrays.specs.Lists.{list_items, items_few}
use Rattle.model.specs.Trellises.{Lawful}
use Rattle.trellises.specs.Codes.{code_word, generators_of, encoder_meaning}
use Rattle.trellises.specs.declared.code.encoder.Encoder.{Encoder}
use Rattle.trellises.specs.Coding.{label_small, code_lawful}

module _ (e : Encoder) where
  few : length (generators_of e) ≤ 4
  few = omega (arith, length-map (list_items e.generators) unsigned_abs, items_few e.generators)

  inverts : e.inversion < 2 ^ length (generators_of e)
  inverts = rw (length-map (list_items e.generators) unsigned_abs) e.inverts

  -- a label is small
  pub word_small : (r : ℕ) → bit_xor (code_word (generators_of e) r) e.inversion < 16
  word_small r = label_small e.inversion (generators_of e) r few inverts

  pub encoder_lawful : Lawful (encoder_meaning e)
  encoder_lawful = code_lawful e.constraint e.inversion (generators_of e) e.some e.short few inverts
