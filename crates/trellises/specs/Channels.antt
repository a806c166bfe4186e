-- What the fields of a channel say of its taps.
use Rattle.std.specs.Prelude.{◌≡◌, suc, ◌*◌, ◌^◌, ◌≤◌, length}
use Rattle.std.proofs.Common.{ap, sym, ◌∙◌, arith}
use Rattle.std.proofs.Math.Nat.{pow-succ'}
use Rattle.arrays.specs.Lists.{items_few}
use Rattle.model.specs.Trellises.{Lawful}
use Rattle.trellises.specs.Taps.{memory, taps_of, channel_meaning}
use Rattle.trellises.specs.declared.taps.channel.Channel.{Channel}
use Rattle.trellises.specs.Tapping.{taps_lawful}

module _ (c : Channel) where
  pub few_taps : length (taps_of c) ≤ 7
  few_taps = items_few c.taps

  -- a letter above a state has as many digits as there are taps
  pub top_is : c.letters * c.states ≡ c.letters ^ length (taps_of c)
  top_is =
      let n : suc (memory (taps_of c)) ≡ length (taps_of c) = omega arith in
      ap (λ x. c.letters * x) c.all ∙ sym (pow-succ' c.letters (memory (taps_of c))) ∙ ap (λ k. c.letters ^ k) n

  pub channel_lawful : Lawful (channel_meaning c)
  channel_lawful = taps_lawful c.letters (taps_of c) (omega arith) c.four c.some few_taps c.small (rw (← c.all) c.few)
