use Rattle.std.proofs.Common.{◌≡◌, ◌*◌, ◌^◌, ◌<◌, ◌≤◌, length, drop, ◌+ℤ◌, nat_abs}
use Rattle.trellises.specs.Digits.{digits_of}
use Rattle.trellises.specs.Taps.{tapped}
use Rattle.trellises.proofs.taps.channel.Channel.label.Given as goal

abbrev pub invariant-loop-tap : goal.invariant-loop-tap
invariant-loop-tap l =
    let letters = l.self.letters in
    let left = drop l.tap-index l.tap-items in
    record {
      size : nat_abs l.sum ≤ 381 * l.tap-index;
      place : l.place ≡ letters ^ length left;
      below : l.rest < l.place;
      total : l.sum +ℤ tapped letters left (digits_of letters (length left) l.rest) ≡ tapped letters l.tap-items (digits_of letters (length l.tap-items) l.register);
    }
