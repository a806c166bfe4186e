use Rattle.std.proofs.Common.{◌≡◌, ◌+◌, ◌*◌, ◌/◌, ◌%◌, ◌≤◌, length, get_or, drop, pos, ◌+ℤ◌, ◌*ℤ◌, nat_abs, sym, ap, ◌∙◌, mod-lt, arith, w32, SFits, rules}
use lib.IntN.{+ℤ_assoc}
use Rattle.std.proofs.lemmas.Int.{ints, to_z-of_z}
use Rattle.trellises.specs.Digits.{digits_of}
use Rattle.trellises.specs.Taps.{level, tapped}
use Rattle.trellises.specs.Channels.{few_taps}
use Rattle.trellises.specs.Tapping.{turn}
use Rattle.trellises.proofs.taps.channel.Channel.label.Goals as goal

pub nonzero_div-rest : goal.nonzero_div-rest
nonzero_div-rest c = (turn c.args.self.now.letters c.as_slice-tap-items.result.now c.loop-tap.tap-index c.loop-tap.place c.loop-tap.rest c.args.self.now.two c.loop-tap-test.true c.loop-tap.invariant.place c.loop-tap.invariant.below).some

pub term-sum-requires-clause-below : goal.term-sum-requires-clause-below
term-sum-requires-clause-below c = (turn c.args.self.now.letters c.as_slice-tap-items.result.now c.loop-tap.tap-index c.loop-tap.place c.loop-tap.rest c.args.self.now.two c.loop-tap-test.true c.loop-tap.invariant.place c.loop-tap.invariant.below).letter

pub nonzero_rem-rest : goal.nonzero_rem-rest
nonzero_rem-rest c = (turn c.args.self.now.letters c.as_slice-tap-items.result.now c.loop-tap.tap-index c.loop-tap.place c.loop-tap.rest c.args.self.now.two c.loop-tap-test.true c.loop-tap.invariant.place c.loop-tap.invariant.below).some

pub loop-tap-preserved : goal.loop-tap-preserved
loop-tap-preserved c =
    let letters = c.args.self.now.letters in
    let hs = c.as_slice-tap-items.result.now in
    let i = c.loop-tap.tap-index in
    let s = c.loop-tap.sum in
    let t = c.term-sum.result in
    let now = turn letters hs i c.loop-tap.place c.loop-tap.rest c.args.self.now.two c.loop-tap-test.true c.loop-tap.invariant.place c.loop-tap.invariant.below in
    let later = tapped letters (drop (i + 1) hs) (digits_of letters (length (drop (i + 1) hs)) (c.loop-tap.rest % (c.loop-tap.place / letters))) in
    let few : length hs ≤ 7 = rw c.as_slice-tap-items.ensures (few_taps c.args.self.now) in
    let size : nat_abs s ≤ 381 * i = simp c.loop-tap.sum-is at c.loop-tap.invariant.size in
    let tap_fits : SFits w32 (get_or hs i (pos 0)) = search rules in
    let term_fits : SFits w32 t = search rules in
    let sum_fits : SFits w32 (s +ℤ t) = omega (arith, ints) in
    let value : t ≡ get_or hs i (pos 0) *ℤ level letters (c.loop-tap.rest / (c.loop-tap.place / letters)) = simp to_z-of_z at c.term-sum.ensures.value in
    record {
      size = simp (c.loop-tap.sum-is, to_z-of_z) (omega (arith, ints));
      place = now.place_left;
      below = mod-lt c.loop-tap.rest now.some;
      total = simp (c.loop-tap.sum-is, to_z-of_z) (+ℤ_assoc s t later ∙ ap (λ z. s +ℤ z) (ap (λ z. z +ℤ later) value ∙ sym now.adds) ∙ simp c.loop-tap.sum-is at c.loop-tap.invariant.total);
    }
