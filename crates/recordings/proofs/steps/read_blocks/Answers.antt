use Rattle.std.proofs.Common.{Ok, sym, ap, ◌∙◌}
use Rattle.blocks.specs.Blocks.{content, next_place}
use Rattle.records.specs.Seen.{with_held}
use Rattle.recordings.proofs.BlockLists.{blocks_more}
use Rattle.recordings.proofs.steps.read_blocks.Goals as goal

pub loop-payload-preserved : goal.loop-payload-preserved
loop-payload-preserved g c =
    let l = c.loop-payload in
    let b = c.in_ok-payload.ensures in
    let is = c.in-Samples-default.is-0 in
    let t = c.in_ok-take_samples.ensures in (
      blocks_more c.args.recording.now l.place c.in_ok-payload.field-0.1 c.in-Samples-default.payload.now l.record.seen.held c.take_samples.new.record.seen.held
          (ap (λ k. Ok (content k)) (sym is) ∙ b.value) (b.next ∙ ap (λ k. next_place l.place (content k)) is) t.held ∙ l.invariant.0,
      t.others ∙ ap (λ s. with_held s c.take_samples.new.record.seen.held) l.invariant.1,
    )
