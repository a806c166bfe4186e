use Rattle.std.proofs.Common.{vec_items, codes}
use Rattle.std.specs.Fmt.{signed_decimal}
use Rattle.descriptions.specs.Channels.{channel_meaning}
use Rattle.listings.proofs.Growing.{line_or, listed}
use Rattle.listings.proofs.listing.setup_text.Goals as goal

pub returns : goal.returns
returns c =
    let start = line_or signed_decimal (vec_items c.put_measure.new.out) (codes "start ") (codes "any") (vec_items c.put_line_or.new.out) c.args.setup.now.start c.in_ok-put_line_or.ensures in
    let end = line_or signed_decimal (vec_items c.put_line_or.new.out) (codes "end ") (codes "any") (vec_items c.put_line_or-2.new.out) c.args.setup.now.end c.in_ok-put_line_or-2.ensures in
    listed c.args.setup.now (channel_meaning c.new-channel.result) (vec_items c.new-out.result) (vec_items c.put_sizes.new.out) (vec_items c.put_measure.new.out) (vec_items c.put_line_or.new.out)
    (vec_items c.put_line_or-2.new.out) (vec_items c.put_states.new.out) c.new-channel.ensures c.new-out.ensures.items c.in_ok-put_sizes.ensures c.in_ok-put_measure.ensures
    start end c.in_ok-put_states.ensures
