-- Nothing was given of the body yet.
use Rattle.feed_tests.proofs.conversions.is_right.Goals as goal

pub next_block-given-requires-clause-stands : goal.next_block-given-requires-clause-stands
next_block-given-requires-clause-stands g c = (0, c.in_ok-conversion.ensures.stands c.args.row.now.2.now)
