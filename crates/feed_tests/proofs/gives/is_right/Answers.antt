-- Nothing was given yet.
use Rattle.feed_tests.proofs.gives.is_right.Goals as goal

pub give_pieces-requires-clause-gives : goal.give_pieces-requires-clause-gives
give_pieces-requires-clause-gives g c = c.reset.ensures.exactly c.none-tables.result
