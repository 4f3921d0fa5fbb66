use Rattle.std.proofs.Common.{◌+◌, arith}
use Rattle.pcm_chain.proofs.Counting.{eaten-near, stands-more}
use Rattle.pcm_chain.proofs.counts.RatedCounts.after.Goals as goal

pub overflow_add-all : goal.overflow_add-all
overflow_add-all c = omega (arith, c.requires.eaten, eaten-near c.args.self.rate c.args.self.counts c.args.self.near c.args.self.bounded)

pub returns-clause-stands : goal.returns-clause-stands
returns-clause-stands c eaten given stands =
    c.told.ensures.stands (eaten + c.args.advance.eaten) (given + c.args.advance.given)
    (stands-more c.args.self.rate c.args.self.counts eaten given c.args.advance.eaten c.args.advance.given stands)
