use Rattle.std.proofs.Common.{◌+◌, arith}
use Rattle.pcm_chain.proofs.Counting.{need-near, piece-some, piece-reach}
use Rattle.pcm_chain.proofs.counts.RatedCounts.piece.Goals as goal

pub overflow_cast-past : goal.overflow_cast-past
overflow_cast-past c = omega (
  arith,
  c.need-past.ensures,
  c.args.self.bounded.few,
  need-near c.args.self.rate
      (c.args.self.counts.given + 256) c.args.self.near,
)

pub overflow_sub-more-2 : goal.overflow_sub-more-2
overflow_sub-more-2 c = omega (
  arith,
  c.need-past.ensures,
  piece-some c.args.self.rate c.args.self.counts c.args.self.near
      c.args.self.bounded,
)

pub returns-clause-some : goal.returns-clause-some
returns-clause-some c = omega (
  arith,
  c.requires.some,
  c.need-past.ensures,
  piece-some c.args.self.rate c.args.self.counts c.args.self.near
      c.args.self.bounded,
)

pub returns-clause-reach : goal.returns-clause-reach
returns-clause-reach c = piece-reach c.args.self.rate c.args.self.counts c.min-2.result c.args.self.near
    (omega (
      arith,
      c.min-2.ensures,
      c.need-past.ensures,
      piece-some c.args.self.rate c.args.self.counts c.args.self.near
          c.args.self.bounded,
    ))
