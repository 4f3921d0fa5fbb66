use Rattle.std.proofs.Common.{◌+◌, arith}
use Rattle.pcm_rate.proofs.Counts.{need_grows}
use Rattle.pcm_chain.proofs.Counting.{need-near, fed-near, eaten-near}
use Rattle.pcm_chain.proofs.counts.RatedCounts.advance.Goals as goal

pub overflow_cast-needed : goal.overflow_cast-needed
overflow_cast-needed c =
    omega (
      arith,
      c.need-needed.ensures,
      c.args.self.bounded.few,
      c.requires.few,
      need-near c.args.self.rate
          (c.args.self.counts.given + c.args.want) c.args.self.near,
    )

pub overflow_add-self-2 : goal.overflow_add-self-2
overflow_add-self-2 c =
    omega (
      arith,
      c.min-eaten.ensures,
      c.saturating_sub.ensures,
      c.need-needed.ensures,
      c.fed-fed.ensures,
      c.requires.reach,
      c.requires.few,
      eaten-near c.args.self.rate c.args.self.counts c.args.self.near c.args.self.bounded,
    )

pub overflow_cast-used : goal.overflow_cast-used
overflow_cast-used c =
    omega (
      arith,
      c.need-used.ensures,
      c.gives-given.ensures,
      c.args.self.bounded.few,
      c.requires.few,
      need-near c.args.self.rate
          (c.args.self.counts.given + c.gives-given.result) c.args.self.near,
    )

pub overflow_add-fed : goal.overflow_add-fed
overflow_add-fed c =
    omega (
      arith,
      c.min-eaten.ensures,
      c.saturating_sub.ensures,
      c.need-needed.ensures,
      c.fed-fed.ensures,
      c.requires.reach,
      c.requires.few,
      fed-near c.args.self.rate c.args.self.counts c.args.self.near c.args.self.bounded,
    )

pub returns-clause-block : goal.returns-clause-block
returns-clause-block c =
    let used = need_grows c.args.self.rate (c.args.self.counts.given + c.gives-given.result) (c.args.self.counts.given + c.args.want)
    c.args.self.near.ratio.dst (omega (arith, c.gives-given.ensures)) in
    omega (
      arith,
      c.min-eaten.ensures,
      c.saturating_sub.ensures,
      c.saturating_sub-2.ensures,
      c.need-needed.ensures,
      c.need-used.ensures,
      c.fed-fed.ensures,
      c.requires.reach,
      used,
    )
