use Rattle.std.proofs.Common.{rules}
use Rattle.pcm_num.proofs.Limits.{FitsBits-from_signed, FitsBits-floor_div}
use Rattle.pcm_format.proofs.depth.at_depth.Goals as goal

pub returns-clause-value : goal.returns-clause-value
returns-clause-value c = search rules

pub returns-clause-range : goal.returns-clause-range
returns-clause-range c =
    rw (returns-clause-value c) (FitsBits-floor_div c.args.bits c.args.sample c.requires.least c.requires.most
    (FitsBits-from_signed c.args.sample c.ranges.sample))
