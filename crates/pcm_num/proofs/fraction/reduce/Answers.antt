use Rattle.pcm_num.proofs.Fractions.{HasCommonFactor-div, IsGcd-div, above_zero-div}
use Rattle.pcm_num.proofs.fraction.reduce.Goals as goal

pub returns-clause-same : goal.returns-clause-same
returns-clause-same c = HasCommonFactor-div c.args.src c.args.dst c.gcd-divisor.result c.gcd-divisor.ensures.divisor

pub returns-clause-lowest : goal.returns-clause-lowest
returns-clause-lowest c = IsGcd-div c.args.src c.args.dst c.gcd-divisor.result c.gcd-divisor.ensures.above c.gcd-divisor.ensures.divisor

pub returns-clause-src_above : goal.returns-clause-src_above
returns-clause-src_above c = above_zero-div c.args.src c.gcd-divisor.result c.requires.src_above c.gcd-divisor.ensures.divisor.0

pub returns-clause-dst_above : goal.returns-clause-dst_above
returns-clause-dst_above c = above_zero-div c.args.dst c.gcd-divisor.result c.requires.dst_above c.gcd-divisor.ensures.divisor.1
