-- The fraction in lowest terms.
use Rattle.pcm_feeder.proofs.Paces.{fraction-is}
use Rattle.pcm_feeder.proofs.pace.Pace.new.Goals as goal

pub invariant_of-result-clause-fraction : goal.invariant_of-result-clause-fraction
invariant_of-result-clause-fraction c =
    let low = c.reduce-low_src.result in
    fraction-is (record { src = c.args.src; dst = c.args.dst; lookahead = c.args.lookahead }) low.0 low.1
    (record { source = c.requires.source; target = c.requires.target; lookahead = c.requires.lookahead })
    c.reduce-low_src.ensures.same c.reduce-low_src.ensures.lowest c.reduce-low_src.ensures.dst_above
