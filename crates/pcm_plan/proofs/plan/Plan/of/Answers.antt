-- The stages of a plan have a rate that is a ratio.
use Rattle.pcm_rate.specs.Rates.{IsRatio}
use Rattle.pcm_plan.proofs.Fits.{ratio-in}
use Rattle.pcm_plan.proofs.plan.Plan.of.Goals as goal

pub reduce-requires-clause-src_above : goal.reduce-requires-clause-src_above
reduce-requires-clause-src_above c =
    let ratio : IsRatio c.rate_among-rate.result = rw (c.rate_among-rate.ensures, c.as_slice.ensures.value) (ratio-in _ c.requires) in
    ratio.src

pub reduce-requires-clause-dst_above : goal.reduce-requires-clause-dst_above
reduce-requires-clause-dst_above c =
    let ratio : IsRatio c.rate_among-rate.result = rw (c.rate_among-rate.ensures, c.as_slice.ensures.value) (ratio-in _ c.requires) in
    ratio.dst
