-- The rate that was found once is that of the stages, and a ratio.
use Rattle.pcm_plan.proofs.Fits.{ratio-in}
use Rattle.pcm_plan.proofs.plan.Plan.rate.Goals as goal

pub returns-clause-ratio : goal.returns-clause-ratio
returns-clause-ratio c = rw (c.self.invariant.rate_is) (ratio-in _ c.self.invariant.fits)
