use Rattle.std.proofs.Common.{arith}
use Rattle.pcm_chain.proofs.Telling.{pasts-most}
use Rattle.pcm_chain.proofs.past.plan_past.Goals as goal

pub returns-clause-most : goal.returns-clause-most
returns-clause-most c =
    let fits = c.stages.ensures.fits in
    rw (c.past_sizes.ensures, c.stages.ensures.value) (omega (arith, fits.count, pasts-most c.args.plan.now.stages fits.specs))
