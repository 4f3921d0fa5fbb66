use Rattle.pcm_chain.proofs.Counting.{rate-near}
use Rattle.pcm_chain.proofs.chain.ChainOf.rated_counts.Goals as goal

pub invariant_of-result : goal.invariant_of-result
invariant_of-result g c = rw c.rate.ensures.value (record {
  near = rate-near c.args.self.now.plan c.rate.ensures.fits;
  bounded = c.args.self.now.bounded;
})
