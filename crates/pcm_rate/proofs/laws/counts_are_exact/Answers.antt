use Rattle.pcm_rate.proofs.Counts.{can-greatest, counts-periodic, counts-reduced}
use Rattle.pcm_rate.proofs.laws.counts_are_exact.Goals as goal

pub returns-clause-greatest : goal.returns-clause-greatest
returns-clause-greatest c = can-greatest

pub returns-clause-periodic : goal.returns-clause-periodic
returns-clause-periodic c = counts-periodic

pub returns-clause-reduced : goal.returns-clause-reduced
returns-clause-reduced c = counts-reduced
