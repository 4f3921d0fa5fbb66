use Rattle.std.proofs.Common.{rules, sym, subst}
use Rattle.pcm_chain.specs.Counts.{IsNear}
use Rattle.pcm_chain.proofs.Counting.{rate-near}
use Rattle.pcm_engine.proofs.engine.EngineOf.parent_rate.Goals as goal

pub returns : goal.returns
returns g c = record { is = search rules; near = subst IsNear (sym c.rate.ensures.value) (rate-near _ c.rate.ensures.fits) }
