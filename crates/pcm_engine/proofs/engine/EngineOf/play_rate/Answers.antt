use Rattle.std.proofs.Common.{sym, subst, arith}
use Rattle.std.proofs.lemmas.Grind.{common_steps}
use Rattle.pcm_chain.specs.Counts.{IsNear}
use Rattle.pcm_chain.proofs.Counting.{rate-near}
use Rattle.pcm_engine.proofs.engine.EngineOf.play_rate.Goals as goal

pub returns : goal.returns
returns g c = record { is = grind (arith, common_steps); near = subst IsNear (sym c.rate.ensures.value) (rate-near _ c.rate.ensures.fits) }
