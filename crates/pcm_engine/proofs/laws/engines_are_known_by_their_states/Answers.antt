use Rattle.pcm_engine.proofs.KnownByState.{states-known}
use Rattle.pcm_engine.proofs.laws.engines_are_known_by_their_states.Goals as goal

pub returns : goal.returns
returns g c = states-known g.B.Feeder.kind g.B.Feeder.kept
