use Rattle.pcm_engine.proofs.Saving.{ready-fitted}
use Rattle.pcm_engine.proofs.engine.EngineOf.state_size.Goals as goal

pub parent_size-requires : goal.parent_size-requires
parent_size-requires g c = ready-fitted g.B.Feeder.kind g.B.Feeder.kept c.args.self.now c.requires
