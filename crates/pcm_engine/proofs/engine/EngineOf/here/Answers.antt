use Rattle.std.proofs.Common.{◌<◌, ◌^◌, sym, subst}
use Rattle.pcm_desk.specs.declared.here.Here.{Here}
use Rattle.pcm_desk.specs.Here.{IsHere}
use Rattle.pcm_engine.proofs.InOrder.{few-mixed, here-within}
use Rattle.pcm_engine.proofs.engine.EngineOf.here.Goals as goal

pub returns-clause-within : goal.returns-clause-within
returns-clause-within g c =
    subst IsHere (sym c.here.ensures) (here-within g.B.Feeder.kept c.args.self.now c.requires.ready.limits c.requires.ready.bus)

pub returns-clause-mixed : goal.returns-clause-mixed
returns-clause-mixed g c = subst (λ (here : Here). here.mixed < 2 ^ 53) (sym c.here.ensures)
    (few-mixed g.B.Feeder.kept c.args.self.now c.requires.ready.bus)
