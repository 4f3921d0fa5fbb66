use Rattle.pcm_desk.specs.Device.{seen}
use Rattle.pcm_bus.proofs.Handovers.{made-nothing}
use Rattle.pcm_bus.proofs.bus.BusOf.new.Goals as goal

pub returns-clause-made : goal.returns-clause-made
returns-clause-made g c = made-nothing g.B.Feeder.kept (seen c.args.tables.now c.args.device) c.reset.new.self
    (c.reset.ensures.exactly c.args.tables.now)
