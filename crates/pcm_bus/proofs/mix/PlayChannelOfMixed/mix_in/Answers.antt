use Rattle.std.proofs.Common.{subst}
use Rattle.pcm_desk.specs.declared.device.Device.{Device}
use Rattle.pcm_play.specs.Channels.{AddsTo}
use Rattle.pcm_bus.proofs.mix.PlayChannelOfMixed.mix_in.Goals as goal

pub returns-clause-adds : goal.returns-clause-adds
returns-clause-adds g c =
    subst (λ (device : Device). AddsTo g.B.Feeder.kept c.args.tables.now device c.args.n c.args.gain c.args.sum.now c.refill.new.sum
    c.args.self.now) c.requires.due.own c.refill.ensures.sum
