use Rattle.std.proofs.Common.{subst}
use Rattle.pcm_desk.specs.declared.device.Device.{Device}
use Rattle.pcm_desk.specs.Device.{seen}
use Rattle.pcm_vchan.specs.Captures.{Captures}
use Rattle.pcm_vchan.proofs.recorder.CaptureVisitRecordChannelOf.visit.Goals as goal

pub returns : goal.returns
returns g c =
    let capture = c.args.self.now in
    subst (λ (device : Device). Captures g.B.Feeder.kind g.B.Feeder.kept (seen capture.tables.now device) capture.n capture.captured.now
    c.args.channel.now c.capture.new.self) c.requires.due.own
    (record { device_same = c.capture.ensures.device; book = c.capture.ensures.book; moves = c.capture.ensures.moves })
