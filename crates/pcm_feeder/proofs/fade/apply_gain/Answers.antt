use Rattle.std.proofs.Common.{ap, sym, ◌∙◌}
use Rattle.pcm_format.specs.Layouts.{channels_of}
use Rattle.pcm_feeder.specs.Streams.{frames_of, interleaved}
use Rattle.pcm_feeder.proofs.Frames.{frames_of-channels, interleaved-frames_of}
use Rattle.pcm_feeder.proofs.AtGains.{unity-same}
use Rattle.pcm_feeder.proofs.fade.apply_gain.Goals as goal

pub returns-then-gain-eq65536-2 : goal.returns-then-gain-eq65536-2
returns-then-gain-eq65536-2 c =
    let n = channels_of c.args.layout in
    let samples = c.args.frames.now in
    sym (interleaved-frames_of n samples c.requires.whole)
    ∙ ap interleaved (sym (unity-same c.args.layout c.args.gain (frames_of n samples) c.if-gain-eq65536.true c.if-gain-eq65536-2.true
    (frames_of-channels n samples)))
