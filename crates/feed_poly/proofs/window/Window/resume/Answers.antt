-- As many frames as there are taps are all that the window has.
use Rattle.std.proofs.Common.{take, drop, ap, ◌∙◌, arith}
use Rattle.pcm_feeder.specs.Streams.{frames_of, moved_on}
use Rattle.feed_poly.specs.Window.{window_frames}
use Rattle.feed_poly.proofs.Copies.{taken-all}
use Rattle.feed_poly.proofs.window.Window.resume.Goals as goal

pub returns-clause-frames : goal.returns-clause-frames
returns-clause-frames c =
    let channels = c.args.channels in
    let taps = c.args.taps in
    let samples = c.args.samples.now in
    c.eat.ensures.frames
    ∙ ap (λ n. moved_on (window_frames c.clear.new.self) (drop 0 (take taps (frames_of n samples)))) c.clear.ensures.channels
    ∙ ap (λ tail. moved_on tail (drop 0 (take taps (frames_of channels samples)))) c.clear.ensures.frames
    ∙ taken-all channels taps samples (omega (arith, c.requires.limits.least)) c.requires.size
