-- The window moves on to the frames eaten.
use Rattle.pcm_feeder.specs.Streams.{frames_of}
use Rattle.feed_poly.specs.Window.{window_frames}
use Rattle.feed_poly.proofs.Windows.{eaten-on}
use Rattle.feed_poly.proofs.poly.PolyphaseInterpolator.eat.Goals as goal

pub returns-clause-tail : goal.returns-clause-tail
returns-clause-tail c before was =
    let poly = c.args.self.now in
    eaten-on before (window_frames poly.window) (window_frames c.eat.new.self) (frames_of poly.window.channels c.args.input.now) poly.passed
    c.args.eaten c.requires.order was c.eat.ensures.frames
