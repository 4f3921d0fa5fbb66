use Rattle.std.proofs.Common.{◌≡◌, ◌+◌, ◌-◌, ◌*◌, ◌≤◌, [], ◌∷◌, length, take, drop, ◌∙◌, arith}
use Rattle.std.proofs.Math.Nat.{mul-le-mul_right}
use Rattle.pcm_feeder.specs.Streams.{moved_on}
use Rattle.feed_poly.specs.Window.{window_frames}
use Rattle.feed_poly.proofs.Windows.{eaten-more}
use Rattle.feed_poly.proofs.window.Window.eat.Goals as goal

pub loop-k-preserved : goal.loop-k-preserved
loop-k-preserved c =
    let window = c.args.self.now in
    let input = c.args.input.now in
    let k = c.loop-k.k in
    let channels = c.loop-k.invariant.channels in
    let next : k + 1 ≤ c.args.to = omega (arith, c.loop-k-test.true) in
    let all : c.args.to * window.channels ≤ length input = rw (← c.requires.channels) c.requires.there in
    let there : (k + 1) * window.channels ≤ length input = omega (arith, mul-le-mul_right window.channels next, all) in
    let after : window_frames c.push.new.self ≡ moved_on (window_frames c.loop-k.self)
    (take (k * window.channels + window.channels - k * window.channels) (drop (k * window.channels) input)
    ∷ []) = rw (← c.requires.channels) c.push.ensures.frames in
    record {
      frames = eaten-more (window_frames window) (window_frames c.loop-k.self) (window_frames c.push.new.self) window.channels c.args.from k
          input (omega (arith, window.limits.least)) (omega (arith, c.loop-k.auto.k)) there
          c.loop-k.invariant.frames after;
      channels = c.push.ensures.channels ∙ channels;
      taps = c.push.ensures.taps ∙ c.loop-k.invariant.taps;
    }
