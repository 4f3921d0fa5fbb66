use Rattle.std.proofs.Common.{◌≡◌, ◌≤◌, ◌+◌, ◌-◌, ◌*◌, length, take, drop, ap, ◌∙◌, arith}
use Rattle.std.proofs.Math.Nat.{mul-le-mul_right}
use Rattle.std.proofs.lemmas.List.{length-take-le, length-drop}
use borrow.Rule.Slice.PartMut.{put_mid}
use Rattle.pcm_feeder.proofs.Frames.{frame_in}
use Rattle.pcm_feeder.specs.Gains.{at_gains}
use Rattle.pcm_feeder.proofs.AtGains.{length-at_gains}
use Rattle.pcm_feeder.proofs.Mapped.{put-more, frames-there}
use Rattle.feed_volume.proofs.volume.put_at_gains.Goals as goal

pub loop-k-preserved : goal.loop-k-preserved
loop-k-preserved c =
    let gains = c.args.gains.now in
    let input = c.args.input.now in
    let n = length gains in
    let k = c.loop-k.k in
    let width : k * n + n - k * n ≡ n = omega arith in
    let next : k + 1 ≤ c.args.frames = omega (arith, c.loop-k-test.true) in
    let fits : (k + 1) * n ≤ length input = omega (arith, c.requires.source, mul-le-mul_right n next) in
    let is = c.put_frame.ensures ∙ ap (λ w. at_gains gains (take w (drop (k * n) input))) width in
    let long = ap length is ∙ length-at_gains gains (frame_in n input k)
    (length-take-le n (drop (k * n) input) (omega (arith, length-drop (k * n) input))) in
    ap (λ w. put_mid (k * n) w c.loop-k.output c.put_frame.new.output) width
    ∙ put-more (at_gains gains) n n k input c.args.output.now c.loop-k.output c.put_frame.new.output (length-at_gains gains)
    (frames-there n (length input) (k + 1) c.requires.some fits) c.loop-k.invariant is long
