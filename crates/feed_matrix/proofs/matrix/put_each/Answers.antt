use Rattle.std.proofs.Common.{◌≡◌, ◌+◌, ◌-◌, ◌*◌, take, drop, length, ap, ◌∙◌, arith}
use borrow.Rule.Slice.PartMut.{put_mid}
use Rattle.pcm_format.specs.Layouts.{channels_of}
use Rattle.pcm_format.proofs.Streams.{channels_of-above}
use Rattle.pcm_feeder.specs.Layouts.{in_layout}
use Rattle.pcm_feeder.proofs.Mapped.{put-more, frames-there}
use Rattle.feed_matrix.proofs.Weights.{length-in_layout}
use Rattle.feed_matrix.proofs.matrix.put_each.Goals as goal

pub loop-k-preserved : goal.loop-k-preserved
loop-k-preserved c =
    let l = c.loop-k in
    let from = c.args.from in
    let to = c.args.to in
    let taken = channels_of from in
    let given = channels_of to in
    let input = c.args.input.now in
    let there = frames-there taken (length input) c.args.frames (channels_of-above from) c.requires.input in
    let long : l.k * given + given - l.k * given ≡ given = omega arith in
    let size : l.k * taken + taken - l.k * taken ≡ taken = omega arith in
    let is = rw c.channels-taken.ensures at c.put_frame.ensures in
    let frame-is = is ∙ ap (λ n. in_layout from to (take n (drop (l.k * taken) input))) size in
    rw c.channels-given.ensures (ap (λ n. put_mid (l.k * given) n l.output c.put_frame.new.output) long
    ∙ put-more (in_layout from to) taken given l.k input c.args.output.now l.output c.put_frame.new.output
    (λ frame fits. length-in_layout from to frame)
    (omega (arith, there, c.loop-k-test.true)) l.invariant frame-is (ap length frame-is ∙ length-in_layout from to (take taken (drop (l.k * taken) input))))
