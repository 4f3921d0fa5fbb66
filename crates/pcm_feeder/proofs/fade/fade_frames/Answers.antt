use Rattle.std.proofs.Common.{◌≡◌, ◌≤◌, ◌+◌, ◌-◌, ◌*◌, ◌/◌, length, take, drop, ap, ◌∙◌, arith}
use Rattle.std.proofs.Math.Nat.{div-add-mod', mul-le-mul_right}
use Rattle.std.proofs.lemmas.List.{length-take-le, length-drop}
use borrow.Rule.Slice.PartMut.{put_mid}
use Rattle.pcm_feeder.proofs.Frames.{frame_in}
use Rattle.pcm_feeder.proofs.Mapped.{put-more}
use Rattle.pcm_feeder.specs.Gains.{at_gains}
use Rattle.pcm_feeder.proofs.AtGains.{length-at_gains}
use Rattle.pcm_feeder.proofs.Fading.{faded-all, rest-stays}
use Rattle.pcm_feeder.proofs.fade.fade_frames.Goals as goal

pub loop-k-preserved : goal.loop-k-preserved
loop-k-preserved c =
    let gains = c.args.gains.now in
    let input = c.args.frames.now in
    let n = length gains in
    let k = c.loop-k.k in
    let width : k * n + n - k * n ≡ n = omega arith in
    let within : k + 1 ≤ length input / n = omega (arith, c.loop-k-test.true) in
    let same = rest-stays gains k input c.loop-k.frames within c.loop-k.invariant in
    let is = c.fade_frame.ensures ∙ ap (λ w. at_gains gains (take w (drop (k * n) c.loop-k.frames))) width
    ∙ ap (λ rest. at_gains gains (take n rest)) same in
    let long = ap length is ∙ length-at_gains gains (frame_in n input k)
    (length-take-le n (drop (k * n) input) (omega
    (arith, length-drop (k * n) input, mul-le-mul_right n within, div-add-mod' (length input) n))) in
    ap (λ w. put_mid (k * n) w c.loop-k.frames c.fade_frame.new.frame) width
    ∙ put-more (at_gains gains) n n k input input c.loop-k.frames c.fade_frame.new.frame (length-at_gains gains) within c.loop-k.invariant
    is long

pub returns : goal.returns
returns c =
    c.loop-k.invariant ∙ faded-all c.args.gains.now c.loop-k.k c.args.frames.now c.requires.some c.requires.whole c.loop-k-test.false
