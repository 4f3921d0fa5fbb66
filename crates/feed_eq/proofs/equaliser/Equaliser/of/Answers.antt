-- The next pair has the next samples.
use Rattle.std.proofs.Common.{◌≡◌, ◌<◌, ◌+◌, ◌-◌, ◌*◌, length, take, drop, ap, ◌∙◌, arith}
use Rattle.std.proofs.lemmas.List.{length-set}
use Rattle.std.proofs.lemmas.List.Elements.{All-set}
use Rattle.pcm_feeder.specs.LastFrames.{frames_kept}
use Rattle.pcm_feeder.specs.Streams.{frames_of}
use Rattle.feed_eq.specs.Pairs.{IsPair}
use Rattle.feed_eq.proofs.Resuming.{pair_at, pair-within, taken-next}
use Rattle.feed_eq.proofs.equaliser.Equaliser.of.Goals as goal

pub loop-at-preserved : goal.loop-at-preserved
loop-at-preserved c =
    let n = c.args.channels in
    let at = c.loop-at.at in
    let lasts = c.loop-at.lasts in
    let new = c.of.result in
    let samples = c.args.samples.now in
    let first = pair_at n at in
    let above : 0 < n = omega (arith, c.requires.can.limits.least) in
    let below : at < length lasts = omega (arith, c.loop-at-test.true, c.requires.can.few, c.loop-at.invariant.room) in
    let long : first + 2 * n - first ≡ 2 * n = omega arith in
    let is : frames_kept new ≡ frames_of n (take (2 * n) (drop first samples)) =
    c.of.ensures.same ∙ ap (λ k. frames_of n (take k (drop first samples))) long in
    record {
      room = length-set lasts at new ∙ c.loop-at.invariant.room;
      pairs = All-set (IsPair n) lasts at new (record { two = c.of.ensures.frames; width = c.of.ensures.channels })
          c.loop-at.invariant.pairs;
      same = taken-next n at lasts new samples above below
          (pair-within n at c.args.sections (length samples) c.loop-at-test.true c.requires.size)
          c.loop-at.invariant.same is;
    }
