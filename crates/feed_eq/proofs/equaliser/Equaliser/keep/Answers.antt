-- The next pair is copied behind those before it.
use Rattle.std.proofs.Common.{◌≡◌, ◌<◌, ◌+◌, ◌-◌, ◌*◌, length, take, get_or, ap, ◌∙◌, arith}
use borrow.Rule.Slice.PartMut.{put_mid}
use Rattle.pcm_feeder.specs.LastFrames.{frames_kept}
use Rattle.pcm_feeder.specs.Streams.{frames_of}
use Rattle.feed_eq.specs.Pairs.{IsPair}
use Rattle.feed_eq.proofs.Equalising.{pair-frames, pair-samples}
use Rattle.feed_eq.proofs.Resuming.{pair_at, pair-within, copied-next}
use Rattle.feed_eq.proofs.equaliser.Equaliser.keep.Goals as goal

pub loop-at-preserved : goal.loop-at-preserved
loop-at-preserved c =
    let own = c.args.self.now in
    let n = own.channels in
    let at = c.loop-at.at in
    let old = c.loop-at.samples in
    let any = c.index-self-at.result in
    let last = get_or own.lasts at any in
    let piece = c.samples.result.now in
    let first = pair_at n at in
    let within : at < own.sections + 1 = omega (arith, c.loop-at-test.true) in
    let below : at < length own.lasts = omega (arith, within, own.few, own.room) in
    let is : IsPair n last = own.pairs at any below in
    let same : frames_of n piece ≡ frames_kept last = pair-frames n last piece is c.samples.ensures.value in
    let two : length piece ≡ 2 * n = c.samples.ensures.len ∙ pair-samples n last is in
    let long : first + 2 * n - first ≡ 2 * n = omega arith in
    ap (λ list. take (pair_at n (at + 1)) (put_mid first (first + 2 * n - first) old list)) c.copy_from_slice.ensures.after
    ∙ ap (λ k. take (pair_at n (at + 1)) (put_mid first k old piece)) long
    ∙ copied-next n at own.lasts any old piece below
    (pair-within n at own.sections (length old) within (c.loop-at.auto.samples ∙ c.requires))
    c.loop-at.invariant same two
