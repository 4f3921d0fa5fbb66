-- Section after section is gone through, and the last frames move on.
use Rattle.std.proofs.Common.{◌≡◌, ◌<◌, ◌+◌, ◌*◌, ◌/◌, ◌%◌, ◌++◌, length, take, drop, get_or, set, pos, sym, ap, ◌∙◌, subst, arith}
use Rattle.std.proofs.lemmas.List.{length-set, get_or-set_other}
use Rattle.std.proofs.lemmas.List.Elements.{All-set}
use Rattle.pcm_feeder.specs.declared.section.Section.{Section}
use Rattle.pcm_feeder.specs.LastFrames.{frames_kept}
use Rattle.pcm_feeder.specs.Sections.{section_on, sections_on, past_behind}
use Rattle.pcm_feeder.specs.Streams.{frames_of, interleaved}
use Rattle.pcm_feeder.proofs.Frames.{interleaved-frames_of}
use Rattle.feed_eq.specs.Equalisers.{tail_of}
use Rattle.feed_eq.specs.Pairs.{IsPair, pair_frames}
use Rattle.feed_eq.proofs.Equalising.{goes-on, eaten-all, none-left, all-kept, at-any, pair-on, pair-frames, pair-samples, window}
use Rattle.feed_eq.proofs.Turned.{frames-made}
use Rattle.feed_eq.proofs.equaliser.Equaliser.pass.Goals as goal

pub loop-at-preserved : goal.loop-at-preserved
loop-at-preserved c =
    let n = c.args.self.now.channels in
    let sections = c.args.sections.now in
    let at = c.loop-at.at in
    let lasts = c.loop-at.lasts in
    let samples = c.loop-at.samples in
    let d = c.index-lasts-at-in-loop-at.result in
    let new = c.eat.new.self in
    let none : Section = record { shift = 0; b0 = pos 0; b1 = pos 0; b2 = pos 0; a1 = pos 0; a2 = pos 0 } in
    let section = get_or sections at none in
    let above : 0 < n = omega (arith, c.args.self.now.limits.least) in
    let below : at < length sections = c.loop-at-test.true in
    let room : length sections < length lasts = omega (arith, c.loop-at.invariant.room, c.args.self.now.few, c.requires.count) in
    let there : at < length lasts = omega (arith, below, room) in
    let next : at + 1 < length lasts = omega (arith, below, room) in
    let pairs = c.loop-at.invariant.pairs in
    let first = pairs at d there in
    let all : length c.args.samples.now / n ≡ length samples / n = ap (λ k. k / n) (sym c.loop-at.auto.samples) in
    let eaten = eaten-all n (length c.args.samples.now / n) (get_or lasts at d) new samples first all c.eat.ensures.kept in
    let input = pair-frames n (get_or lasts at c.index-lasts-at.result) c.samples.result.now (pairs at c.index-lasts-at.result there)
    c.samples.ensures.value
    ∙ ap frames_kept (at-any lasts at c.index-lasts-at.result d there) in
    let e = c.index-lasts-at-in-loop-at-2.result in
    let behind : get_or (set lasts at new) (at + 1) e ≡ get_or lasts (at + 1) e = get_or-set_other lasts at (at + 1) new e
    (λ same. absurd (omega (arith, same))) in
    let output : frames_of n c.samples-output.result.now ≡ frames_kept (get_or lasts (at + 1) d) =
    pair-frames n (get_or lasts (at + 1) e) c.samples-output.result.now (pairs (at + 1) e next)
    (rw behind at c.samples-output.ensures.value)
    ∙ ap frames_kept (at-any lasts (at + 1) e d next) in
    let two : length c.samples-output.result.now ≡ 2 * n = c.samples-output.ensures.len
    ∙ rw behind (pair-samples n (get_or lasts (at + 1) e) (pairs (at + 1) e next)) in
    let even : length samples % n ≡ 0 = ap (λ k. k % n) c.loop-at.auto.samples ∙ c.requires.whole_frames in
    let made = frames-made n section c.samples.result.now c.samples-output.result.now samples c.pass.new.samples above two
    c.pass.ensures.samples in
    let goes = goes-on n at sections lasts new d none (frames_of n samples) (frames_of n c.pass.new.samples) above below room pairs
    (made ∙ ap (λ list. section_on n section list (frames_of n c.samples-output.result.now) (frames_of n samples)) input
    ∙ ap (λ list. section_on n section (frames_kept (get_or lasts at d)) list (frames_of n samples)) output)
    eaten in
    record {
      room = length-set lasts at new ∙ c.loop-at.invariant.room;
      pairs = All-set (IsPair n) lasts at new (pair-on n (get_or lasts at d) new first c.eat.ensures.frames c.eat.ensures.channels) pairs;
      left = sym goes.left ∙ c.loop-at.invariant.left;
      kept = sym goes.kept ∙ c.loop-at.invariant.kept;
    }

pub returns-clause-kept : goal.returns-clause-kept
returns-clause-kept c =
    let n = c.args.self.now.channels in
    let sections = c.args.sections.now in
    let lasts = c.loop-at.lasts in
    let samples = c.loop-at.samples in
    let d = c.index-lasts-sections.result in
    let new = c.eat-2.new.self in
    let whole = past_behind n sections (tail_of c.args.self.now) (frames_of n c.args.samples.now) in
    let end : c.loop-at.at ≡ length sections = omega (arith, c.loop-at-test.false, c.loop-at.auto.at-end) in
    let room : length sections < length lasts = omega (arith, c.loop-at.invariant.room, c.args.self.now.few, c.requires.count) in
    let all : length c.args.samples.now / n ≡ length samples / n = ap (λ k. k / n) (sym c.loop-at.auto.samples) in
    let eaten = eaten-all n (length c.args.samples.now / n) (get_or lasts (length sections) d) new samples
    (c.loop-at.invariant.pairs (length sections) d room) all c.eat-2.ensures.kept in
    ap (λ k. pair_frames (take (k + 1) (set lasts (length sections) new))) (sym c.requires.count)
    ∙ all-kept n sections lasts new d (frames_of n samples) room eaten
    ∙ subst (λ at. pair_frames (take at lasts)
    ++ past_behind n (drop at sections) (pair_frames (window (length sections) at lasts)) (frames_of n samples) ≡ whole) end
    c.loop-at.invariant.kept

pub returns-clause-made : goal.returns-clause-made
returns-clause-made c =
    let n = c.args.self.now.channels in
    let sections = c.args.sections.now in
    let lasts = c.loop-at.lasts in
    let samples = c.loop-at.samples in
    let whole = sections_on n sections (tail_of c.args.self.now) (frames_of n c.args.samples.now) in
    let end : c.loop-at.at ≡ length sections = omega (arith, c.loop-at-test.false, c.loop-at.auto.at-end) in
    let even : length samples % n ≡ 0 = ap (λ k. k % n) c.loop-at.auto.samples ∙ c.requires.whole_frames in
    let left = subst (λ at. sections_on n (drop at sections) (pair_frames (window (length sections) at lasts)) (frames_of n samples) ≡
    whole) end c.loop-at.invariant.left in
    record {
      len = c.loop-at.auto.samples;
      samples = sym (interleaved-frames_of n samples even)
          ∙ ap interleaved (sym (none-left n sections (pair_frames (window (length sections) (length sections) lasts))
          (frames_of n samples)) ∙ left);
    }
