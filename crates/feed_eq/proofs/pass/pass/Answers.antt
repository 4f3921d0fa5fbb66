-- Channels are turned two by two, and the last one by itself.
use Rattle.std.proofs.Common.{◌≡◌, ◌<◌, ◌≤◌, ◌+◌, ◌*◌, ◌/◌, ◌%◌, ◌++◌, ℕ, ℤ, List, length, sym, ◌∙◌, subst, arith}
use Rattle.pcm_feeder.specs.declared.section.Section.{Section}
use Rattle.feed_eq.specs.Lanes.{IsPassed, PutsFrames}
use Rattle.feed_eq.proofs.Turned.{made_by, is-passed, lane-front, holds-on, puts-on, all-turned}
use Rattle.feed_eq.proofs.pass.pass.Goals as goal

-- the outputs that the section makes, whatever channels are turned
passed : (section : Section) (c : ℕ) (input output old samples : List ℤ) → 0 < c → length input ≡ 2 * c → length output ≡ 2 * c
    → length old % c ≡ 0 → length samples ≡ length old
    → IsPassed section c (length samples / c) (input ++ old) (output ++ made_by section c input output old)
passed section c input output old samples above first second even same =
    subst (λ n. IsPassed section c (n / c) (input ++ old) (output ++ made_by section c input output old)) (sym same)
    (is-passed section c input output old above first second even)

pub loop-channel-preserved : goal.loop-channel-preserved
loop-channel-preserved c =
    let n = c.args.channels in
    let channel = c.loop-channel.channel in
    let section = c.args.section in
    let input = c.args.input.now in
    let output = c.args.output.now in
    let old = c.args.samples.now in
    let samples = c.loop-channel.samples in
    let made = made_by section n input output old in
    let puts = c.loop-channel.invariant.puts in
    let fits : channel + 2 ≤ n = c.loop-channel-test.true in
    record {
      within = fits;
      puts = puts-on n channel (channel + 2) (output ++ made) old samples c.pass_two.new.samples (omega arith) fits
          c.loop-channel.auto.samples puts
          (c.pass_two.ensures.puts (input ++ old) (output ++ made)
          (passed section n input output old samples c.requires.whole_frames.some c.requires.input c.requires.output
          c.requires.whole_frames.whole c.loop-channel.auto.samples)
          (lane-front section n input output old made channel c.of-left.result (omega (arith, fits)) c.requires.input c.requires.output
          c.of-left.ensures)
          (lane-front section n input output old made (channel + 1) c.of-right.result (omega (arith, fits)) c.requires.input
          c.requires.output c.of-right.ensures)
          (holds-on n channel (channel + 2) input (output ++ made) old samples fits c.requires.input c.loop-channel.auto.samples puts));
    }

pub returns-then-channel-channels : goal.returns-then-channel-channels
returns-then-channel-channels c =
    let n = c.args.channels in
    let channel = c.loop-channel.channel in
    let section = c.args.section in
    let input = c.args.input.now in
    let output = c.args.output.now in
    let old = c.args.samples.now in
    let samples = c.loop-channel.samples in
    let new = c.pass_one.new.samples in
    let made = made_by section n input output old in
    let puts = c.loop-channel.invariant.puts in
    let below = c.if-channel-channels.true in
    let fits : channel + 1 ≤ n = omega (arith, below) in
    let last : channel + 1 ≡ n = omega (arith, below, c.loop-channel-test.false) in
    let all = puts-on n channel (channel + 1) (output ++ made) old samples new (omega arith) fits c.loop-channel.auto.samples puts
    (c.pass_one.ensures.puts (input ++ old) (output ++ made)
    (passed section n input output old samples c.requires.whole_frames.some c.requires.input c.requires.output c.requires.whole_frames.whole
    c.loop-channel.auto.samples)
    (lane-front section n input output old made channel c.of-lane.result below c.requires.input c.requires.output c.of-lane.ensures)
    (holds-on n channel (channel + 1) input (output ++ made) old samples fits c.requires.input c.loop-channel.auto.samples puts)) in
    let len = c.pass_one.ensures.len ∙ c.loop-channel.auto.samples in
    record {
      len = len;
      samples = all-turned section n input output old new c.requires.whole_frames.some c.requires.output c.requires.whole_frames.whole len
          (subst (λ to. PutsFrames n 0 to (length old / n) (output ++ made) old new) last all);
    }

pub returns-else-channel-channels : goal.returns-else-channel-channels
returns-else-channel-channels c =
    let n = c.args.channels in
    let output = c.args.output.now in
    let old = c.args.samples.now in
    let samples = c.loop-channel.samples in
    let made = made_by c.args.section n c.args.input.now output old in
    let last : c.loop-channel.channel ≡ n = omega (arith, c.if-channel-channels.false, c.loop-channel.invariant.within) in
    record {
      len = c.loop-channel.auto.samples;
      samples = all-turned c.args.section n c.args.input.now output old samples c.requires.whole_frames.some c.requires.output
          c.requires.whole_frames.whole c.loop-channel.auto.samples
          (subst (λ to. PutsFrames n 0 to (length old / n) (output ++ made) old samples) last c.loop-channel.invariant.puts);
    }
