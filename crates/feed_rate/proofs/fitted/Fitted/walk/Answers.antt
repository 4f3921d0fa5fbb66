-- Each output is the interpolator's, out of the frames kept before and those that come.
use Rattle.std.proofs.Common.{rules, ◌≡◌, ◌<◌, ◌≤◌, ◌+◌, ◌*◌, ◌^◌, length, refl, sym, ap, ◌∙◌, arith}
use Rattle.std.proofs.Math.Nat.{mul-le-mul_right}
use Rattle.pcm_feeder.specs.Pace.{factor_of}
use Rattle.pcm_feeder.proofs.Writing.{step-short, write-step}
use Rattle.feed_rate.specs.Outputs.{tail_after, output_by, output_at}
use Rattle.feed_rate.specs.Methods.{channels_by}
use Rattle.feed_rate.proofs.Methods.{output-channels, all-channels}
use Rattle.feed_rate.proofs.Walks.{needed-within, eaten-few, step-on, output-is}
use Rattle.feed_rate.proofs.fitted.Fitted.walk.Goals as goal

pub overflow_add-start : goal.overflow_add-start
overflow_add-start g c =
    let fitted = c.args.self.now in
    let within = needed-within fitted c.loop-j.j c.args.moved.given c.place-start.result c.args.moved.eaten c.loop-j.step
    c.loop-j.invariant.step c.loop-j-test.true c.requires.walk.enough c.place-start.ensures in
    let some : c.args.moved.eaten < 2 ^ 64 = search rules in
    omega (arith, within, some)

pub slice_bounds-frame-end : goal.slice_bounds-frame-end
slice_bounds-frame-end g c =
    let channels = c.args.channels in
    let next : c.loop-j.j + 1 ≤ c.args.moved.given = omega (arith, c.loop-j-test.true) in
    let all : c.args.moved.given * channels ≤ length c.args.output.now = rw c.requires.channels c.requires.walk.room in
    let fits : (c.loop-j.j + 1) * channels ≤ length
    c.loop-j.output = omega (arith, all, mul-le-mul_right channels next, c.loop-j.auto.output) in
    search rules

pub put_frame-requires-clause-there : goal.put_frame-requires-clause-there
put_frame-requires-clause-there g c =
    let fitted = c.args.self.now in
    let channels = channels_by (g.I.Interpolator.seen c.args.interpolator.now).method in
    let within = needed-within fitted c.loop-j.j c.args.moved.given c.place-start.result c.args.moved.eaten c.loop-j.step
    c.loop-j.invariant.step c.loop-j-test.true c.requires.walk.enough c.place-start.ensures in
    rw (c.at-point.ensures.needed, c.loop-j.invariant.method) (omega (arith, mul-le-mul_right channels within, c.requires.walk.there))

pub after-step-requires-clause-short : goal.after-step-requires-clause-short
after-step-requires-clause-short g c =
    let fitted = c.args.self.now in
    let short = step-short fitted.pace c.loop-j.j c.args.moved.given c.args.moved.eaten c.loop-j.step c.loop-j.invariant.step
    (omega (arith, c.loop-j-test.true)) c.requires.walk.enough in
    let some : length c.args.input.now < 2 ^ 61 = search rules in
    let above : 0 < channels_by (g.I.Interpolator.seen c.args.interpolator.now).method = omega (
      arith,
      c.requires.channels,
      c.requires.limits.least,
    ) in
    omega (
      arith,
      short,
      some,
      eaten-few (channels_by (g.I.Interpolator.seen c.args.interpolator.now).method) c.args.moved.eaten
          (length c.args.input.now) above c.requires.walk.there,
    )

pub loop-j-preserved : goal.loop-j-preserved
loop-j-preserved g c =
    let by = g.I.Interpolator in
    let fitted = c.args.self.now in
    let method = (by.seen c.args.interpolator.now).method in
    let tail = (by.seen c.args.interpolator.now).tail in
    let tables = c.args.tables.now in
    let input = c.args.input.now in
    let now = c.loop-j.interpolator in
    let step = c.loop-j.step in
    let j = c.loop-j.j in
    let point = c.at-point.result in
    let within = needed-within fitted j c.args.moved.given c.place-start.result c.args.moved.eaten step c.loop-j.invariant.step
    c.loop-j-test.true c.requires.walk.enough c.place-start.ensures in
    let same = c.loop-j.invariant.method in
    let was : (by.seen now).tail ≡ tail_after (by.seen now).method tail input (by.seen now).passed = c.loop-j.invariant.tail
    ∙ ap (λ m. tail_after m tail input (by.seen now).passed) (sym same) in
    let parts : point.parts ≡ step.phase * factor_of fitted.pace = c.at-point.ensures.parts
    ∙ c.requires.factor step.phase c.loop-j.invariant.step.below in
    let is : c.put_frame.new.output ≡ output_at method tables fitted.pace tail input j =
    c.put_frame.ensures.frame tail was
    ∙ ap (λ m. output_by m tables tail input point) same
    ∙ output-is method tables fitted tail input j c.place-start.result point step c.requires.walk.level c.loop-j.invariant.step
    c.place-start.ensures c.at-point.ensures.needed (ap (λ w. w.divisor) c.at-point.ensures.whole) parts in
    let have = all-channels (channels_by method) tail input (g.met.I.Interpolator.frames c.args.interpolator.now) in
    let next = c.after-step.ensures j c.loop-j.invariant.step in
    let there : (by.seen c.put_frame.new.self).tail ≡ tail_after method tail input (by.seen c.put_frame.new.self).passed =
    c.put_frame.ensures.tail tail was ∙ ap (λ m. tail_after m tail input (by.seen c.put_frame.new.self).passed) same in
    let on = step-on fitted.pace step c.after-step.result j c.loop-j.invariant.step next in
    rw c.requires.channels (record {
      frames = write-step (channels_by method) (output_at method tables fitted.pace tail input) c.loop-j.output c.put_frame.new.output
          c.put_frame.new.output c.args.output.now j
          (λ k. output-channels method tables _ _ tail input _ have) c.loop-j.invariant.frames refl is;
      step = next;
      method = c.put_frame.ensures.method ∙ same;
      tail = there;
      order = omega (arith, c.put_frame.ensures.passed, on);
      within = omega (arith, c.put_frame.ensures.passed, within);
    })

pub returns : goal.returns
returns g c =
    let by = g.I.Interpolator in
    let fitted = c.args.self.now in
    let tail = (by.seen c.args.interpolator.now).tail in
    let channels = channels_by (by.seen c.args.interpolator.now).method in
    let input = c.args.input.now in
    let now = c.loop-j.interpolator in
    let eaten = c.args.moved.eaten in
    let all : c.loop-j.j ≡ c.args.moved.given = omega (arith, c.loop-j.auto.j-end, c.loop-j-test.false) in
    let same = c.loop-j.invariant.method in
    let was : (by.seen now).tail ≡ tail_after (by.seen now).method tail input (by.seen now).passed = c.loop-j.invariant.tail
    ∙ ap (λ m. tail_after m tail input (by.seen now).passed) (sym same) in
    let short = step-short fitted.pace c.loop-j.j c.args.moved.given eaten c.loop-j.step c.loop-j.invariant.step c.loop-j.auto.j-end
    c.requires.walk.enough in
    let some : length input < 2 ^ 61 = search rules in
    let above : 0 < channels = omega (arith, c.requires.channels, c.requires.limits.least) in
    record {
      frames = rw (← all) c.loop-j.invariant.frames;
      tail = c.eat.ensures.tail tail was ∙ ap (λ m. tail_after m tail input eaten) same;
      method = c.eat.ensures.method ∙ same;
      rested = c.eat.ensures.passed;
      step = rw (← all) c.loop-j.invariant.step;
      short = omega (arith, short, some, eaten-few channels eaten (length input) above c.requires.walk.there);
    }
