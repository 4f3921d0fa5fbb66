-- A feed eats and gives by the counts, and gives what the interpolator makes of the frames around each output.
use Rattle.std.proofs.Common.{◌≡◌, ◌≤◌, ◌*◌, ◌/◌, ℕ, ℤ, List, length, refl, sym, ap, ◌∙◌, subst, arith}
use Rattle.std.proofs.Math.Nat.{mul-le-mul_right, div-mul-le_self}
use Rattle.pcm_feeder.specs.Kept.{Kept}
use Rattle.pcm_feeder.specs.Streams.{frames_of, written}
use Rattle.pcm_feeder.specs.Pace.{rate_by}
use Rattle.pcm_feeder.specs.Turns.{Turn, fed, CanBeFed, CanFeed}
use Rattle.pcm_feeder.proofs.Writing.{moved-within}
use Rattle.feed_rate.specs.Feeders.{kept_by, kept_of, kept_at}
use Rattle.feed_rate.specs.Methods.{spec_of, channels_by}
use Rattle.feed_rate.proofs.Feeds.{fed-is, turned, kept-is}
use Rattle.feed_rate.proofs.Methods.{channels-given, filter-is}
use Rattle.feed_rate.proofs.Walks.{given-eaten}
use Rattle.feed_rate.proofs.rate_feeder.RateFeederFeeder.feed.Goals as goal

pub put_frames-step-requires : goal.put_frames-step-requires
put_frames-step-requires g c =
    let feeder = c.args.self.now in
    let fitted = c.in-Some.fitted in
    let seen = g.I.Interpolator.seen feeder.interpolator in
    let rate = rate_by fitted.pace in
    let pull = c.args.pull in
    let input = c.args.input.now in
    let channels = channels_by seen.method in
    let eaten = c.eaten-eaten.result in
    let given = c.given-given.result in
    let can : CanFeed (spec_of seen.method rate) c.args.tables.now pull.gain input pull.want c.args.output.now =
    subst (λ found. CanBeFed (kept_by found seen.method seen.tail) c.args.tables.now pull.gain input pull.want c.args.output.now)
    c.in-Some.is c.requires in
    let wide : pull.want * channels ≤ length c.args.output.now = subst (λ n. pull.want * n ≤ length c.args.output.now)
    (channels-given seen.method rate) can.room in
    let few : eaten ≤ length input / channels = subst (λ n. eaten ≤ length input / n) c.channels.ensures.value
    c.eaten-eaten.ensures.within in
    record {
      level = feeder.level fitted c.in-Some.is;
      rested = feeder.rested;
      filter = filter-is seen.method rate c.args.tables.now can.filter;
      room = omega (arith, wide, mul-le-mul_right {m = given} {n = pull.want} channels c.given-given.ensures.within);
      there = omega (
        arith,
        mul-le-mul_right {m = eaten} {n = length input / channels} channels few,
        div-mul-le_self (length input)
            channels,
      );
      enough = given-eaten fitted.pace (length input / c.channels.result) pull.want eaten given c.eaten-eaten.ensures.value
          c.given-given.ensures.value;
    }

pub moved-fitted-requires-clause-bounds : goal.moved-fitted-requires-clause-bounds
moved-fitted-requires-clause-bounds g c =
    moved-within c.in-Some.fitted.pace (length c.args.input.now / c.channels.result) c.args.pull.want c.eaten-eaten.result
    c.given-given.result c.put_frames-step.result
    c.eaten-eaten.ensures.value c.given-given.ensures.value c.put_frames-step.ensures.step

pub returns : goal.returns
returns g c =
    let by = g.I.Interpolator in
    let feeder = c.args.self.now in
    let fitted = c.in-Some.fitted in
    let method = (by.seen feeder.interpolator).method in
    let tail = (by.seen feeder.interpolator).tail in
    let tables = c.args.tables.now in
    let eaten = c.eaten-eaten.result in
    let given = c.given-given.result in
    let step = c.put_frames-step.result in
    let input = c.args.input.now in
    let before : kept_of feeder ≡ kept_at fitted.pace method tail = ap (λ found. kept_by found method tail) c.in-Some.is in
    let does : fed (kept_of feeder) tables c.args.pull.gain input c.args.pull.want ≡ turned method tables fitted.pace tail input eaten
    given =
    ap (λ kept. fed kept tables c.args.pull.gain input c.args.pull.want) before
    ∙ fed-is method fitted.pace tail tables c.args.pull.gain input c.args.pull.want c.channels.result eaten given
    (feeder.level fitted c.in-Some.is) c.channels.ensures.value
    c.eaten-eaten.ensures.value c.given-given.ensures.value in
    let eaten_of : Turn → ℕ = λ turn. turn.eaten in
    let given_of : Turn → ℕ = λ turn. turn.given in
    let output_of : Turn → List ℤ = λ turn. written turn.frames c.args.output.now in
    let kept_in : Turn → Kept = λ turn. turn.kept in
    let kept : kept_at c.moved-fitted.result (by.seen c.put_frames-step.new.interpolator).method
    (by.seen c.put_frames-step.new.interpolator).tail ≡ (turned method tables fitted.pace tail input eaten given).kept =
    ap (λ s. kept_at c.moved-fitted.result s (by.seen c.put_frames-step.new.interpolator).tail) c.put_frames-step.ensures.method
    ∙ kept-is method fitted.pace c.moved-fitted.result tail (by.seen c.put_frames-step.new.interpolator).tail tables
    (frames_of (channels_by method) input) eaten given step (feeder.level fitted c.in-Some.is) c.put_frames-step.ensures.step
    c.moved-fitted.ensures.rate c.moved-fitted.ensures.phase c.moved-fitted.ensures.ahead c.put_frames-step.ensures.tail in
    record {
      eaten = sym (ap eaten_of does);
      given = sym (ap given_of does);
      most = c.given-given.ensures.within;
      frames = c.put_frames-step.ensures.frames ∙ sym (ap output_of does);
      kept = kept ∙ sym (ap kept_in does);
      spec = ap (λ k. k.spec) kept ∙ sym (ap (λ k. k.spec) before);
      kind = refl;
      mark = refl;
    }
