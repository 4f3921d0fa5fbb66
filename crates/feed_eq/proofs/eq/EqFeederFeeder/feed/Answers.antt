-- The frames go through all sections of the tables.
use Rattle.std.proofs.Common.{◌≡◌, ◌<◌, ◌≤◌, ◌*◌, ◌/◌, ◌%◌, ◌++◌, length, take, drop, sym, ap, ◌∙◌, subst, arith}
use Rattle.std.proofs.Math.Nat.{mul-mod_left}
use Rattle.std.proofs.lemmas.List.{length-take-le}
use Rattle.pcm_feeder.specs.declared.stage.Spec.TheVariants.{Eq}
use Rattle.pcm_feeder.specs.Sections.{sections_on, past_behind}
use Rattle.pcm_feeder.specs.Streams.{frames_of, interleaved}
use Rattle.pcm_feeder.specs.Turns.{CanBeFed, CanFeed, fed}
use Rattle.feed_eq.specs.Equalisers.{tail_of}
use Rattle.feed_eq.specs.Feeders.{kept_when}
use Rattle.feed_eq.proofs.Fed.{Does, does, front-frames, front-within, keeps}
use Rattle.feed_eq.proofs.eq.EqFeederFeeder.feed.Goals as goal

pub pass-requires-clause-whole_frames : goal.pass-requires-clause-whole_frames
pass-requires-clause-whole_frames c =
    let n = c.in-Some.fitted.channels in
    let m = c.min-frames.result in
    let within : m ≤ length c.args.input.now / n = omega (arith, c.min-frames.ensures) in
    ap (λ list. length list % n) c.copy_from_slice.ensures.after
    ∙ ap (λ k. k % n) (length-take-le (m * n) c.args.input.now (front-within n m c.args.input.now within))
    ∙ mul-mod_left m n

-- what a feed does
done : (c : goal.After-output-1) → Does c.in-Some.fitted.channels c.in-Some.fitted.sections c.args.tables.now (tail_of c.in-Some.fitted)
    (frames_of c.in-Some.fitted.channels c.args.input.now) c.min-frames.result
    (fed (kept_when c.args.self.now.fitted) c.args.tables.now c.args.pull.gain c.args.input.now c.args.pull.want)
done c =
    let found = c.in-Some.fitted in
    let can : CanFeed (Eq found.channels found.sections) c.args.tables.now c.args.pull.gain c.args.input.now c.args.pull.want
    c.args.output.now =
    subst (λ f. CanBeFed (kept_when f) c.args.tables.now c.args.pull.gain c.args.input.now c.args.pull.want c.args.output.now) c.in-Some.is
    c.requires in
    rw c.in-Some.is (does found.channels found.sections c.args.tables.now c.args.pull.gain (tail_of found) c.args.input.now c.args.pull.want
    c.min-frames.result can.filter c.min-frames.ensures)

-- the samples that go through, as frames
input-is : (c : goal.After-output-1) → frames_of c.in-Some.fitted.channels c.copy_from_slice.new.self ≡ take c.min-frames.result
    (frames_of c.in-Some.fitted.channels c.args.input.now)
input-is c =
    let n = c.in-Some.fitted.channels in
    let above : 0 < n = omega (arith, c.in-Some.fitted.limits.least) in
    let within : c.min-frames.result ≤ length c.args.input.now / n = omega (arith, c.min-frames.ensures) in
    ap (frames_of n) c.copy_from_slice.ensures.after ∙ front-frames n c.min-frames.result c.args.input.now above within

pub returns-clause-eaten : goal.returns-clause-eaten
returns-clause-eaten c = sym (done c).eaten

pub returns-clause-given : goal.returns-clause-given
returns-clause-given c = sym (done c).given

pub returns-clause-frames : goal.returns-clause-frames
returns-clause-frames c =
    let found = c.in-Some.fitted in
    let n = found.channels in
    let m = c.min-frames.result in
    let old = c.args.output.now in
    let samples = c.pass.new.samples in
    let within : m ≤ length c.args.input.now / n = omega (arith, c.min-frames.ensures) in
    let long : length samples ≡ m * n =
    c.pass.ensures.made.len ∙ ap length c.copy_from_slice.ensures.after
    ∙ length-take-le (m * n) c.args.input.now (front-within n m c.args.input.now within) in
    let same : samples ≡ interleaved (fed (kept_when c.args.self.now.fitted) c.args.tables.now c.args.pull.gain c.args.input.now
    c.args.pull.want).frames =
    c.pass.ensures.made.samples
    ∙ ap (λ list. interleaved (sections_on n list (tail_of found) (frames_of n c.copy_from_slice.new.self))) c.sections.ensures.value
    ∙ ap (λ list. interleaved (sections_on n c.args.tables.now.sections (tail_of found) list)) (input-is c)
    ∙ ap interleaved (sym (done c).frames) in
    ap (λ k. samples ++ drop k old) (sym long) ∙ ap (λ list. list ++ drop (length list) old) same

pub returns-clause-kept : goal.returns-clause-kept
returns-clause-kept c =
    let found = c.in-Some.fitted in
    let new = c.pass.new.self in
    let n = found.channels in
    let tail : tail_of new ≡ past_behind n c.args.tables.now.sections (tail_of found)
    (take c.min-frames.result (frames_of n c.args.input.now)) =
    c.pass.ensures.kept
    ∙ ap (λ list. past_behind n list (tail_of found) (frames_of n c.copy_from_slice.new.self)) c.sections.ensures.value
    ∙ ap (past_behind n c.args.tables.now.sections (tail_of found)) (input-is c) in
    ap (λ k. keeps k new.sections (tail_of new)) c.pass.ensures.fit.channels
    ∙ ap (λ k. keeps n k (tail_of new)) c.pass.ensures.fit.sections
    ∙ ap (keeps n found.sections) tail
    ∙ sym (done c).kept
