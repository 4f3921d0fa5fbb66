use Rattle.std.proofs.Common.{◌≡◌, ◌≤◌, ◌+◌, ◌-◌, ◌*◌, ◌/◌, ◌++◌, ℕ, ℤ, false, List, length, take, drop, All, refl, sym, ap, ◌∙◌, subst, arith}
use Rattle.std.proofs.Math.Nat.{mul-le-mul_right}
use Rattle.std.proofs.Math.Seq.{take-add}
use Rattle.std.proofs.lemmas.Grind.{common_steps}
use Rattle.std.proofs.lemmas.List.{take_all, length-append, length-drop, length-take-le}
use Rattle.std.proofs.lemmas.List.Elements.{All-append, All-nil}
use Rattle.pcm_num.specs.Limit.{FitsBits}
use Rattle.pcm_format.specs.Frames.{Frame}
use Rattle.pcm_format.specs.Layouts.{channels_of}
use Rattle.pcm_rate.specs.Rates.{need}
use Rattle.pcm_rate.proofs.Counts.{need_grows}
use Rattle.pcm_feeder.specs.Layouts.{unity}
use Rattle.pcm_feeder.proofs.Frames.{length-frames_of, frames_of-channels}
use Rattle.pcm_plan.specs.Plans.{PlanSeen, rate_in_plan}
use Rattle.pcm_plan.proofs.Fits.{ratio-in}
use Rattle.pcm_chain.specs.Chains.{plan_in, ChainStands}
use Rattle.pcm_chain.specs.Gives.{filling_frames}
use Rattle.pcm_chain.specs.Far.{ChainIsSoFar}
use Rattle.pcm_chain.specs.Pulls.{GoesFar, Pulls, PullsAsFar}
use Rattle.pcm_chain.specs.Pushes.{pushed_frames}
use Rattle.pcm_chain.proofs.Far.{far-fitted}
use Rattle.pcm_chain.proofs.Giving.{all-eaten, pulls-give, pulls-give-far, rest-frames}
use Rattle.pcm_chain.proofs.Pulling.{end-taken, goes-far, goes-on, no-silence-behind, no-silence-far, nothing-pulled, put-end, stays-far}
use Rattle.pcm_chain.proofs.Bits.{frames_of-bits}
use Rattle.pcm_chain.proofs.Pushing.{whole-samples}
use Rattle.pcm_chain.proofs.chain.ChainOf.give.Goals as goal

pub loop-asked-init : goal.loop-asked-init
loop-asked-init g c =
    let plan = c.args.self.now.plan in
    let samples = c.args.input.now in
    let out = c.args.out.now in
    let wide : c.channels-target.result ≡ channels_of plan.target = c.channels-target.ensures ∙ ap channels_of c.target.ensures in
    let wanted : length out / c.channels-target.result ≡ filling_frames plan out = ap (λ n. length out / n) wide in
    let layout : c.channels-source.result ≡ channels_of plan.source = c.channels-source.ensures ∙ ap channels_of c.source.ensures in
    let frames : length samples / channels_of plan.source ≡ length samples / c.channels-source.result = ap (λ n. length samples / n)
    (sym layout) in
    let can = c.requires.can in
    record {
      within = omega arith;
      wanted = wanted;
      fills = whole-samples (length out) (channels_of plan.target) c.requires.fills ∙ ap (λ n. n * channels_of plan.target) (sym wanted);
      there = omega arith;
      count = length-frames_of (channels_of plan.source) samples ∙ frames;
      samples = whole-samples (length samples) (channels_of plan.source) c.requires.whole ∙ ap (λ n. n * channels_of plan.source) frames;
      plan = refl;
      kinds = λ have. have;
      fitted = far-fitted g.B.Feeder.kept c.args.tables.now c.args.self.now can.eaten 0 can.given can.gives.far;
      fits = (let none : 0 * c.channels-source.result ≡ 0 = omega arith in subst (λ n. All (FitsBits 32) (take n samples)) (sym none)
          (All-nil (FitsBits 32)));
      far = λ n given stands enough. stays-far g.B.Feeder.kept c.args.tables.now false (pushed_frames plan samples)
          c.args.self.now n 0 given out stands (λ some. absurd (omega (arith, some)));
      pulls = λ x given stands enough. nothing-pulled g.B.Feeder.kept c.args.tables.now unity false (pushed_frames plan samples)
          c.args.self.now x 0 given out stands (λ some. absurd (omega (arith, some)));
    }

pub give_block-eaten-requires-clause-waiting : goal.give_block-eaten-requires-clause-waiting
give_block-eaten-requires-clause-waiting g c =
    let h = c.loop-asked.invariant in
    let plan = c.args.self.now.plan in
    let samples = c.args.input.now in
    let e = c.loop-asked.eaten in
    let layout : c.channels-source.result ≡ channels_of plan.source = c.channels-source.ensures ∙ ap channels_of c.source.ensures in
    let rest = rest-frames plan c.loop-asked.self.plan e c.channels-source.result samples h.plan layout (omega (arith, h.there, h.count)) in
    omega (arith, ap length rest, length-drop e (pushed_frames plan samples), h.count)

pub give_block-eaten-requires-clause-can : goal.give_block-eaten-requires-clause-can
give_block-eaten-requires-clause-can g c =
    let h = c.loop-asked.invariant in
    record {
      fitted = h.fitted;
      limits = record { left = omega arith; right = omega arith };
      filters = rw h.plan c.requires.tables;
      room = grind (arith, common_steps);
    }

pub loop-asked-preserved : goal.loop-asked-preserved
loop-asked-preserved g c =
    let h = c.loop-asked.invariant in
    let kept = g.B.Feeder.kept in
    let tables = c.args.tables.now in
    let old = c.args.self.now in
    let mid = c.loop-asked.self in
    let new = c.give_block-eaten.new.self in
    let plan = old.plan in
    let samples = c.args.input.now in
    let all = pushed_frames plan samples in
    let source = channels_of plan.source in
    let a = c.loop-asked.asked in
    let b = c.block-block.result in
    let e = c.loop-asked.eaten in
    let r = c.give_block-eaten.result in
    let size = c.channels-source.result in
    let layout : size ≡ source = c.channels-source.ensures ∙ ap channels_of c.source.ensures in
    let piece = take (length samples - e * size) (drop (e * size) samples) in
    let within : e ≤ length all = omega (arith, h.there, h.count) in
    let rest = rest-frames plan mid.plan e size samples h.plan layout within in
    let left : length (drop e all) ≡ length all - e = length-drop e all in
    record {
      within = omega (arith, c.block-block.ensures.wanted, h.within);
      wanted = h.wanted;
      fills = h.fills;
      there = omega (arith, h.there, c.give_block-eaten.ensures.there);
      count = h.count;
      samples = h.samples;
      plan = c.give_block-eaten.ensures.stays.plan ∙ h.plan;
      kinds = λ have. c.give_block-eaten.ensures.stays.kinds (h.kinds have);
      fitted = c.give_block-eaten.ensures.stays.fitted;
      fits = (let more : (e + r) * size ≡ e * size + r * size = omega arith in
          let same : take (r * channels_of mid.plan.source) piece ≡ take (r * size) (drop (e * size) samples) =
          ap (λ (p : PlanSeen). take (r * channels_of p.source) piece) h.plan ∙ ap (λ n. take (r * n) piece) (sym layout)
          ∙ ap (take (r * size)) (end-taken (e * size) samples) in
          subst (All (FitsBits 32)) (sym (ap (λ k. take k samples) more ∙ take-add (e * size) (r * size) samples))
          (All-append (FitsBits 32) (take (e * size) samples) (take (r * size) (drop (e * size) samples)) h.fits
          (subst (All (FitsBits 32)) same c.give_block-eaten.ensures.fits)));
      far = λ n given stands enough.
          let target = channels_of plan.target in
          let out = c.loop-asked.out in
          let at : a * c.channels-target.result ≡ a * target = ap (λ m. a * m)
          (c.channels-target.ensures ∙ ap channels_of c.target.ensures) in
          let ends = put-end (a * c.channels-target.result) out c.give_block-eaten.new.out
          ∙ ap (λ m. take m out ++ c.give_block-eaten.new.out) at in
          let Goes : List Frame → Type 0 = λ list. (m before : ℕ) → ChainIsSoFar kept tables mid m 0 before
          → need (rate_in_plan (plan_in mid)) (before + b) ≤ m + length list
          → GoesFar kept tables false b (length list) mid new m before (record { given = b; eaten = r }) c.give_block-eaten.new.out in
          let grown = need_grows (rate_in_plan plan) (given + a + b) (given + length c.args.out.now / c.channels-target.result)
          (let ratio = ratio-in plan stands.fits in ratio.dst) (omega (arith, c.block-block.ensures.wanted, h.within)) in
          let needed = ap (λ (p : PlanSeen). need (rate_in_plan p) (given + a + b)) h.plan in
          let first = h.far n given stands enough in
          let wide = mul-le-mul_right target h.within in
          subst (λ list. GoesFar kept tables false (a + b) (length all) old new n given (record { given = a + b; eaten = e + r }) list) (sym ends)
          (goes-far kept tables false a b all old mid new n given (record { given = a; eaten = e }) (record { given = b; eaten = r })
          out c.give_block-eaten.new.out (record {
            full = refl;
            plan = h.plan;
            long = omega (arith, wide, h.fills, c.loop-asked.auto.out);
            is = stands.fits;
            pulled = first;
            next = λ behind past. subst Goes rest c.give_block-eaten.ensures.far (n + e) (given + a)
                (no-silence-far kept tables (length all) mid n given (record { given = a; eaten = e }) first.behind)
                (omega (arith, needed, grown, enough, left, within));
          }));
      pulls = λ x given stands enough.
          let target = channels_of plan.target in
          let out = c.loop-asked.out in
          let at : a * c.channels-target.result ≡ a * target = ap (λ n. a * n)
          (c.channels-target.ensures ∙ ap channels_of c.target.ensures) in
          let first = h.pulls x given stands enough in
          let Waits : List Frame → Type 0 = λ list. (y : List Frame) (before : ℕ) → ChainStands kept tables mid y 0 before
          → need (rate_in_plan (plan_in mid)) (before + b) ≤ length y + length list
          → Pulls kept tables unity false b list mid new y before (record { given = b; eaten = r }) (drop (a * target) out)
          c.give_block-eaten.new.out in
          let Heard : List ℤ → Type 0 = λ list. (y : List Frame) (before : ℕ) → ChainStands kept tables mid y 0 before
          → need (rate_in_plan (plan_in mid)) (before + b) ≤ length y + length (pushed_frames (plan_in mid) piece)
          → Pulls kept tables unity false b (pushed_frames (plan_in mid) piece) mid new y before (record { given = b; eaten = r }) list
          c.give_block-eaten.new.out in
          let part = end-taken (a * c.channels-target.result) out ∙ ap (λ n. drop n out) at in
          let ends = put-end (a * c.channels-target.result) out c.give_block-eaten.new.out
          ∙ ap (λ n. take n out ++ c.give_block-eaten.new.out) at in
          let grown = need_grows (rate_in_plan plan) (given + a + b) (given + length c.args.out.now / c.channels-target.result)
          (let ratio = ratio-in plan stands.fits in ratio.dst) (omega (arith, c.block-block.ensures.wanted, h.within)) in
          let needed = ap (λ (p : PlanSeen). need (rate_in_plan p) (given + a + b)) h.plan in
          let long = length-append x (take e all) in
          let front = length-take-le e all within in
          subst (λ list. Pulls kept tables unity false (a + b) all old new x given (record { given = a + b; eaten = e + r }) c.args.out.now
          list) (sym ends)
          (goes-on kept tables unity false a b all old mid new x given (record { given = a; eaten = e }) (record { given = b; eaten = r })
          c.args.out.now out c.give_block-eaten.new.out (record {
            full = refl;
            plan = h.plan;
            channels = All-append (λ (frame : Frame). length frame ≡ source) x all stands.frames (frames_of-channels source samples);
            is = stands.fits;
            pulled = first;
            next = λ behind past. subst Waits rest (subst Heard part c.give_block-eaten.ensures.gives) (x ++ take e all) (given + a)
                (no-silence-behind kept tables all mid x given (record { given = a; eaten = e }) first.stands)
                (omega (arith, needed, grown, enough, long, front, left, within));
          }));
    }

pub returns-clause-fits : goal.returns-clause-fits
returns-clause-fits g c =
    let h = c.loop-asked.invariant in
    let can = c.requires.can in
    let plan = c.args.self.now.plan in
    let rate = rate_in_plan plan in
    let samples = c.args.input.now in
    let source = channels_of plan.source in
    let want = length c.args.out.now / c.channels-target.result in
    let ratio = ratio-in plan can.gives.far.fits in
    let layout : c.channels-source.result ≡ source = c.channels-source.ensures ∙ ap channels_of c.source.ensures in
    let all : c.loop-asked.asked ≡ want = omega (arith, h.within, c.loop-asked-test.false) in
    let grown = need_grows rate can.given (can.given + want) ratio.dst (omega arith) in
    let count = ap (λ n. need rate (can.given + n)) h.wanted in
    let goes = h.far can.eaten can.given can.gives.far (omega (arith, can.enough, can.gives.exact, count, grown)) in
    let far = subst (λ n. PullsAsFar rate false n can.eaten (length (pushed_frames plan samples)) can.given (record { given = n; eaten = c.loop-asked.eaten })) all goes.far in
    let every = all-eaten rate want can.eaten (length (pushed_frames plan samples)) can.given (record { given = want; eaten = c.loop-asked.eaten }) ratio can.gives.exact
    (omega (arith, can.enough, count)) far in
    let long = ap (λ n. c.loop-asked.eaten * n) layout in
    let whole : take (c.loop-asked.eaten * c.channels-source.result) samples ≡ samples =
    take_all (c.loop-asked.eaten * c.channels-source.result) samples (omega (arith, h.samples, long, ap (λ n. n * source) (every ∙ h.count))) in
    frames_of-bits 32 source samples (subst (All (FitsBits 32)) whole h.fits)

pub returns-clause-far : goal.returns-clause-far
returns-clause-far g c eaten given exactly enough =
    let h = c.loop-asked.invariant in
    let kept = g.B.Feeder.kept in
    let plan = c.args.self.now.plan in
    let rate = rate_in_plan plan in
    let input = length (pushed_frames plan c.args.input.now) in
    let count = filling_frames plan c.args.out.now in
    let all : c.loop-asked.asked ≡ count = omega (arith, h.within, c.loop-asked-test.false, h.wanted) in
    let grown = need_grows rate given (given + count) (let ratio = ratio-in plan exactly.far.fits in ratio.dst) (omega arith) in
    let needed = ap (λ n. need rate (given + n)) h.wanted in
    let Stops : ℕ → Type 0 = λ n. GoesFar kept c.args.tables.now false n input c.args.self.now c.loop-asked.self eaten given
    (record { given = n; eaten = c.loop-asked.eaten }) c.loop-asked.out in
    pulls-give-far kept c.args.tables.now count c.loop-asked.eaten input c.args.self.now c.loop-asked.self c.loop-asked.out
    eaten given h.plan
    (c.loop-asked.auto.out ∙ h.fills ∙ ap (λ n. n * channels_of plan.target) h.wanted) exactly enough
    (subst Stops all (h.far eaten given exactly.far (omega (arith, enough, exactly.exact, needed, grown))))

pub returns-clause-gives : goal.returns-clause-gives
returns-clause-gives g c x given exactly enough =
    let h = c.loop-asked.invariant in
    let kept = g.B.Feeder.kept in
    let plan = c.args.self.now.plan in
    let rate = rate_in_plan plan in
    let samples = c.args.input.now in
    let source = channels_of plan.source in
    let input = pushed_frames plan samples in
    let count = filling_frames plan c.args.out.now in
    let want = length c.args.out.now / c.channels-target.result in
    let all : c.loop-asked.asked ≡ count = omega (arith, h.within, c.loop-asked-test.false, h.wanted) in
    let grown = need_grows rate given (given + count) (let ratio = ratio-in plan exactly.stands.fits in ratio.dst) (omega arith) in
    let needed = ap (λ n. need rate (given + n)) h.wanted in
    let Stops : ℕ → Type 0 = λ n. Pulls kept c.args.tables.now unity false n input c.args.self.now c.loop-asked.self x given
    (record { given = n; eaten = c.loop-asked.eaten }) c.args.out.now c.loop-asked.out in
    pulls-give kept c.args.tables.now count c.loop-asked.eaten input c.args.self.now c.loop-asked.self c.args.out.now c.loop-asked.out x
    given h.plan
    (h.fills ∙ ap (λ n. n * channels_of plan.target) h.wanted)
    (All-append (λ (frame : Frame). length frame ≡ source) x input exactly.stands.frames (frames_of-channels source samples)) exactly enough
    (subst Stops all (h.pulls x given exactly.stands (omega (arith, enough, exactly.exact, needed, grown))))
