use Rattle.std.proofs.Common.{◌≡◌, ◌+◌, ◌*◌, ◌++◌, ℕ, ℤ, List, length, take, drop, refl, sym, ap, ◌∙◌, subst, arith}
use Rattle.std.proofs.Math.Nat.{mul-le-mul_right}
use Rattle.std.proofs.lemmas.List.{length-drop, drop-drop}
use Rattle.std.proofs.lemmas.List.Elements.{All-append}
use Rattle.pcm_format.specs.Formats.{bytes_of}
use Rattle.pcm_format.specs.Frames.{Frame}
use Rattle.pcm_format.specs.Layouts.{channels_of}
use Rattle.pcm_format.specs.Samples.{samples}
use Rattle.pcm_ring.specs.Ring.{Ring}
use Rattle.pcm_feeder.proofs.Frames.{frames_of-channels}
use Rattle.pcm_plan.specs.Plans.{PlanSeen}
use Rattle.pcm_chain.specs.Chains.{plan_in, ChainStands}
use Rattle.pcm_chain.specs.Far.{ChainIsSoFar}
use Rattle.pcm_chain.specs.Pulls.{waiting_frames, IsPastTheEnd, GoesFar, Pulls}
use Rattle.pcm_chain.proofs.Pulling.{stays-far, nothing-pulled, put-end, end-taken, goes-far, goes-on, falls-far, falls-short}
use Rattle.pcm_chain.proofs.Waiting.{waiting-count, waiting-drop}
use Rattle.pcm_chain.proofs.chain.ChainOf.pull.Goals as goal

pub returns-after-loop-asked-clause-pulls : goal.returns-after-loop-asked-clause-pulls
returns-after-loop-asked-clause-pulls g c x quiet before stands past =
    let h = c.loop-asked.invariant in
    let all : c.loop-asked.asked ≡ c.args.want = omega (arith, h.within, c.loop-asked-test.false) in
    let pulls = h.pulls x quiet before stands past in
    rw all at pulls

pub returns-else-pulled-asked-clause-pulls : goal.returns-else-pulled-asked-clause-pulls
returns-else-pulled-asked-clause-pulls g c x quiet before stands past =
    let h = c.loop-asked.invariant in
    falls-short g.B.Feeder.kept c.args.tables.now c.args.gain c.args.ended c.loop-asked.asked c.args.want
    (waiting_frames c.args.self.now.plan c.args.format c.args.ring.now.bytes) c.args.self.now c.loop-asked.self x before
    c.loop-asked.pulled c.args.out.now c.loop-asked.out stands.fits (omega (arith, h.most, c.if-pulled-asked.false)) h.within
    (h.pulls x quiet before stands past)

pub returns-after-loop-asked-clause-far : goal.returns-after-loop-asked-clause-far
returns-after-loop-asked-clause-far g c n quiet before far past =
    let h = c.loop-asked.invariant in
    let all : c.loop-asked.asked ≡ c.args.want = omega (arith, h.within, c.loop-asked-test.false) in
    let goes = h.far n quiet before far past in
    rw all at goes

pub returns-else-pulled-asked-clause-far : goal.returns-else-pulled-asked-clause-far
returns-else-pulled-asked-clause-far g c n quiet before far past =
    let h = c.loop-asked.invariant in
    falls-far g.B.Feeder.kept c.args.tables.now c.args.ended c.loop-asked.asked c.args.want
    (length (waiting_frames c.args.self.now.plan c.args.format c.args.ring.now.bytes)) c.args.self.now c.loop-asked.self n before
    c.loop-asked.pulled c.loop-asked.out far.fits (omega (arith, h.most, c.if-pulled-asked.false)) h.within
    (h.far n quiet before far past)

pub loop-asked-init : goal.loop-asked-init
loop-asked-init g c =
    let plan = c.args.self.now.plan in
    let bytes = c.args.ring.now.bytes in
    let none : 0 ≡ 0 * (channels_of plan.source * bytes_of c.args.format) = omega arith in
    record {
      within = omega arith;
      most = omega arith;
      there = omega arith;
      waiting = waiting-count plan c.args.format bytes c.source.result c.fill.result c.channels.result c.bytes.result c.fill.ensures.count
          c.channels.ensures c.source.ensures c.bytes.ensures;
      plan = refl;
      kinds = λ have. have;
      fitted = c.requires.fitted;
      bytes = ap (λ n. drop n bytes) none;
      size = refl;
      room = refl;
      far = λ n quiet before far past. stays-far g.B.Feeder.kept c.args.tables.now c.args.ended (waiting_frames plan c.args.format bytes)
          c.args.self.now n quiet before c.args.out.now far past;
      pulls = λ x quiet before stands past. nothing-pulled g.B.Feeder.kept c.args.tables.now c.args.gain c.args.ended
          (waiting_frames plan c.args.format bytes) c.args.self.now x quiet before c.args.out.now stands past;
    }

pub pull_block-more-requires-clause-waiting : goal.pull_block-more-requires-clause-waiting
pull_block-more-requires-clause-waiting g c =
    let h = c.loop-asked.invariant in
    let plan = c.args.self.now.plan in
    let all = waiting_frames plan c.args.format c.args.ring.now.bytes in
    let rest = ap (λ (p : PlanSeen). waiting_frames p c.args.format c.loop-asked.ring.bytes) h.plan
    ∙ ap (waiting_frames plan c.args.format) h.bytes
    ∙ waiting-drop plan c.args.format c.args.ring.now.bytes c.loop-asked.pulled.eaten (omega (arith, h.there, h.waiting)) in
    omega (arith, h.waiting, ap length rest, length-drop c.loop-asked.pulled.eaten all)

pub loop-asked-preserved : goal.loop-asked-preserved
loop-asked-preserved g c =
    let h = c.loop-asked.invariant in
    let kept = g.B.Feeder.kept in
    let plan = c.args.self.now.plan in
    let bytes = c.args.ring.now.bytes in
    let size = channels_of plan.source * bytes_of c.args.format in
    let all = waiting_frames plan c.args.format bytes in
    let first = c.loop-asked.pulled in
    let more = c.pull_block-more.result in
    let rest = ap (λ (p : PlanSeen). waiting_frames p c.args.format c.loop-asked.ring.bytes) h.plan
    ∙ ap (waiting_frames plan c.args.format) h.bytes
    ∙ waiting-drop plan c.args.format bytes first.eaten (omega (arith, h.there, h.waiting)) in
    let place : first.eaten * size + more.eaten * size ≡ (first.eaten + more.eaten) * size = omega arith in
    record {
      within = omega (arith, c.block-block.ensures.wanted, h.within);
      most = omega (arith, h.most, c.pull_block-more.ensures.leaves.most);
      there = omega (arith, h.there, c.pull_block-more.ensures.there);
      waiting = h.waiting;
      plan = c.pull_block-more.ensures.leaves.stays.plan ∙ h.plan;
      kinds = λ have. c.pull_block-more.ensures.leaves.stays.kinds (h.kinds have);
      fitted = c.pull_block-more.ensures.leaves.stays.fitted;
      bytes = ap (λ (ring : Ring). ring.bytes) c.pull_block-more.ensures.leaves.ring
          ∙ ap (λ (p : PlanSeen). drop (more.eaten * (channels_of p.source * bytes_of c.args.format)) c.loop-asked.ring.bytes) h.plan
          ∙ ap (drop (more.eaten * size)) h.bytes ∙ drop-drop (more.eaten * size) (first.eaten * size) bytes ∙ ap (λ n. drop n bytes) place;
      size = ap (λ (ring : Ring). ring.size) c.pull_block-more.ensures.leaves.ring ∙ h.size;
      room = ap (λ (ring : Ring). ring.max) c.pull_block-more.ensures.leaves.ring ∙ h.room;
      far = λ n quiet before stands past.
          let k = c.loop-asked.asked in
          let size = c.channels-channels.result in
          let out = c.loop-asked.out in
          let at : k * size ≡ k * channels_of plan.target = ap (λ m. k * m) (c.channels-channels.ensures ∙ ap channels_of c.target.ensures) in
          let ends = put-end (k * size) out c.pull_block-more.new.out ∙ ap (λ m. take m out ++ c.pull_block-more.new.out) at in
          let Goes : List Frame → Type 0 = λ list. (m silent given : ℕ) → ChainIsSoFar kept c.args.tables.now c.loop-asked.self m silent given
          → IsPastTheEnd c.args.ended silent list → GoesFar kept c.args.tables.now c.args.ended c.block-block.result (length list)
          c.loop-asked.self c.pull_block-more.new.self m given more c.pull_block-more.new.out in
          subst (λ list. GoesFar kept c.args.tables.now c.args.ended (k + c.block-block.result) (length all) c.args.self.now
          c.pull_block-more.new.self n before (record { given = first.given + more.given; eaten = first.eaten + more.eaten }) list) (sym ends)
          (goes-far kept c.args.tables.now c.args.ended k c.block-block.result all c.args.self.now c.loop-asked.self c.pull_block-more.new.self
          n before first more out c.pull_block-more.new.out (record {
            full = c.if-pulled-asked.true;
            plan = h.plan;
            long = (let wanted = mul-le-mul_right (channels_of plan.target) h.within in omega (arith, wanted, c.requires.room, c.loop-asked.auto.out));
            is = stands.fits;
            pulled = h.far n quiet before stands past;
            next = subst Goes rest c.pull_block-more.ensures.far (n + first.eaten) _ (before + first.given);
          }));
      pulls = λ x quiet before stands past.
          let at : c.loop-asked.asked * c.channels-channels.result ≡ c.loop-asked.asked * channels_of plan.target = ap
          (λ n. c.loop-asked.asked * n) (c.channels-channels.ensures ∙ ap channels_of c.target.ensures) in
          let Waits : List Frame → Type 0 = λ list. (y : List Frame) (silent given : ℕ)
          → ChainStands kept c.args.tables.now c.loop-asked.self y silent given → IsPastTheEnd c.args.ended silent list
          → Pulls kept c.args.tables.now c.args.gain c.args.ended c.block-block.result list c.loop-asked.self c.pull_block-more.new.self y
          given more (drop (c.loop-asked.asked * channels_of plan.target) c.loop-asked.out) c.pull_block-more.new.out in
          let part = end-taken (c.loop-asked.asked * c.channels-channels.result) c.loop-asked.out ∙ ap (λ n. drop n c.loop-asked.out) at in
          let Heard : List ℤ → Type 0 = λ out. (y : List Frame) (silent given : ℕ)
          → ChainStands kept c.args.tables.now c.loop-asked.self y silent given
          → IsPastTheEnd c.args.ended silent (waiting_frames (plan_in c.loop-asked.self) c.args.format c.loop-asked.ring.bytes)
          → Pulls kept c.args.tables.now c.args.gain c.args.ended c.block-block.result
          (waiting_frames (plan_in c.loop-asked.self) c.args.format c.loop-asked.ring.bytes) c.loop-asked.self
          c.pull_block-more.new.self y given more out c.pull_block-more.new.out in
          let ends = put-end (c.loop-asked.asked * c.channels-channels.result) c.loop-asked.out c.pull_block-more.new.out
          ∙ ap (λ n. take n c.loop-asked.out ++ c.pull_block-more.new.out) at in
          let Ends : List ℤ → Type 0 = Pulls kept c.args.tables.now c.args.gain c.args.ended (c.loop-asked.asked + c.block-block.result) all
          c.args.self.now c.pull_block-more.new.self x before
          (record { given = first.given + more.given; eaten = first.eaten + more.eaten }) c.args.out.now in
          subst Ends (sym ends)
          (goes-on kept c.args.tables.now c.args.gain c.args.ended c.loop-asked.asked c.block-block.result all c.args.self.now
          c.loop-asked.self c.pull_block-more.new.self x before first more
          c.args.out.now c.loop-asked.out c.pull_block-more.new.out (record {
            full = c.if-pulled-asked.true;
            plan = h.plan;
            channels = All-append (λ (frame : Frame). length frame ≡ channels_of plan.source) x all stands.frames
                (frames_of-channels (channels_of plan.source) (samples c.args.format bytes));
            is = stands.fits;
            pulled = h.pulls x quiet before stands past;
            next = subst Waits rest (subst Heard part c.pull_block-more.ensures.pulls) (x ++ take first.eaten all) _ (before + first.given);
          }));
    }
