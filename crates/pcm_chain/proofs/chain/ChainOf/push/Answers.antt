use Rattle.std.proofs.Common.{◌≡◌, ◌≤◌, ◌+◌, ◌-◌, ◌*◌, ◌/◌, min, All, length, take, drop, refl, ap, ◌∙◌, sym, subst, arith}
use Rattle.std.proofs.Math.Nat.{mul-le-mul_right}
use Rattle.std.proofs.Math.Seq.{take-add}
use Rattle.std.proofs.lemmas.List.{take_all}
use Rattle.std.proofs.lemmas.List.Elements.{All-append, All-nil}
use Rattle.pcm_num.specs.Limit.{FitsBits}
use Rattle.pcm_format.specs.Formats.{bytes_of}
use Rattle.pcm_format.specs.Layouts.{channels_of}
use Rattle.pcm_format.proofs.Streams.{channels_of-above, frame_bytes-above}
use Rattle.pcm_ring.specs.Ring.{Ring, free_bytes}
use Rattle.pcm_feeder.specs.Streams.{frames_of}
use Rattle.pcm_feeder.proofs.Frames.{length-frames_of}
use Rattle.pcm_plan.specs.Plans.{PlanSeen}
use Rattle.pcm_chain.specs.Pushes.{pushed_frames, room_for, Pushes, PushesFar}
use Rattle.pcm_chain.proofs.Bits.{frames_of-bits}
use Rattle.pcm_chain.proofs.Pushing.{none-pushed, nothing-pushed, piece-frames, pushes-far, pushes-on, room-left, whole-samples}
use Rattle.pcm_chain.proofs.chain.ChainOf.push.Goals as goal

pub returns-clause-pushes : goal.returns-clause-pushes
returns-clause-pushes g c x stands =
    let h = c.loop-eaten.invariant in
    let input = pushed_frames c.args.self.now.plan c.args.input.now in
    let all : take c.loop-eaten.eaten input ≡ input = take_all c.loop-eaten.eaten input
    (omega (arith, h.within, h.count, c.loop-eaten-test.false)) in
    subst (λ list. Pushes g.B.Feeder.kept c.args.tables.now c.args.format list c.args.self.now c.loop-eaten.self x c.loop-eaten.pushed
    c.args.ring.now.bytes c.loop-eaten.ring.bytes) all (h.pushes x stands)

pub returns-clause-fits : goal.returns-clause-fits
returns-clause-fits g c =
    let h = c.loop-eaten.invariant in
    let n = c.channels-channels.result in
    let samples = c.args.input.now in
    let plan = c.args.self.now.plan in
    let layout : n ≡ channels_of plan.source = c.channels-channels.ensures ∙ ap channels_of c.source.ensures in
    let frames : c.loop-eaten.eaten ≡ length samples / n = omega (arith, h.within, c.loop-eaten-test.false) in
    let whole = ap (λ k. c.loop-eaten.eaten * k) layout in
    let all : take (c.loop-eaten.eaten * n) samples ≡ samples = take_all (c.loop-eaten.eaten * n) samples
    (omega (arith, h.samples, whole, ap (λ k. k * channels_of plan.source) frames)) in
    frames_of-bits 32 (channels_of plan.source) samples (subst (All (FitsBits 32)) all h.fits)

pub returns-clause-stays : goal.returns-clause-stays
returns-clause-stays g c =
    let h = c.loop-eaten.invariant in
    let all : c.loop-eaten.eaten ≡ length (pushed_frames c.args.self.now.plan c.args.input.now) = omega (arith, h.within, h.count, c.loop-eaten-test.false) in
    record {
      plan = h.plan;
      kinds = h.kinds;
      far = λ eaten records. subst (λ n. PushesFar g.B.Feeder.kept c.args.tables.now n c.args.self.now c.loop-eaten.self c.loop-eaten.pushed eaten) all (h.far eaten records);
    }

pub loop-eaten-init : goal.loop-eaten-init
loop-eaten-init g c =
    let plan = c.args.self.now.plan in
    let layout : c.channels-channels.result ≡ channels_of plan.source = c.channels-channels.ensures ∙ ap channels_of c.source.ensures in
    let frames : length c.args.input.now / channels_of plan.source ≡ length c.args.input.now / c.channels-channels.result = ap
    (λ n. length c.args.input.now / n) (sym layout) in
    record {
      within = omega arith;
      count = length-frames_of (channels_of plan.source) c.args.input.now ∙ frames;
      samples = whole-samples (length c.args.input.now) (channels_of plan.source) c.requires.whole
          ∙ ap (λ n. n * channels_of plan.source) frames;
      most = omega arith;
      plan = refl;
      kinds = λ have. have;
      far = λ eaten records. none-pushed g.B.Feeder.kept c.args.tables.now c.args.self.now eaten records;
      fits = (let none : 0 * c.channels-channels.result ≡ 0 = omega arith in subst (λ n. All (FitsBits 32) (take n c.args.input.now))
          (sym none) (All-nil (FitsBits 32)));
      kept = omega arith;
      bytes = omega arith;
      size = refl;
      max = refl;
      pushes = λ x stands. nothing-pushed g.B.Feeder.kept c.args.tables.now c.args.format c.args.self.now x c.args.ring.now.bytes stands;
    }

pub push_block-more-requires-clause-can : goal.push_block-more-requires-clause-can
push_block-more-requires-clause-can g c =
    let h = c.loop-eaten.invariant in
    let can = c.requires.can in
    let far = h.far can.eaten can.records in
    record {
      eaten = can.eaten + c.loop-eaten.eaten;
      records = far.records;
      filters = rw h.plan c.requires.can.filters;
      bits = rw h.plan c.requires.can.bits;
    }

pub loop-eaten-preserved : goal.loop-eaten-preserved
loop-eaten-preserved g c =
    let h = c.loop-eaten.invariant in
    let kept = g.B.Feeder.kept in
    let plan = c.args.self.now.plan in
    let format = c.args.format in
    let e = c.loop-eaten.eaten in
    let b = c.piece-block.result in
    let first = c.loop-eaten.pushed in
    let more = c.push_block-more.result in
    let size = channels_of plan.target * bytes_of format in
    let room = room_for plan format c.args.ring.now in
    let samples = c.args.input.now in
    let width = channels_of plan.source in
    let layout : c.channels-channels.result ≡ width = c.channels-channels.ensures ∙ ap channels_of c.source.ensures in
    let part = take ((e + b) * c.channels-channels.result - e * c.channels-channels.result)
    (drop (e * c.channels-channels.result) samples) in
    let within : e + b ≤ length (pushed_frames plan samples) = omega (
      arith,
      c.piece-block.ensures.offered,
      h.within,
      h.count,
      c.loop-eaten-test.true,
    ) in
    let fits : (e + b) * width ≤ length samples = (let few : e + b ≤
    (length samples / c.channels-channels.result) = omega (arith, within, h.count) in omega (
      arith,
      mul-le-mul_right {m = e + b}
          {n = (length samples / c.channels-channels.result)} width few,
      h.samples,
    )) in
    let long : (e + b) * width - e * width ≡ b * width = omega arith in
    let piece : pushed_frames c.loop-eaten.self.plan part ≡ take b (drop e (pushed_frames plan samples)) =
    ap (λ (p : PlanSeen). pushed_frames p part) h.plan
    ∙ ap (λ n. frames_of width (take ((e + b) * n - e * n) (drop (e * n) samples))) layout
    ∙ ap (λ n. frames_of width (take n (drop (e * width) samples))) long
    ∙ piece-frames width e b samples (channels_of-above plan.source) fits in
    let free : free_bytes c.loop-eaten.ring ≡ free_bytes c.args.ring.now - first.kept * size = omega (arith, h.bytes, h.size) in
    let left : room_for c.loop-eaten.self.plan format c.loop-eaten.ring ≡ room - first.kept =
    ap (λ (p : PlanSeen). room_for p format c.loop-eaten.ring) h.plan
    ∙ ap (λ n. n / size) free
    ∙ room-left (free_bytes c.args.ring.now) size first.kept
    (frame_bytes-above (record { format = format; layout = plan.target; rate = 0 })) (omega (arith, h.kept)) in
    let second : more.kept ≡ min more.came (room - first.kept) = c.push_block-more.ensures.kept ∙ ap (min more.came) left in
    let put : length c.push_block-more.new.ring.bytes ≡ length c.loop-eaten.ring.bytes + more.kept * size =
    c.push_block-more.ensures.count ∙ ap (λ (p : PlanSeen). length c.loop-eaten.ring.bytes + more.kept *
    (channels_of p.target * bytes_of format)) h.plan in
    record {
      within = omega (arith, within, h.count);
      count = h.count;
      samples = h.samples;
      most = omega (arith, h.most, c.push_block-more.ensures.most, c.piece-block.ensures.some);
      plan = c.push_block-more.ensures.stays.plan ∙ h.plan;
      kinds = λ have. c.push_block-more.ensures.stays.kinds (h.kinds have);
      far = λ n records.
          let one = h.far n records in
          pushes-far kept c.args.tables.now e b c.args.self.now c.loop-eaten.self c.push_block-more.new.self first more n h.plan records.fits
          one (c.push_block-more.ensures.stays.far (n + e) one.records);
      fits = (let n = c.channels-channels.result in
          let more : (e + b) * n ≡ e * n + ((e + b) * n - e * n) = omega arith in
          subst (All (FitsBits 32)) (sym (ap (λ k. take k samples) more ∙ take-add (e * n) ((e + b) * n - e * n) samples))
          (All-append (FitsBits 32) (take (e * n) samples) part h.fits c.push_block-more.ensures.fits));
      kept = omega (arith, h.kept, second);
      bytes = omega (arith, h.bytes, put);
      size = ap (λ (ring : Ring). ring.size) c.push_block-more.ensures.ring ∙ h.size;
      max = ap (λ (ring : Ring). ring.max) c.push_block-more.ensures.ring ∙ h.max;
      pushes = λ x stands. pushes-on kept c.args.tables.now format (pushed_frames plan samples) e b c.args.self.now c.loop-eaten.self
          c.push_block-more.new.self x room first more
          c.args.ring.now.bytes c.loop-eaten.ring.bytes c.push_block-more.new.ring.bytes (record {
            plan = h.plan;
            is = stands.fits;
            within = within;
            one = h.kept;
            two = second;
            pushed = h.pushes x stands;
            next = λ y records. subst (λ list. Pushes kept c.args.tables.now format list c.loop-eaten.self c.push_block-more.new.self y more
                c.loop-eaten.ring.bytes c.push_block-more.new.ring.bytes) piece
                (c.push_block-more.ensures.pushes y records);
          });
    }
