use Rattle.std.proofs.Common.{◌≡◌, ◌≤◌, ◌*◌, List, ◌++◌, length, take, drop, replicate, refl, ap, ◌∙◌, subst, arith}
use Rattle.std.proofs.Math.Nat.{mul_assoc}
use Rattle.pcm_sequence.specs.Fixed.{fixed_items}
use Rattle.pcm_format.specs.Formats.{bytes_of}
use Rattle.pcm_format.specs.Frames.{Frame}
use Rattle.pcm_format.specs.Layouts.{channels_of}
use Rattle.pcm_format.specs.Samples.{samples}
use Rattle.pcm_ring.specs.Ring.{Ring}
use Rattle.pcm_rate.specs.declared.rate.Rate.{Rate}
use Rattle.pcm_feeder.specs.Streams.{silence, written}
use Rattle.pcm_feeder.proofs.Frames.{frames_of-channels}
use Rattle.pcm_plan.specs.Fits.{HaveBits}
use Rattle.pcm_chain.specs.Bits.{bits_left}
use Rattle.pcm_chain.specs.Boxes.{kept_in}
use Rattle.pcm_chain.specs.Feeds.{fed_through, AreFed}
use Rattle.pcm_chain.specs.Chains.{boxes_in, counts_in, plan_in}
use Rattle.pcm_chain.specs.declared.chain.ChainOf.{ChainOf}
use Rattle.pcm_chain.specs.Pulls.{waiting_frames}
use Rattle.pcm_chain.proofs.Counting.{part-within, goes-level, in_time-after}
use Rattle.pcm_chain.proofs.Feeding.{fed-fits}
use Rattle.pcm_chain.proofs.Pulling.{IsBlock, block-far, block-pulls}
use Rattle.pcm_chain.proofs.Waiting.{bytes-wait, loaded-frames}
use Rattle.pcm_chain.proofs.chain.ChainOf.pull_block.Goals as goal
use Rattle.pcm_chain.proofs.chain.ChainOf.pull_block.Goals.{After-after-self}

pub feed_stages-requires-clause-level : goal.feed_stages-requires-clause-level
feed_stages-requires-clause-level g c level =
    goes-level c.rated_counts-counts.result.rate c.args.ended c.rated_counts-counts.result.counts _ c.args.want c.advance-advance.result
    (c.rated_counts-counts.ensures.rate ∙ rw c.stages.ensures.value at level) c.advance-advance.ensures.goes

pub after-self-requires-clause-in_time : goal.after-self-requires-clause-in_time
after-self-requires-clause-in_time g c =
    in_time-after c.rated_counts-counts.result.rate c.args.ended c.rated_counts-counts.result.counts _ c.args.want c.advance-advance.result
    c.rated_counts-counts.result.near.ratio c.rated_counts-counts.result.bounded.in_time c.advance-advance.ensures.goes

pub after-self-requires-clause-within : goal.after-self-requires-clause-within
after-self-requires-clause-within g c =
    let whole = ap (λ (r : Rate). r.dst) c.rated_counts-counts.ensures.rate in
    part-within c.rated_counts-counts.result.rate.dst c.period.result.1 c.period.ensures.same.factor
    c.rated_counts-counts.result.near.ratio.dst (whole ∙ c.period.ensures.same.dst_is)

pub load-requires-clause-waiting : goal.load-requires-clause-waiting
load-requires-clause-waiting g c =
    let plan = c.args.self.now.plan in
    let n = c.advance-advance.result.eaten in
    let width = mul_assoc n c.channels-source.result (bytes_of c.args.format)
    ∙ ap (λ k. n * (k * bytes_of c.args.format)) (c.channels-source.ensures ∙ ap channels_of c.source.ensures) in
    omega (
      arith,
      width,
      bytes-wait plan c.args.format c.args.ring.now.bytes n
          (omega (arith, c.advance-advance.ensures.there, c.requires.waiting)),
    )

pub returns-clause-leaves : goal.returns-clause-leaves
returns-clause-leaves g c =
    let kept = g.B.Feeder.kept in
    let is = c.rated_counts-counts.ensures.fits in
    let source = c.channels-source.result in
    let plan = c.args.self.now.plan in
    let n = c.advance-advance.result.eaten in
    let bytes = c.args.ring.now.bytes in
    let width = mul_assoc n source (bytes_of c.args.format)
    ∙ ap (λ k. n * (k * bytes_of c.args.format)) (c.channels-source.ensures ∙ ap channels_of c.source.ensures) in
    record {
      stays = record {
        plan = refl;
        kinds = c.feed_stages.ensures.kinds;
        fitted = fed-fits (kept_in kept c.args.self.now.boxes) (kept_in kept c.feed_stages.new.boxes) c.args.tables.now c.args.gain
            c.args.want plan.stages source (channels_of plan.target) _ is.specs c.requires.can.fitted
            (rw (c.channels-source.ensures, c.source.ensures) is.follow) (frames_of-channels source _)
            (rw c.stages.ensures.value at c.feed_stages.ensures.gone.fed);
      };
      most = c.advance-advance.ensures.given;
      ring = c.load.ensures.ring ∙ ap (λ k. let left : Ring = record c.args.ring.now { bytes = drop k bytes } in left) width;
    }

-- the block, by the contracts of its calls
is-block : (g : _) (c : After-after-self g) (new : ChainOf g.row.B.Denot) → plan_in new ≡ c.args.self.now.plan → boxes_in new ≡ c.feed_stages.new.boxes
    → counts_in new ≡ c.after-self.result
    → IsBlock g.B.Feeder.kept c.args.tables.now c.args.gain c.args.ended c.args.want (waiting_frames c.args.self.now.plan c.args.format c.args.ring.now.bytes)
    c.args.self.now new c.advance-advance.result c.args.out.now c.feed_stages.new.out
is-block g c new plan_same boxes_same counts_same =
    let kept = g.B.Feeder.kept in
    let plan = c.args.self.now.plan in
    let source = c.channels-source.result in
    let bytes = c.args.ring.now.bytes in
    let advance = c.advance-advance.result in
    let waiting = waiting_frames plan c.args.format bytes in
    let layout = c.channels-source.ensures ∙ ap channels_of c.source.ensures in
    let within : advance.eaten ≤ length waiting = omega (arith, c.advance-advance.ensures.there, c.requires.waiting) in
    let input = loaded-frames plan c.args.format bytes advance.eaten advance.silent source (fixed_items c.load.new.self.now) layout within
    c.load.ensures.loaded in
    let input_is = input ∙ ap (λ n. take advance.eaten waiting ++ replicate advance.silent (silence n)) layout in
    let Fed : List Frame → Type 0 = λ list. AreFed (kept_in kept c.args.self.now.boxes) (kept_in kept c.feed_stages.new.boxes)
    c.args.tables.now c.args.gain c.args.want plan.stages list in
    record {
      plan = plan_same;
      bounded = c.args.self.now.bounded;
      goes = rw (
        c.requires.waiting,
        c.rated_counts-counts.ensures.rate,
        c.rated_counts-counts.ensures.counts,
      ) at c.advance-advance.ensures.goes;
      within = within;
      counts = rw counts_same (rw (c.rated_counts-counts.ensures.rate, c.rated_counts-counts.ensures.counts) at c.after-self.ensures.stands);
      have = frames_of-channels (channels_of plan.source) (samples c.args.format bytes);
      fed = rw boxes_same (subst Fed input_is (rw c.stages.ensures.value at c.feed_stages.ensures.gone.fed));
      bits = subst (λ list. HaveBits (bits_left plan.stages)
          (fed_through (kept_in kept c.args.self.now.boxes) c.args.tables.now c.args.gain c.args.want plan.stages list)) input_is
          (rw c.stages.ensures.value at c.feed_stages.ensures.gone.bits);
      out = (rw c.stages.ensures.value at c.feed_stages.ensures.gone.out)
          ∙ ap (λ list. written (fed_through (kept_in kept c.args.self.now.boxes) c.args.tables.now c.args.gain c.args.want plan.stages
          list) c.args.out.now) input_is;
    }

pub returns-clause-far : goal.returns-clause-far
returns-clause-far g c n quiet before stands past =
    let far = block-far g.B.Feeder.kept c.args.tables.now c.args.gain c.args.ended c.args.want (waiting_frames c.args.self.now.plan c.args.format c.args.ring.now.bytes)
    c.args.self.now _ c.advance-advance.result c.args.out.now c.feed_stages.new.out n quiet before (is-block g c.before _ refl refl refl) stands past in
    far.goes

pub returns-clause-pulls : goal.returns-clause-pulls
returns-clause-pulls g c x quiet before stands past =
    block-pulls g.B.Feeder.kept c.args.tables.now c.args.gain c.args.ended c.args.want (waiting_frames c.args.self.now.plan c.args.format c.args.ring.now.bytes)
    c.args.self.now _ c.advance-advance.result c.args.out.now c.feed_stages.new.out x quiet before (is-block g c.before _ refl refl refl) stands past
