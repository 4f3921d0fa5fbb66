use Rattle.std.proofs.Common.{◌≡◌, ◌≤◌, ◌*◌, ◌++◌, false, List, length, take, replicate, All, refl, sym, ap, ◌∙◌, subst, arith}
use Rattle.std.proofs.lemmas.List.{append-nil, length-take-le}
use Rattle.pcm_sequence.specs.Fixed.{fixed_items}
use Rattle.pcm_num.specs.Limit.{FitsBits}
use Rattle.pcm_format.specs.Frames.{Frame}
use Rattle.pcm_format.specs.Layouts.{channels_of}
use Rattle.pcm_format.proofs.Streams.{channels_of-above}
use Rattle.pcm_rate.specs.declared.rate.Rate.{Rate}
use Rattle.pcm_feeder.specs.Layouts.{unity}
use Rattle.pcm_feeder.specs.Streams.{silence, written}
use Rattle.pcm_feeder.proofs.Frames.{frames_of-channels}
use Rattle.pcm_plan.specs.Fits.{HaveBits}
use Rattle.pcm_chain.specs.Bits.{bits_left}
use Rattle.pcm_chain.specs.Boxes.{kept_in}
use Rattle.pcm_chain.specs.Feeds.{fed_through, AreFed}
use Rattle.pcm_chain.specs.Chains.{boxes_in, counts_in, plan_in}
use Rattle.pcm_chain.specs.declared.chain.ChainOf.{ChainOf}
use Rattle.pcm_chain.specs.Pushes.{pushed_frames}
use Rattle.pcm_chain.proofs.Counting.{part-within, in_time-after}
use Rattle.pcm_chain.proofs.Feeding.{fed-fits}
use Rattle.pcm_chain.proofs.Giving.{block-gives, block-gives-far, frames-within, sure-silent}
use Rattle.pcm_chain.proofs.Pulling.{IsBlock}
use Rattle.pcm_chain.proofs.Pushing.{copied-frames, parted-frames}
use Rattle.pcm_chain.proofs.chain.ChainOf.give_block.Goals as goal
use Rattle.pcm_chain.proofs.chain.ChainOf.give_block.Goals.{After-after-self}

pub after-self-requires-clause-in_time : goal.after-self-requires-clause-in_time
after-self-requires-clause-in_time g c =
    in_time-after c.rated_counts-counts.result.rate false c.rated_counts-counts.result.counts _ c.args.want c.advance-advance.result
    c.rated_counts-counts.result.near.ratio c.rated_counts-counts.result.bounded.in_time c.advance-advance.ensures.goes

pub after-self-requires-clause-within : goal.after-self-requires-clause-within
after-self-requires-clause-within g c =
    let whole = ap (λ (r : Rate). r.dst) c.rated_counts-counts.ensures.rate in
    part-within c.rated_counts-counts.result.rate.dst c.period.result.1
    c.period.ensures.same.factor c.rated_counts-counts.result.near.ratio.dst (whole ∙ c.period.ensures.same.dst_is)

pub returns-clause-stays : goal.returns-clause-stays
returns-clause-stays g c =
    let kept = g.B.Feeder.kept in
    let is = c.rated_counts-counts.ensures.fits in
    let source = c.channels-source.result in
    let plan = c.args.self.now.plan in
    record {
      plan = refl;
      kinds = c.feed_stages.ensures.kinds;
      fitted = fed-fits (kept_in kept c.args.self.now.boxes) (kept_in kept c.feed_stages.new.boxes) c.args.tables.now unity c.args.want
          plan.stages source (channels_of plan.target) _ is.specs c.requires.can.fitted
          (rw (c.channels-source.ensures, c.source.ensures) is.follow) (frames_of-channels source _)
          (rw c.stages.ensures.value at c.feed_stages.ensures.gone.fed);
    }

pub slice_bounds-copy-end : goal.slice_bounds-copy-end
slice_bounds-copy-end g c =
    let plan = c.args.self.now.plan in
    let samples = c.args.input.now in
    let n = c.advance-advance.result.eaten in
    let layout : c.channels-source.result ≡ channels_of plan.source = c.channels-source.ensures ∙ ap channels_of c.source.ensures in
    let room = frames-within (channels_of plan.source) n samples (omega (arith, c.advance-advance.ensures.there, c.requires.waiting)) in
    sym (length-take-le (n * c.channels-source.result) samples (omega (arith, room, ap (λ k. n * k) layout)))

pub returns-clause-fits : goal.returns-clause-fits
returns-clause-fits g c =
    let layout : c.channels-source.result ≡ channels_of c.args.self.now.plan.source = c.channels-source.ensures
    ∙ ap channels_of c.source.ensures in
    subst (λ n. All (FitsBits 32) (take (c.advance-advance.result.eaten * n) c.args.input.now)) layout c.copy.ensures.fits

-- the block, by the contracts of its calls
is-block : (g : _) (c : After-after-self g) (new : ChainOf g.row.B.Denot) → plan_in new ≡ c.args.self.now.plan → boxes_in new ≡ c.feed_stages.new.boxes
    → counts_in new ≡ c.after-self.result
    → IsBlock g.B.Feeder.kept c.args.tables.now unity false c.args.want (pushed_frames c.args.self.now.plan c.args.input.now)
    c.args.self.now new c.advance-advance.result c.args.out.now c.feed_stages.new.out
is-block g c new plan_same boxes_same counts_same =
    let kept = g.B.Feeder.kept in
    let old = c.args.self.now in
    let plan = old.plan in
    let width = channels_of plan.source in
    let samples = c.args.input.now in
    let advance = c.advance-advance.result in
    let waiting = pushed_frames plan samples in
    let layout : c.channels-source.result ≡ width = c.channels-source.ensures ∙ ap channels_of c.source.ensures in
    let above = channels_of-above plan.source in
    let goes = rw c.requires.waiting at c.advance-advance.ensures.goes in
    let within : advance.eaten ≤ length waiting = omega (arith, c.advance-advance.ensures.there, c.requires.waiting) in
    let room : advance.eaten * width ≤ length samples = frames-within width advance.eaten samples within in
    let loaded = subst (λ n. take (length (take (advance.eaten * n) samples)) (fixed_items c.copy.new.self.now) ≡ take (advance.eaten * n)
    samples) layout c.copy.ensures.loaded in
    let input = copied-frames width advance.eaten c.channels-source.result (take (advance.eaten * width) samples)
    (fixed_items c.copy.new.self.now) layout (length-take-le (advance.eaten * width) samples room) loaded in
    let quiet = sure-silent c.rated_counts-counts.result.rate c.rated_counts-counts.result.counts (length waiting) c.args.want advance
    c.rated_counts-counts.result.near.ratio goes in
    let input_is = input ∙ (parted-frames width advance.eaten samples above room).0
    ∙ sym (append-nil (take advance.eaten waiting))
    ∙ ap (λ n. take advance.eaten waiting ++ replicate n (silence width)) (sym quiet) in
    let Fed : List Frame → Type 0 = λ list. AreFed (kept_in kept old.boxes) (kept_in kept c.feed_stages.new.boxes) c.args.tables.now unity
    c.args.want plan.stages list in
    record {
      plan = plan_same;
      bounded = old.bounded;
      goes = rw (c.rated_counts-counts.ensures.rate, c.rated_counts-counts.ensures.counts) at goes;
      within = within;
      counts = rw counts_same (rw (c.rated_counts-counts.ensures.rate, c.rated_counts-counts.ensures.counts) at c.after-self.ensures.stands);
      have = frames_of-channels width samples;
      fed = rw boxes_same (subst Fed input_is (rw c.stages.ensures.value at c.feed_stages.ensures.gone.fed));
      bits = subst (λ list. HaveBits (bits_left plan.stages)
          (fed_through (kept_in kept old.boxes) c.args.tables.now unity c.args.want plan.stages list)) input_is
          (rw c.stages.ensures.value at c.feed_stages.ensures.gone.bits);
      out = (rw c.stages.ensures.value at c.feed_stages.ensures.gone.out)
          ∙ ap (λ list. written (fed_through (kept_in kept old.boxes) c.args.tables.now unity c.args.want plan.stages list) c.args.out.now)
          input_is;
    }

pub returns-clause-far : goal.returns-clause-far
returns-clause-far g c n given stands enough =
    block-gives-far g.B.Feeder.kept c.args.tables.now c.args.want (pushed_frames c.args.self.now.plan c.args.input.now) c.args.self.now _ c.advance-advance.result
    c.args.out.now c.feed_stages.new.out n given (is-block g c.before _ refl refl refl) stands enough

pub returns-clause-gives : goal.returns-clause-gives
returns-clause-gives g c x given stands enough =
    block-gives g.B.Feeder.kept c.args.tables.now c.args.want (pushed_frames c.args.self.now.plan c.args.input.now) c.args.self.now _ c.advance-advance.result
    c.args.out.now c.feed_stages.new.out x given (is-block g c.before _ refl refl refl) stands enough
