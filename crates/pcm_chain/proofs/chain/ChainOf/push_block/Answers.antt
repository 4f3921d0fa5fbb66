use Rattle.std.proofs.Common.{◌+◌, ◌++◌, ◌≡◌, ◌≤◌, ◌*◌, All, length, take, drop, refl, sym, ap, ◌∙◌, subst, arith}
use Rattle.std.specs.List.{flat_map}
use Rattle.std.proofs.Math.Nat.{mul_assoc, mul-le-mul}
use Rattle.std.proofs.lemmas.List.{take_at, length-append, length-take-le}
use Rattle.pcm_sequence.specs.Fixed.{fixed_items, fixed_len}
use Rattle.pcm_num.specs.Limit.{FitsBits}
use Rattle.pcm_format.specs.Formats.{bits_of, bytes_of}
use Rattle.pcm_format.specs.Layouts.{channels_of}
use Rattle.pcm_format.specs.Samples.{spelled}
use Rattle.pcm_format.proofs.Spelling.{length-flat_map-spelled}
use Rattle.pcm_format.proofs.Streams.{channels_of-above, channels_of-most}
use Rattle.pcm_ring.specs.Ring.{Ring}
use Rattle.pcm_rate.specs.declared.rate.Rate.{Rate}
use Rattle.pcm_rate.specs.Rates.{can}
use Rattle.pcm_feeder.proofs.Frames.{frames_of-channels}
use Rattle.pcm_plan.specs.Plans.{rate_in_plan}
use Rattle.pcm_plan.specs.Through.{recs}
use Rattle.pcm_chain.specs.declared.counts.Advance.{Advance}
use Rattle.pcm_chain.specs.Counts.{AreBounded}
use Rattle.pcm_chain.specs.Chains.{boxes_in, counts_in, plan_in}
use Rattle.pcm_chain.specs.declared.chain.ChainOf.{ChainOf}
use Rattle.pcm_chain.specs.Pushes.{pushed_frames}
use Rattle.pcm_chain.proofs.Counting.{part-within}
use Rattle.pcm_chain.proofs.Pushing.{whole-in_time, come, IsWhole, whole-is, whole-pushes, block-records, block-records-far, come-first, copied-frames, count-frames, spelled-interleaved}
use Rattle.pcm_chain.proofs.Far.{far-fitted}
use Rattle.pcm_chain.proofs.chain.ChainOf.push_block.Goals as goal
use Rattle.pcm_chain.proofs.chain.ChainOf.push_block.Goals.{After-deref}

pub feed_stages-requires-clause-fitted : goal.feed_stages-requires-clause-fitted
feed_stages-requires-clause-fitted g c = rw c.stages.ensures.value
    (far-fitted g.B.Feeder.kept c.args.tables.now c.args.self.now c.requires.can.eaten 0 _ c.requires.can.records)

pub after-self-requires-clause-in_time : goal.after-self-requires-clause-in_time
after-self-requires-clause-in_time g c = rw c.advance_whole-advance.ensures
    (whole-in_time c.rated_counts-counts.result.rate c.rated_counts-counts.result.counts c.args.frames
    c.rated_counts-counts.result.near.ratio c.rated_counts-counts.result.bounded.in_time)

pub after-self-requires-clause-within : goal.after-self-requires-clause-within
after-self-requires-clause-within g c =
    let whole = ap (λ (r : Rate). r.dst) c.rated_counts-counts.ensures.rate in
    part-within c.rated_counts-counts.result.rate.dst c.period.result.1 c.period.ensures.same.factor
    c.rated_counts-counts.result.near.ratio.dst (whole ∙ c.period.ensures.same.dst_is)

-- the block, by the contracts of its calls
is-whole : (g : _) (c : After-deref g) (new : ChainOf g.row.B.Denot) → plan_in new ≡ c.args.self.now.plan → boxes_in new ≡ c.feed_stages.new.boxes
    → counts_in new ≡ c.after-self.result
    → IsWhole g.B.Feeder.kept c.args.tables.now (pushed_frames c.args.self.now.plan c.args.input.now) c.args.self.now new c.deref_mut.result.now c.feed_stages.new.out
    × (c.advance_whole-advance.result.given ≡ come c.args.self.now (pushed_frames c.args.self.now.plan c.args.input.now))
is-whole g c new plan_same boxes_same counts_same =
    let kept = g.B.Feeder.kept in
    let old = c.args.self.now in
    let plan = old.plan in
    let layout = c.channels-source.ensures ∙ ap channels_of c.source.ensures in
    let above = channels_of-above plan.source in
    let input = pushed_frames plan c.args.input.now in
    let offers = copied-frames (channels_of plan.source) c.args.frames c.channels-source.result c.args.input.now
    (fixed_items c.copy.new.self.now) layout c.requires.whole c.copy.ensures.loaded in
    let have = frames_of-channels (channels_of plan.source) c.args.input.now in
    whole-is kept c.args.tables.now input _ old new _ _ c.rated_counts-counts.result.rate c.args.frames
    c.advance_whole-advance.result c.stages.result.now c.rated_counts-counts.ensures.rate
    (count-frames (channels_of plan.source) c.args.frames c.args.input.now above c.requires.whole)
    (rw c.rated_counts-counts.ensures.counts at c.advance_whole-advance.ensures) c.stages.ensures.value offers plan_same have
    (rw counts_same (rw c.rated_counts-counts.ensures.counts at c.after-self.ensures.stands)) (rw boxes_same c.feed_stages.ensures.gone.fed) c.feed_stages.ensures.gone.bits
    c.feed_stages.ensures.gone.out

-- the frames that came stand at the front of the block
back-is : (g : _) (c : After-deref g) → c.deref.result.now ≡ c.feed_stages.new.out
back-is g c =
    c.deref.ensures.value ∙ take_at c.feed_stages.new.out (drop (length c.feed_stages.new.out) (fixed_items c.args.self.now.block))
    (fixed_len c.args.self.now.block) (omega (arith, c.feed_stages.auto.out, c.deref_mut.ensures.len))

pub spell-kept-requires-clause-range : goal.spell-kept-requires-clause-range
spell-kept-requires-clause-range g c =
    let old = c.args.self.now in
    let plan = old.plan in
    let can = c.requires.can in
    let given = c.advance_whole-advance.result.given in
    let out = c.feed_stages.new.out in
    let input = pushed_frames plan c.args.input.now in
    let whole = is-whole g c.before
    (record old {
      boxes = c.feed_stages.new.boxes;
      counts = c.after-self.result;
      bounded = subst (λ r. AreBounded r c.after-self.result)
          c.rated_counts-counts.ensures.rate c.after-self.ensures.bounded;
    }) refl refl refl in
    let far = block-records-far g.B.Feeder.kept c.args.tables.now input old _ can.eaten _ out whole.0 can.records in
    let same = ap (take (given * c.channels-target.result)) (back-is g c.before)
    ∙ ap (λ n. take (given * n) out) (c.channels-target.ensures ∙ ap channels_of c.target.ensures)
    ∙ ap (λ n. take (n * channels_of plan.target) out) whole.1 in
    subst (All (FitsBits (bits_of c.args.format))) (sym same)
    (subst (λ bits. All (FitsBits bits) (take (come old input * channels_of plan.target) out)) can.bits far.bits)

pub returns-clause-stays : goal.returns-clause-stays
returns-clause-stays g c = record {
  plan = refl;
  kinds = c.feed_stages.ensures.kinds;
  far = λ eaten records.
      let old = c.args.self.now in
      whole-pushes g.B.Feeder.kept c.args.tables.now (pushed_frames old.plan c.args.input.now) old _ eaten c.args.frames
      (record { came = c.advance_whole-advance.result.given; kept = c.spell-kept.result }) _ c.feed_stages.new.out
      (is-whole g c.before.before.before _ refl refl refl)
      (count-frames (channels_of old.plan.source) c.args.frames c.args.input.now (channels_of-above old.plan.source) c.requires.whole) records;
}

pub returns-clause-pushes : goal.returns-clause-pushes
returns-clause-pushes g c x stands =
    let kept = g.B.Feeder.kept in
    let old = c.args.self.now in
    let plan = old.plan in
    let input = pushed_frames plan c.args.input.now in
    let have = frames_of-channels (channels_of plan.source) c.args.input.now in
    let whole = is-whole g c.before.before.before _ refl refl refl in
    let more = block-records kept c.args.tables.now input old _ x _ c.feed_stages.new.out whole.0 stands in
    let front = come-first kept c.args.tables.now input old _ x _ c.feed_stages.new.out c.deref.result.now c.spell-kept.result
    c.channels-target.result more stands have (back-is g c.before.before.before)
    (c.channels-target.ensures ∙ ap channels_of c.target.ensures) (omega (arith, whole.1, c.spell-kept.ensures.kept)) in
    record {
      came = whole.1 ∙ more.came;
      records = more.records;
      bytes = ap (λ (ring : Ring). ring.bytes) c.spell-kept.ensures.ring
          ∙ ap (λ list. c.args.ring.now.bytes ++ flat_map (spelled c.args.format) list) front
          ∙ ap (λ list. c.args.ring.now.bytes ++ list)
          (spelled-interleaved c.args.format (recs plan c.args.tables.now (x ++ input) (can (rate_in_plan plan) (length x))
          c.spell-kept.result));
    }

pub returns-clause-count : goal.returns-clause-count
returns-clause-count g c =
    let n = c.spell-kept.result in
    let w = bytes_of c.args.format in
    let plan = c.args.self.now.plan in
    let width : c.channels-target.result ≡ channels_of plan.target = c.channels-target.ensures ∙ ap channels_of c.target.ensures in
    let given = c.advance_whole-advance.result.given in
    let few : given + 1 ≤ 256 = omega (
      arith,
      ap (λ (a : Advance). a.given)
          (rw c.rated_counts-counts.ensures.counts at c.advance_whole-advance.ensures),
      c.requires.reach,
      ap
          (λ r. can r (c.args.self.now.counts.eaten + c.args.frames)) c.rated_counts-counts.ensures.rate,
    ) in
    let small : n ≤ 256 = omega (arith, few, c.spell-kept.ensures.kept) in
    let most : c.channels-target.result ≤ 8 = omega (arith, width, channels_of-most plan.target) in
    let narrow = mul-le-mul small most in
    let list = take (n * c.channels-target.result) c.deref.result.now in
    let long : length list ≡ n * c.channels-target.result = length-take-le (n * c.channels-target.result) c.deref.result.now
    (omega (arith, narrow, c.deref.ensures.len, c.args.self.now.block_size)) in
    let spells = length-flat_map-spelled c.args.format list in
    omega (
      arith,
      ap (λ (ring : Ring). length ring.bytes) c.spell-kept.ensures.ring,
      length-append c.args.ring.now.bytes
          (flat_map (spelled c.args.format) list),
      spells,
      ap (λ k. k * w) long,
      mul_assoc n c.channels-target.result w,
      ap (λ k. n * (k * w))
          width,
    )
