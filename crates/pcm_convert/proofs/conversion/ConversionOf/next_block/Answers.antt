use Rattle.std.specs.Prelude.{All}
use Rattle.std.specs.List.{flat_map}
use Rattle.std.proofs.Common.{rules, ◌≡◌, ◌+◌, ◌*◌, ◌<◌, ◌++◌, ℕ, length, take, drop, refl, sym, ap, ◌∙◌, subst, arith}
use Rattle.std.proofs.Math.Nat.{mul-le-mul_right, mul_assoc}
use Rattle.std.proofs.lemmas.Grind.{common_steps}
use Rattle.std.proofs.lemmas.List.{length-take-le}
use Rattle.std.proofs.lemmas.List.Elements.{All-from_get_or}
use Rattle.pcm_format.specs.Formats.{bits_of, bytes_of}
use Rattle.pcm_format.specs.Frames.{frame_bytes, frames}
use Rattle.pcm_format.specs.Layouts.{channels_of}
use Rattle.pcm_format.specs.Samples.{spelled}
use Rattle.pcm_ring.specs.Ring.{Ring}
use Rattle.pcm_feeder.specs.Filters.{Filters, no_filters}
use Rattle.pcm_sequence.proofs.Items.{items-written}
use Rattle.pcm_plan.specs.Fits.{HaveTables}
use Rattle.pcm_plan.specs.Plans.{PlanSeen}
use Rattle.pcm_plan.specs.Through.{recs}
use Rattle.pcm_plan.proofs.Bits.{recs-bits}
use Rattle.pcm_plan.proofs.Fits.{record-tables}
use Rattle.pcm_chain.specs.Chains.{ChainStands, plan_in}
use Rattle.pcm_chain.proofs.Standing.{stands-fitted}
use Rattle.pcm_convert.specs.Conversions.{block_count, conversion_plan}
use Rattle.pcm_convert.proofs.Blocks.{block-given, no_filters-fit}
use Rattle.pcm_convert.proofs.Bodies.{frames-bits, interleaved-bits, spelled-interleaved}
use Rattle.pcm_convert.proofs.Bytes.{block-recs}
use Rattle.pcm_convert.proofs.conversion.ConversionOf.next_block.Goals as goal

pub pull-pulled-requires : goal.pull-pulled-requires
pull-pulled-requires g c =
    let s = c.requires.stands.1 in
    let old = c.args.self.now in
    record {
      fitted = stands-fitted g.B.Feeder.kept no_filters c.args.self.now.chain _ s.zeros c.requires.stands.0 s.chain_is;
      limits = search rules;
      filters = subst (λ (t : Filters). HaveTables (plan_in old.chain).stages t) (sym old.filters)
          (subst (λ (p : PlanSeen). HaveTables p.stages no_filters) (sym old.plan)
          (record-tables no_filters 1 old.target old.source no_filters-fit old.target_rate old.source_rate));
      room = grind (arith, common_steps);
    }

pub spell_frames-requires-clause-lengths : goal.spell_frames-requires-clause-lengths
spell_frames-requires-clause-lengths g c =
    let target = c.args.self.now.target in
    let n = c.pull-pulled.result.given in
    let channels = channels_of target.layout in
    let few = mul-le-mul_right (frame_bytes target) c.pull-pulled.ensures.leaves.most in
    let narrow = mul-le-mul_right channels c.pull-pulled.ensures.leaves.most in
    let bytes : length (take (n * c.frame_bytes.result) c.args.out.now) ≡ n * frame_bytes target =
    ap (λ k. length (take (n * k) c.args.out.now)) c.frame_bytes.ensures
    ∙ length-take-le (n * frame_bytes target) c.args.out.now (omega (arith, few, c.requires.room)) in
    let back : c.deref.result.now ≡ c.pull-pulled.new.out =
    c.deref.ensures.value ∙ items-written c.args.self.now.samples c.pull-pulled.new.out
    (c.pull-pulled.auto.out ∙ c.deref_mut.ensures.len) in
    let count : length (take (n * c.channels.result) c.deref.result.now) ≡ n * channels =
    ap (λ k. length (take (n * k) c.deref.result.now)) c.channels.ensures
    ∙ length-take-le (n * channels) c.deref.result.now
    (omega (arith, narrow, ap length back, c.pull-pulled.auto.out, c.deref_mut.ensures.len, c.args.self.now.block)) in
    bytes ∙ sym (mul_assoc n channels (bytes_of target.format)) ∙ ap (λ k. k * bytes_of target.format) (sym count)

pub spell_frames-requires-clause-range : goal.spell_frames-requires-clause-range
spell_frames-requires-clause-range g c =
    let given = c.requires.stands.0 in
    let s = c.requires.stands.1 in
    let old = c.args.self.now in
    let body = c.args.body.now in
    let block = block-given g.B.Feeder.kept old body given c.put.result c.put.new.self.bytes c.pull-pulled.new.ring.bytes _
    c.pull-pulled.new.self c.pull-pulled.result _ c.pull-pulled.new.out s c.put.ensures.count
    (ap (λ (ring : Ring). ring.bytes) c.put.ensures.kept) refl c.pull-pulled.ensures.pulls
    (ap (λ (ring : Ring). ring.bytes) c.pull-pulled.ensures.leaves.ring) in
    let n = c.pull-pulled.result.given in
    let all = frames old.source body in
    let list = recs (conversion_plan old.source old.target) no_filters all given n in
    let below : All (λ byte. byte < 256) body = All-from_get_or (λ byte. byte < 256) body 0 (λ i _. (c.type_inv.body i).fits) in
    let back : c.deref.result.now ≡ c.pull-pulled.new.out =
    c.deref.ensures.value ∙ items-written c.args.self.now.samples c.pull-pulled.new.out
    (c.pull-pulled.auto.out ∙ c.deref_mut.ensures.len) in
    let front = ap (λ samples. take (n * c.channels.result) samples) back ∙ ap (λ k. take (n * k) c.pull-pulled.new.out) c.channels.ensures
    ∙ block.frames_are in
    rw front (interleaved-bits (bits_of old.target.format) list
    (recs-bits no_filters 1 old.target old.source all given n old.target_rate (frames-bits old.source body below)))

pub returns-clause-count : goal.returns-clause-count
returns-clause-count g c = λ given s.
    let old = c.args.self.now in
    let body = c.args.body.now in
    let block = block-given g.B.Feeder.kept old body given c.put.result c.put.new.self.bytes c.pull-pulled.new.ring.bytes _
    c.pull-pulled.new.self c.pull-pulled.result _ c.pull-pulled.new.out s c.put.ensures.count
    (ap (λ (ring : Ring). ring.bytes) c.put.ensures.kept) refl c.pull-pulled.ensures.pulls
    (ap (λ (ring : Ring). ring.bytes) c.pull-pulled.ensures.leaves.ring) in
    let size : c.frame_bytes.result ≡ frame_bytes old.target = c.frame_bytes.ensures in
    let count : c.pull-pulled.result.given ≡ block_count old.source old.target body given = block.count in
    ap (λ k. c.pull-pulled.result.given * k) size
    ∙ ap (λ k. k * frame_bytes old.target) {y = block_count old.source old.target body given} count

pub returns-clause-block : goal.returns-clause-block
returns-clause-block g c = λ given s.
    let old = c.args.self.now in
    let body = c.args.body.now in
    let block = block-given g.B.Feeder.kept old body given c.put.result c.put.new.self.bytes c.pull-pulled.new.ring.bytes _
    c.pull-pulled.new.self c.pull-pulled.result _ c.pull-pulled.new.out s c.put.ensures.count
    (ap (λ (ring : Ring). ring.bytes) c.put.ensures.kept) refl c.pull-pulled.ensures.pulls
    (ap (λ (ring : Ring). ring.bytes) c.pull-pulled.ensures.leaves.ring) in
    let n = c.pull-pulled.result.given in
    let format = old.target.format in
    let list = recs (conversion_plan old.source old.target) no_filters (frames old.source body) given n in
    let back : c.deref.result.now ≡ c.pull-pulled.new.out =
    c.deref.ensures.value ∙ items-written c.args.self.now.samples c.pull-pulled.new.out
    (c.pull-pulled.auto.out ∙ c.deref_mut.ensures.len) in
    let front = ap (λ samples. take (n * c.channels.result) samples) back ∙ ap (λ k. take (n * k) c.pull-pulled.new.out) c.channels.ensures
    ∙ block.frames_are in
    ap (λ bytes. bytes ++ drop (n * c.frame_bytes.result) c.args.out.now)
    (c.spell_frames.ensures ∙ ap (flat_map (spelled format)) front ∙ spelled-interleaved format list
    ∙ block-recs old.source old.target body given n old.source_rate old.target_rate block.count)

pub returns-clause-stands : goal.returns-clause-stands
returns-clause-stands g c = λ given s.
    let old = c.args.self.now in
    let body = c.args.body.now in
    let block = block-given g.B.Feeder.kept old body given c.put.result c.put.new.self.bytes c.pull-pulled.new.ring.bytes _
    c.pull-pulled.new.self c.pull-pulled.result _ c.pull-pulled.new.out s c.put.ensures.count
    (ap (λ (ring : Ring). ring.bytes) c.put.ensures.kept) refl c.pull-pulled.ensures.pulls
    (ap (λ (ring : Ring). ring.bytes) c.pull-pulled.ensures.leaves.ring) in
    let eaten = s.eaten + c.pull-pulled.result.eaten in
    let P : ℕ → Type 0 = λ n. ChainStands g.B.Feeder.kept no_filters c.pull-pulled.new.self (take eaten (frames old.source body))
    block.zeros (given + n) in
    record {
      eaten = eaten;
      zeros = block.zeros;
      read = block.read;
      within = block.within;
      ring_is = block.ring_is;
      chain_is = subst P block.count block.chain_is;
      ended = block.ended;
    }
