use Rattle.std.proofs.Common.{◌≡◌, ◌≤◌, ◌*◌, ◌++◌, ℕ, List, ℤ, length, take, ap, ◌∙◌, subst, arith}
use Rattle.std.proofs.lemmas.List.{length-take-le}
use Rattle.pcm_sequence.specs.Fixed.{fixed_items}
use Rattle.pcm_sequence.proofs.Items.{items-written}
use Rattle.pcm_format.specs.Frames.{Frame}
use Rattle.pcm_format.specs.Layouts.{channels_of}
use Rattle.pcm_desk.specs.Device.{seen}
use Rattle.pcm_bus.specs.Blocks.{whole_block}
use Rattle.pcm_bus.specs.Buses.{TurnsTo}
use Rattle.pcm_bus.specs.Handovers.{raised_frames}
use Rattle.pcm_bus.proofs.bus.BusOf.turn.Goals as goal

-- what is mixed is as much as the plan needs
enough : (sum : List ℤ) (samples count channels frames : ℕ) → samples ≤ length sum → samples ≡ count * channels → count ≡ frames
    → length (take samples sum) ≡ frames * channels
enough sum samples count channels frames within is same = length-take-le samples sum within ∙ is ∙ ap (λ k. k * channels) same

pub hand_on-requires-clause-can : goal.hand_on-requires-clause-can
hand_on-requires-clause-can g c =
    let mixed = enough c.deref_mut-3.result.now c.samples-samples.result c.mixed_by-count.result
    (channels_of c.args.self.now.device.mix.layout) _
    (omega (arith, c.samples-samples.ensures.sum, c.deref_mut-3.ensures.len)) c.samples-samples.ensures.value
    c.mixed_by-count.ensures.value in
    record { handed = c.args.handed; made = c.requires.stands.made; enough = mixed }

pub returns-clause-stands : goal.returns-clause-stands
returns-clause-stands g c =
    let made = c.requires.stands.made in
    let mixed = enough c.deref_mut-3.result.now c.samples-samples.result c.mixed_by-count.result
    (channels_of c.args.self.now.device.mix.layout) _
    (omega (arith, c.samples-samples.ensures.sum, c.deref_mut-3.ensures.len)) c.samples-samples.ensures.value
    c.mixed_by-count.ensures.value in
    record {
      planned = c.hand_on.ensures.planned;
      made = c.hand_on.ensures.far c.args.handed made mixed;
    }

pub returns-clause-turns : goal.returns-clause-turns
returns-clause-turns g c = λ sources x stand made.
    let device = seen c.args.tables.now c.args.self.now.device in
    let mixed = enough c.deref_mut-3.result.now c.samples-samples.result c.mixed_by-count.result
    (channels_of c.args.self.now.device.mix.layout) _
    (omega (arith, c.samples-samples.ensures.sum, c.deref_mut-3.ensures.len)) c.samples-samples.ensures.value
    c.mixed_by-count.ensures.value in
    let sum = c.mix_front.new.sum in
    let same = c.deref_mut-3.ensures.value ∙ items-written c.args.self.now.sum sum (c.mix_front.auto.sum ∙ c.deref_mut-2.ensures.len) in
    let block = ap (take c.samples-samples.result) same ∙ c.mix_front.ensures.block sources stand
    ∙ ap (λ k. whole_block device k c.args.mixer.now (fixed_items c.args.channels.now) (fixed_items c.args.maps.now) sources)
    c.mixed_by-count.ensures.value in
    subst (λ (frames : List Frame). TurnsTo g.B.Feeder.kept device c.args.handed c.args.n c.hand_on.new.chain frames c.args.ring.now.bytes
    c.hand_on.new.ring.bytes)
    (ap (λ (b : List ℤ). x ++ raised_frames device b) block) (c.hand_on.ensures.turns x c.args.handed made mixed)
