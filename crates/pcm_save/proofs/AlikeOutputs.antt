-- What goes to the device is known by its bytes.
use Rattle.std.proofs.Common.{◌≡◌, ℕ, ◌*◌, List, ◌++◌, length, map, sym, ap, ◌∙◌, subst, arith, false, refl}
use Rattle.std.proofs.lemmas.List.{length-append, length-map}
use Rattle.pcm_format.specs.Frames.{Frame, frame_bytes}
use Rattle.pcm_feeder.specs.Kept.{Kept}
use Rattle.pcm_rate.specs.Rates.{need}
use Rattle.pcm_plan.specs.Plans.{PlanSeen, rate_in_plan}
use Rattle.pcm_chain.specs.Chains.{plan_in}
use Rattle.pcm_chain.specs.Pasts.{past_of, past_sizes}
use Rattle.pcm_chain.proofs.Far.{far-fitted}
use Rattle.pcm_chain.proofs.Known.{chain-known, length-past-of}
use Rattle.pcm_mixdev.specs.Mixers.{Levels}
use Rattle.pcm_desk.specs.declared.device.Device.{Device}
use Rattle.pcm_desk.specs.Device.{DeviceSeen, device_filters, mixed_for}
use Rattle.pcm_bus.specs.Handovers.{HasMade, HasMadeFar}
use Rattle.pcm_vchan.specs.declared.parent.ParentOf.{ParentOf}
use Rattle.pcm_vchan.specs.Parents.{HasBus}
use Rattle.pcm_state.specs.MixerRows.{mixer_row, FitsMixer}
use Rattle.pcm_state.specs.Numbers.{spelled_numbers}
use Rattle.pcm_state.specs.OpeningRows.{flag}
use Rattle.pcm_state.proofs.Known.{mixer-known}
use Rattle.pcm_state.proofs.Pieces.{front-known, rest-known}
use Rattle.pcm_state.proofs.Spelled.{length-numbers, numbers-known}
use Rattle.pcm_save.specs.Joined.{three-joined, past-known}
use Rattle.pcm_save.specs.Outputs.{output_state}
use Rattle.pcm_save.specs.Parts.{past_bytes}

-- two parents of one device, to which as many frames were handed over, whose buses have made them
pub record OutputsReady {B : Type 0} (kept : B → Kept) (device : DeviceSeen) (one other : ParentOf B) : Type 0 where
  pub device_same : other.device ≡ one.device
  pub handed_same : other.handed ≡ one.handed
  pub one_bus : HasBus kept device one
  pub other_bus : HasBus kept device other
  pub one_mixer : FitsMixer one.mixer
  pub other_mixer : FitsMixer other.mixer

-- what they have alike
pub record SameOutput {B : Type 0} (kept : B → Kept) (device : DeviceSeen) (one other : ParentOf B) (more rest : List ℕ) : Type 0 where
  pub mixer : other.mixer ≡ one.mixer
  pub ring : other.ring.bytes ≡ one.ring.bytes
  pub plan : plan_in other.bus.chain ≡ plan_in one.bus.chain
  pub made : (x : List Frame) → HasMade kept device one.bus.chain x one.handed → HasMade kept device other.bus.chain x one.handed
  pub left : rest ≡ more

pub mixer-long : (mixer : Levels) → FitsMixer mixer → length (mixer_row mixer) ≡ 33
mixer-long mixer fits = omega (arith, length-append mixer.volumes (map flag mixer.muted), length-map mixer.muted flag, fits.volumes, fits.muted)

-- what the other's chain has made where it keeps the same samples
made-alike : {B : Type 0} (kept : B → Kept) (device : DeviceSeen) (one other : ParentOf B) → OutputsReady kept device one other → plan_in other.bus.chain ≡ plan_in one.bus.chain
    → past_of kept other.bus.chain ≡ past_of kept one.bus.chain → (x : List Frame) → HasMade kept device one.bus.chain x one.handed → HasMade kept device other.bus.chain x one.handed
made-alike kept device one other ready plan keeps x made =
    let far = subst (HasMadeFar kept device other.bus.chain) ready.handed_same ready.other_bus.made in
    let alike = chain-known kept (device_filters device) one.bus.chain other.bus.chain (mixed_for device one.handed) 0 one.handed ready.one_bus.made.far far.far (record { plan = plan; keeps = keeps }) in
    record {
      bits = made.bits;
      channels = made.channels;
      count = made.count;
      exactly = record {
        stands = alike (device_filters device) x 0 made.count made.exactly.stands;
        exact = made.exactly.exact ∙ ap (λ (p : PlanSeen). need (rate_in_plan p) one.handed) (sym plan);
      };
    }

pub output-known : {B : Type 0} (kept : B → Kept) (device : DeviceSeen) (one other : ParentOf B) (more rest : List ℕ) → OutputsReady kept device one other
    → output_state kept other ++ rest ≡ output_state kept one ++ more → SameOutput kept device one other more rest
output-known kept device one other more rest ready same =
    let row : ParentOf _ → List ℕ = λ parent. spelled_numbers (mixer_row parent.mixer) in
    let past : ParentOf _ → List ℕ = λ parent. past_bytes kept false parent.bus.chain in
    let parts : row other ++ (other.ring.bytes ++ (past other ++ rest)) ≡ row one ++ (one.ring.bytes ++ (past one ++ more)) =
    sym (three-joined (row other) other.ring.bytes (past other) rest) ∙ same ∙ three-joined (row one) one.ring.bytes (past one) more in
    let row_long : length (row other) ≡ length (row one) =
    length-numbers (mixer_row other.mixer) ∙ ap (λ n. 8 * n) (mixer-long other.mixer ready.other_mixer ∙ sym (mixer-long one.mixer ready.one_mixer)) ∙ sym (length-numbers (mixer_row one.mixer)) in
    let mixer = mixer-known other.mixer one.mixer ready.other_mixer ready.one_mixer (numbers-known (mixer_row other.mixer) (mixer_row one.mixer)
    (front-known (row other) (other.ring.bytes ++ (past other ++ rest)) (row one) (one.ring.bytes ++ (past one ++ more)) row_long parts)) in
    let behind = rest-known (row other) (other.ring.bytes ++ (past other ++ rest)) (row one) (one.ring.bytes ++ (past one ++ more)) row_long parts in
    let ring_long : length other.ring.bytes ≡ length one.ring.bytes =
    other.full ∙ ap (λ (d : Device). d.ring_frames * frame_bytes d.settings) ready.device_same ∙ sym one.full in
    let ring = front-known other.ring.bytes (past other ++ rest) one.ring.bytes (past one ++ more) ring_long behind in
    let left = rest-known other.ring.bytes (past other ++ rest) one.ring.bytes (past one ++ more) ring_long behind in
    let plan : plan_in other.bus.chain ≡ plan_in one.bus.chain = ready.other_bus.planned.plan_is ∙ sym ready.one_bus.planned.plan_is in
    let known = past-known kept false one.bus.chain other.bus.chain more rest
    (λ held. length-past-of kept other.bus.chain (far-fitted kept (device_filters device) other.bus.chain (mixed_for device other.handed) 0 other.handed ready.other_bus.made.far)
    ∙ ap (λ (p : PlanSeen). past_sizes p.stages) plan
    ∙ sym (length-past-of kept one.bus.chain (far-fitted kept (device_filters device) one.bus.chain (mixed_for device one.handed) 0 one.handed ready.one_bus.made.far)))
    left in
    record {
      mixer = mixer;
      ring = ring;
      plan = plan;
      made = made-alike kept device one other ready plan (known.keeps refl);
      left = known.left;
    }
