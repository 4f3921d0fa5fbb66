-- What a path is on which a run was told.
use Rattle.std.proofs.Common.{◌≡◌, ◌≤◌, ◌-◌, min, ℕ, ℤ, List, ◌++◌, length, take, refl, sym, ap, ◌∙◌, subst, arith}
use Rattle.std.proofs.lemmas.List.{take_all}
use Rattle.pcm_format.specs.declared.settings.Settings.{Settings}
use Rattle.pcm_ring.specs.Ring.{Ring, free_bytes}
use Rattle.pcm_rate.specs.Rates.{need}
use Rattle.pcm_feeder.specs.declared.kind.Kind.{Kind}
use Rattle.pcm_feeder.specs.Filters.{Filters}
use Rattle.pcm_feeder.specs.Kept.{Kept}
use Rattle.pcm_oss.specs.declared.event.Way.{Way}
use Rattle.pcm_plan.specs.Plans.{PlanSeen, rate_in_plan}
use Rattle.pcm_chain.specs.Chains.{plan_in}
use Rattle.pcm_chain.specs.Counts.{InTime}
use Rattle.pcm_chain.specs.Far.{ChainIsSoFar}
use Rattle.pcm_chain.specs.Pasts.{past_sizes, HasTold}
use Rattle.pcm_desk.specs.declared.device.Device.{Device}
use Rattle.pcm_desk.specs.declared.opening.Opening.{Opening}
use Rattle.pcm_desk.specs.Device.{IsDevice, seen}
use Rattle.pcm_desk.specs.Openings.{ring_bytes}
use Rattle.pcm_desk.proofs.Ratios.{device-is}
use Rattle.pcm_path.specs.declared.path.PathOf.{PathOf}
use Rattle.pcm_path.specs.Paths.{path_rate, CanBegin, HasBegun, IsPlanned}
use Rattle.pcm_path.specs.Telling.{plan_for, CanTellPath, HasToldPath}
use Rattle.pcm_path.specs.Ways.{plan_between}
use Rattle.pcm_path.proofs.Paths.{planned-as, serves-as}

-- where the counts are in time by the device's rates, and the samples are as many as the plan's stages keep, a path of this device can be told
pub can-tell-path : {B : Type 0} (kind : B → Kind) (way : Way) (filters : Filters) (opening : Opening) (bytes : List ℕ) (eaten given : ℕ) (samples : List ℤ) (path : PathOf B) → CanBegin kind opening path → length bytes ≤ ring_bytes opening
    → (IsDevice (seen filters path.device) → InTime (rate_in_plan (plan_for way filters opening.settings path)) (record { eaten = eaten; given = given }))
    → length samples ≡ past_sizes (plan_for way filters opening.settings path).stages → CanTellPath kind way filters opening bytes eaten given samples path
can-tell-path kind way filters opening bytes eaten given samples path begins room in_time size = record {
  begins = begins;
  room = room;
  can = λ are. record { in_time = in_time (device-is filters path.device begins.device are); size = size };
}

-- its rate is then that of this plan
pub rate-told : {B : Type 0} (kind : B → Kind) (kept : B → Kept) (mark : B → ℕ) (way : Way) (filters : Filters) (opening : Opening) (bytes : List ℕ) (eaten given : ℕ) (samples : List ℤ) (old new : PathOf B)
    → HasToldPath kind kept mark way filters opening bytes eaten given samples old new → path_rate new ≡ rate_in_plan (plan_for way filters opening.settings old)
rate-told kind kept mark way filters opening bytes eaten given samples old new t =
    ap rate_in_plan t.planned.plan_is ∙ ap (λ (d : Device). rate_in_plan (plan_between way (seen filters d) opening.settings)) t.device

-- two paths of one device that go by the plan of the same settings go by the same plan
pub plans-same : {B : Type 0} (way : Way) (filters : Filters) (was now : Settings) (one other : PathOf B) → other.device ≡ one.device → now ≡ was → IsPlanned way filters was one → IsPlanned way filters now other
    → plan_in other.chain ≡ plan_in one.chain
plans-same way filters was now one other device settings a b =
    b.plan_is
    ∙ ap (λ (s : Settings). plan_between way (seen filters other.device) s) settings
    ∙ ap (λ (d : Device). plan_between way (seen filters d) was) device
    ∙ sym a.plan_is

-- a run that began, into whose ring these bytes were put, and whose chain was told the rest
pub told-path : {B : Type 0} (kind : B → Kind) (kept : B → Kept) (mark : B → ℕ) (way : Way) (filters : Filters) (opening : Opening) (bytes : List ℕ) (eaten given : ℕ) (samples : List ℤ) (old begun new : PathOf B) (count : ℕ) (plan : PlanSeen)
    → length bytes ≤ ring_bytes opening → HasBegun kind kept mark way filters opening old begun → new.device ≡ begun.device
    → count ≡ min (length bytes) (free_bytes begun.ring) → new.ring ≡ record begun.ring { bytes = begun.ring.bytes ++ take count bytes }
    → plan ≡ plan_for way filters opening.settings begun → HasTold kind kept mark plan eaten given samples begun.chain new.chain
    → HasToldPath kind kept mark way filters opening bytes eaten given samples old new
told-path kind kept mark way filters opening bytes eaten given samples old begun new count plan room begins device taken ring is told =
    let empty = begins.empty in
    let serves = begins.serves in
    let same : plan_in new.chain ≡ plan_in begun.chain = told.plan_is ∙ is ∙ sym begins.planned.plan_is in
    let all : length bytes ≤ count = omega (arith, room, taken, serves.size, ap length empty.ring) in
    record {
      device = device ∙ begins.device;
      serves = serves-as opening opening begun new (begun.ring.bytes ++ take count bytes) device same ring refl refl serves;
      planned = planned-as way filters opening.settings opening.settings begun new device same refl begins.planned;
      kinds = told.kinds;
      marks = told.marks ∙ begins.marks;
      ring = ap (λ (r : Ring). r.bytes) ring ∙ ap (λ list. list ++ take count bytes) empty.ring ∙ take_all count bytes all;
      keeps = told.keeps;
      far = λ other. subst (λ p. ChainIsSoFar kept other new.chain eaten (need (rate_in_plan p) given - eaten) given) (sym told.plan_is) (told.far other);
    }
