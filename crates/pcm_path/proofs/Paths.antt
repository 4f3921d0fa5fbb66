-- What stays of a path from one call to the next.
use Rattle.std.proofs.Common.{◌≡◌, ℕ, ℤ, ◌*◌, Bool, true, List, length, take, drop, inl, inr, sym, ap, ◌∙◌, subst}
use Rattle.std.proofs.lemmas.Bool.{cases_Bool}
use Rattle.std.proofs.lemmas.List.{take_at}
use Rattle.pcm_format.specs.Frames.{Frame}
use Rattle.pcm_format.specs.declared.settings.Settings.{Settings}
use Rattle.pcm_ring.specs.Ring.{Ring}
use Rattle.pcm_rate.specs.Rates.{IsRatio}
use Rattle.pcm_feeder.specs.declared.kind.Kind.{Kind}
use Rattle.pcm_feeder.specs.Filters.{Filters}
use Rattle.pcm_feeder.specs.Kept.{Kept}
use Rattle.pcm_feeder.specs.Limits.{IsRate}
use Rattle.pcm_feeder.specs.Streams.{HaveChannels, interleaved, written}
use Rattle.pcm_feeder.proofs.Frames.{length-interleaved}
use Rattle.pcm_oss.specs.declared.event.Way.{Way}
use Rattle.pcm_oss.specs.Fragments.{ring_size}
use Rattle.pcm_plan.specs.Plans.{PlanSeen, rate_in_plan}
use Rattle.pcm_chain.specs.declared.chain.ChainOf.{ChainOf}
use Rattle.pcm_chain.specs.Chains.{plan_in}
use Rattle.pcm_desk.specs.declared.device.Device.{Device}
use Rattle.pcm_desk.specs.declared.opening.Opening.{Opening}
use Rattle.pcm_desk.specs.Device.{HasRates, IsDevice, seen}
use Rattle.pcm_desk.proofs.Ratios.{device-is}
use Rattle.pcm_path.specs.declared.path.PathOf.{PathOf}
use Rattle.pcm_path.specs.Ways.{plan_between}
use Rattle.pcm_path.specs.Paths.{path_rate, IsPlanned, Serves}
use Rattle.pcm_path.specs.Resumes.{PathResumes}

-- where device and plan stay, and the ring but for its bytes, it serves an opening of the same settings and fragments
pub serves-as : {B : Type 0} (was now : Opening) (old new : PathOf B) (bytes : List ℕ) → new.device ≡ old.device → plan_in new.chain ≡ plan_in old.chain → new.ring ≡ record old.ring { bytes = bytes }
    → now.settings ≡ was.settings → now.fragments ≡ was.fragments → Serves was old → Serves now new
serves-as was now old new bytes device plan ring settings fragments s = record {
  device = subst HasRates (sym device) s.device;
  rate = subst (λ (r : Settings). IsRate r.rate) (sym settings) s.rate;
  ratio = subst (λ (p : PlanSeen). IsRatio (rate_in_plan p)) (sym plan) s.ratio;
  room = ap (λ (r : Ring). r.max) ring ∙ s.room;
  size = ap (λ (r : Ring). r.size) ring ∙ s.size ∙ ap ring_size (sym fragments);
}

-- where device, plan and settings stay, it goes by the plan that it went by
pub planned-as : {B : Type 0} (way : Way) (filters : Filters) (was now : Settings) (old new : PathOf B) → new.device ≡ old.device → plan_in new.chain ≡ plan_in old.chain → now ≡ was
    → IsPlanned way filters was old → IsPlanned way filters now new
planned-as way filters was now old new device plan settings p = record {
  limits = p.limits;
  plan_is = plan ∙ p.plan_is ∙ ap (λ (d : Device). plan_between way (seen filters d) was) (sym device) ∙ ap (plan_between way (seen filters new.device)) (sym settings);
}

-- the device of a path that serves an opening, with the filters of its plan
pub device-served : {B : Type 0} (way : Way) (filters : Filters) (opening : Opening) (settings : Settings) (path : PathOf B) → Serves opening path → IsPlanned way filters settings path → IsDevice (seen filters path.device)
device-served way filters opening settings path s p = device-is filters path.device s.device p.limits

-- what stands at the front of a buffer that a path's frames were written to
pub front-written : (c n : ℕ) (list : List Frame) (old : List ℤ) → HaveChannels c list → length list ≡ n → take (n * c) (written list old) ≡ interleaved list
front-written c n list old have count =
    take_at (interleaved list) (drop (length (interleaved list)) old) (n * c) (length-interleaved c list have ∙ ap (λ k. k * c) count)

-- ---- a path that goes on where another one is

-- its plan is the other's where somebody has that one, and else its own: so the rates of its plan are above 0
pub ratio-resumed : {B : Type 0} (kind : B → Kind) (kept : B → Kept) (mark : B → ℕ) (held : Bool) (other old new : PathOf B) → PathResumes kind kept mark held other old new
    → IsRatio (path_rate old) → IsRatio (path_rate other) → IsRatio (path_rate new)
ratio-resumed {B = B} kind kept mark held other old new r own others =
    elim (cases_Bool held) [
      | inl taken ↦ subst (λ (p : PlanSeen). IsRatio (rate_in_plan p)) (sym (r.goes taken).plan) others
      | inr free ↦ subst (λ (c : ChainOf B). IsRatio (rate_in_plan (plan_in c))) (sym (r.stays free)) own
    ]

-- and goes by the plan that the other goes by, where somebody has that one
pub planned-resumed : {B : Type 0} (kind : B → Kind) (kept : B → Kept) (mark : B → ℕ) (held : Bool) (way : Way) (filters : Filters) (was now : Settings) (other old new : PathOf B) → held ≡ true → other.device ≡ old.device → now ≡ was
    → PathResumes kind kept mark held other old new → IsPlanned way filters was other → IsPlanned way filters now new
planned-resumed kind kept mark held way filters was now other old new taken device settings r p =
    planned-as way filters was now other new (r.device ∙ sym device) (r.goes taken).plan settings p
