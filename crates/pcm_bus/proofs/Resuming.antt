-- What a chain has made, and a chain that goes on where another one is.
use Rattle.std.proofs.Common.{◌≡◌, ℕ, List, sym, subst}
use Rattle.pcm_format.specs.Frames.{Frame}
use Rattle.pcm_feeder.specs.Kept.{Kept}
use Rattle.pcm_chain.specs.declared.chain.ChainOf.{ChainOf}
use Rattle.pcm_chain.specs.Chains.{plan_in, AreFitted}
use Rattle.pcm_chain.specs.Resumes.{IsAsFar}
use Rattle.pcm_chain.specs.Gives.{GivesExactly}
use Rattle.pcm_chain.proofs.Far.{far-fitted}
use Rattle.pcm_rate.specs.Rates.{need}
use Rattle.pcm_plan.specs.Plans.{PlanSeen, rate_in_plan}
use Rattle.pcm_desk.specs.Device.{DeviceSeen, device_filters, mixed_for}
use Rattle.pcm_bus.specs.Handovers.{HasMade, HasMadeFar}

-- the chain that has made something is fitted
pub made-fitted : {B : Type 0} (kept : B → Kept) (device : DeviceSeen) (chain : ChainOf B) (handed : ℕ)
    → HasMadeFar kept device chain handed → AreFitted kept chain
made-fitted kept device chain handed made = far-fitted kept (device_filters device) chain (mixed_for device handed) 0 handed made.far

-- one that is as far as another, by its plan, has made as much
pub made-as-far : {B : Type 0} (kept : B → Kept) (device : DeviceSeen) (other chain : ChainOf B) (handed : ℕ) → plan_in chain ≡ plan_in other
    → IsAsFar kept other chain → HasMadeFar kept device other handed → HasMadeFar kept device chain handed
made-as-far kept device other chain handed plan too made = record {
  far = too (device_filters device) (mixed_for device handed) 0 handed made.far;
  exact = subst (λ (p : PlanSeen). mixed_for device handed ≡ need (rate_in_plan p) handed) (sym plan) made.exact;
}

-- one that gives what another has given has made what that one has
pub made-as : {B : Type 0} (kept : B → Kept) (device : DeviceSeen) (other chain : ChainOf B) (x : List Frame) (handed : ℕ)
    → (GivesExactly kept (device_filters device) other x handed → GivesExactly kept (device_filters device) chain x handed)
    → HasMade kept device other x handed → HasMade kept device chain x handed
made-as kept device other chain x handed too made = record {
  bits = made.bits;
  channels = made.channels;
  count = made.count;
  exactly = too made.exactly;
}
