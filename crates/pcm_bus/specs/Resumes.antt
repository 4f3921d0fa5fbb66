-- What a bus is that goes on where another one is.
use Rattle.std.specs.Prelude.{◌≡◌, ℕ, List}
use Rattle.pcm_format.specs.Frames.{Frame}
use Rattle.pcm_feeder.specs.declared.kind.Kind.{Kind}
use Rattle.pcm_feeder.specs.Kept.{Kept}
use Rattle.pcm_chain.specs.Chains.{marks_in, plan_in, IsOfKinds}
use Rattle.pcm_desk.specs.Device.{DeviceSeen}
use Rattle.pcm_bus.specs.Handovers.{HasMade, HasMadeFar}
use Rattle.pcm_bus.specs.declared.bus.BusOf.{BusOf}

-- A bus goes on where another one is: it is of its device and has its boxes still, goes by the other's plan, and has made what that one has.
pub record BusResumes {B : Type 0} (kind : B → Kind) (kept : B → Kept) (mark : B → ℕ) (other old new : BusOf B) : Type 0 where
  pub device : new.device ≡ old.device
  pub kinds : IsOfKinds kind new.chain
  pub marks : marks_in mark new.chain ≡ marks_in mark old.chain
  pub plan : plan_in new.chain ≡ plan_in other.chain
  pub far : (device : DeviceSeen) (handed : ℕ)
      → HasMadeFar kept device other.chain handed → HasMadeFar kept device new.chain handed
  pub made : (device : DeviceSeen) (x : List Frame) (handed : ℕ)
      → HasMade kept device other.chain x handed → HasMade kept device new.chain x handed
