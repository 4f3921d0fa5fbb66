-- What comes of saving the engine of a session, and of loading one.
use Rattle.std.specs.Prelude.{◌≡◌, ◌<◌, ℕ, ℤ, pos, neg_ℤ, List, length, take, drop, Result, Ok, Err}
use Rattle.pcm_feeder.specs.declared.kind.Kind.{Kind}
use Rattle.pcm_feeder.specs.Kept.{Kept}
use Rattle.pcm_foreign.specs.declared.call_fault.CallFault.{CallFault}
use Rattle.pcm_foreign.specs.declared.call_fault.CallFault.TheVariants.{Room}
use Rattle.pcm_save.specs.Parents.{FitsParent}
use Rattle.pcm_engine.specs.declared.engine.EngineOf.{EngineOf}
use Rattle.pcm_engine.specs.declared.load_fault.LoadFault.{LoadFault}
use Rattle.pcm_engine.specs.declared.load_fault.LoadFault.TheVariants.{Memory, Foreign, Device, Short, Long, Unspelled, OutOfOrder}
use Rattle.pcm_engine.specs.Clones.{IsCloneOf}
use Rattle.pcm_engine.specs.LoadFaults.{IsCause}
use Rattle.pcm_engine.specs.Saved.{engine_state, HasState, IsEngineOf}

-- the state of an engine stands at the front of a room, whose rest stays
pub record StandsInFront {B : Type 0} (kind : B → Kind) (kept : B → Kept) (engine : EngineOf B) (old new : List ℕ) (count : ℕ) : Type 0 where
  pub size : count ≡ length (engine_state kept engine)
  pub state : HasState kind kept (take count new) engine
  pub fits : FitsParent engine.parent
  pub rest : drop count new ≡ drop count old

-- or the room is too small, and as it was
pub record IsTooSmall {B : Type 0} (kept : B → Kept) (engine : EngineOf B) (old new : List ℕ) (fault : CallFault) : Type 0 where
  pub fault_is : fault ≡ Room
  pub small : length old < length (engine_state kept engine)
  pub same : new ≡ old

abbrev pub IsSaved : {B : Type 0} → (B → Kind) → (B → Kept) → EngineOf B → List ℕ → List ℕ → Result ℕ CallFault → Type 0
IsSaved kind kept engine old new (Ok count) = StandsInFront kind kept engine old new count
IsSaved kind kept engine old new (Err fault) = IsTooSmall kept engine old new fault

-- An engine of the same device and filters as another one, and ready, has these bytes: whichever such engine has them too, this is its clone.
pub record GoesOnFrom {B : Type 0} (kind : B → Kind) (kept : B → Kept) (bytes : List ℕ) (engine loaded : EngineOf B) : Type 0 where
  pub state : HasState kind kept bytes loaded
  pub device : IsEngineOf engine.parent.device engine.tables loaded
  pub clone : (saved : EngineOf B) → IsEngineOf engine.parent.device engine.tables saved → HasState kind kept bytes saved → IsCloneOf kind kept saved loaded

-- why bytes make no engine of the same device and filters as this one
abbrev pub IsCauseFor : {B : Type 0} → (B → Kind) → (B → Kept) → List ℕ → EngineOf B → LoadFault → Type 0
IsCauseFor kind kept bytes engine = IsCause kind kept engine.parent.device engine.tables bytes

-- the number of why bytes make no engine
abbrev pub load_fault_number : LoadFault → ℤ
load_fault_number Memory = neg_ℤ (pos 6)
load_fault_number Foreign = neg_ℤ (pos 12)
load_fault_number Device = neg_ℤ (pos 13)
load_fault_number Short = neg_ℤ (pos 14)
load_fault_number Long = neg_ℤ (pos 15)
load_fault_number Unspelled = neg_ℤ (pos 16)
load_fault_number OutOfOrder = neg_ℤ (pos 17)
