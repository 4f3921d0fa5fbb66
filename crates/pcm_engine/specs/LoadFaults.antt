-- Why bytes make no engine.
use Rattle.std.specs.Prelude.{◌≡◌, ◌≢◌, ℕ, List, [], ◌∷◌, Result, Err}
use Rattle.pcm_engine.specs.Types.{Device, Filters, Kept, Kind}
use Rattle.pcm_digest.specs.Digests.{digest_of}
use Rattle.pcm_save.specs.declared.fault.StateFault.{StateFault}
use Rattle.pcm_save.specs.declared.fault.StateFault.TheVariants as of_parts
use Rattle.pcm_engine.specs.declared.load_fault.LoadFault.{LoadFault}
use Rattle.pcm_engine.specs.declared.load_fault.LoadFault.TheVariants.{Short, Unspelled, OutOfOrder}
use Rattle.pcm_engine.specs.declared.load_fault.LoadFault.TheVariants as whole
use Rattle.pcm_engine.specs.declared.limits.TheConstants.{STATE_VERSION}
use Rattle.pcm_save.specs.Parts.{HasRow}
use Rattle.pcm_save.specs.Parents.{FitsParent}
use Rattle.pcm_engine.specs.declared.engine.EngineOf.{EngineOf}
use Rattle.pcm_engine.specs.Saved.{head_row, HasState, IsEngineOf}

-- what is wrong with a part is wrong with the whole
abbrev pub whole_fault : StateFault → LoadFault
whole_fault of_parts.Short = Short
whole_fault of_parts.Unspelled = Unspelled
whole_fault of_parts.OutOfOrder = OutOfOrder

-- bytes begin as those of another version
pub record IsForeign (bytes : List ℕ) : Type 0 where
  pub version : ℕ
  pub digest : ℕ
  pub handed : ℕ
  pub row : HasRow bytes (version ∷ digest ∷ handed ∷ [])
  pub other : version ≢ STATE_VERSION

-- or as those of another device, or of one with other filters
pub record IsOfOther (filters : Filters) (device : Device) (bytes : List ℕ) : Type 0 where
  pub digest : ℕ
  pub handed : ℕ
  pub row : HasRow bytes (head_row digest handed)
  pub other : digest ≢ digest_of filters device

-- such bytes are refused as what they are
pub record AreNamed {X : Type 0} (filters : Filters) (device : Device) (bytes : List ℕ) (result : Result X LoadFault) : Type 0 where
  pub foreign : IsForeign bytes → result ≡ Err whole.Foreign
  pub other : IsOfOther filters device bytes → result ≡ Err whole.Device

-- Why bytes make no engine of this device with these filters: what was saved of one is refused for want of memory alone, and what is of another version or of
-- another device as such, unless memory lacks.
pub record IsCause {B : Type 0} (kind : B → Kind) (kept : B → Kept) (device : Device) (filters : Filters) (bytes : List ℕ) (fault : LoadFault) : Type 0 where
  pub saved : (engine : EngineOf B) → IsEngineOf device filters engine → HasState kind kept bytes engine → FitsParent engine.parent → fault ≡ whole.Memory
  pub foreign : IsForeign bytes → fault ≢ whole.Memory → fault ≡ whole.Foreign
  pub other : IsOfOther filters device bytes → fault ≢ whole.Memory → fault ≡ whole.Device
