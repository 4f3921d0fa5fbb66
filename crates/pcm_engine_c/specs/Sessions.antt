-- The session that numbers make.
use Rattle.std.specs.Prelude.{◌≡◌, ◌≢◌, ℤ, pos, Bool, true, false, ◌&&◌, is_some, List, [], Option, Some, None, IfSome, IsSome}
use Rattle.pcm_feeder.specs.Kept.{Kept}
use Rattle.pcm_wave.specs.declared.pool.Pool.{Pool}
use Rattle.pcm_desk.specs.declared.device.Device.{Device}
use Rattle.pcm_desk.specs.Device.{seen}
use Rattle.pcm_feeder.specs.Filters.{Filters}
use Rattle.pcm_engine.specs.declared.engine.EngineOf.{EngineOf}
use Rattle.pcm_engine.specs.Engines.{Stands, device_of}
use Rattle.pcm_foreign.specs.declared.device.DeviceNumbers.{DeviceNumbers}
use Rattle.pcm_foreign.specs.declared.filters.FilterNumbers.{FilterNumbers}
use Rattle.pcm_foreign.specs.declared.sections.SectionNumbers.{SectionNumbers}
use Rattle.pcm_foreign.specs.declared.fault.NumbersFault.TheVariants.{Memory, Argument}
use Rattle.pcm_foreign.specs.declared.call_fault.CallFault.TheVariants.{Engine}
use Rattle.pcm_foreign.specs.Answers.{call_fault_number, fault_number}
use Rattle.pcm_foreign.specs.Devices.{device_from}
use Rattle.pcm_foreign.specs.Tables.{tables_from}
use Rattle.pcm_engine.specs.declared.load_fault.LoadFault.{LoadFault}
use Rattle.pcm_session.specs.States.{load_fault_number}
use Rattle.pcm_engine_c.specs.declared.session.Session.{Session}
use Rattle.pcm_engine_c.specs.Calls.{OnHeld}

-- An engine is that of these numbers before its first step: of their device, with their filters and sections, and it stands for no events.
pub record IsNew {B : Type 0} (kept : B → Kept) (device : DeviceNumbers) (filters : List FilterNumbers) (coefs : List ℤ) (sections : List SectionNumbers) (engine : EngineOf B) : Type 0 where
  pub made : Device
  pub tables : Filters
  pub made_is : device_from device ≡ Some made
  pub tables_are : tables_from filters coefs sections ≡ Some tables
  pub device_is : device_of engine ≡ seen tables made
  pub handed : engine.parent.handed ≡ 0
  pub stands : (pool : Pool) → Stands kept engine pool []

-- whether there is such an engine at all
abbrev pub is_possible : DeviceNumbers → List FilterNumbers → List ℤ → List SectionNumbers → Bool
is_possible device filters coefs sections = is_some (device_from device) && is_some (tables_from filters coefs sections)

-- The result of making an engine. Where there is one already, nothing is made, and the number says so. Else 0 says that there is one of
-- these numbers now; that of a wrong argument, that there can be none; and that of want of memory, the only other, that there could be one.
pub record IsMade {B : Type 0} (engine_in : Session → EngineOf B) (kept : B → Kept) (device : DeviceNumbers) (filters : List FilterNumbers) (coefs : List ℤ) (sections : List SectionNumbers) (old new : Option Session) (result : ℤ) : Type 0 where
  pub there : IsSome old → (new ≡ old) × (result ≡ call_fault_number Engine)
  pub made : old ≡ None → result ≡ pos 0 → IfSome new (λ session. IsNew kept device filters coefs sections (engine_in session))
  pub none : old ≡ None → result ≢ pos 0 → new ≡ None
  pub cause : old ≡ None → result ≡ fault_number Argument → is_possible device filters coefs sections ≡ false
  pub memory : old ≡ None → result ≢ pos 0 → result ≢ fault_number Argument → (result ≡ fault_number Memory) × (is_possible device filters coefs sections ≡ true)

-- The result of cloning an engine. Without one, or where there is one already in the place of the clone, nothing is made, and the number says
-- so. Else 0 says that there is a clone now; and that of want of memory, the only other, that there is none.
pub record IsCloned (is_clone_of : Session → Session → Type 0) (engine old new : Option Session) (result : ℤ) : Type 0 where
  pub none : engine ≡ None → result ≡ call_fault_number Engine
  pub there : IsSome old → result ≡ call_fault_number Engine
  pub made : result ≡ pos 0 → OnHeld engine new is_clone_of
  pub unmade : result ≢ pos 0 → new ≡ old
  pub memory : IsSome engine → old ≡ None → result ≢ pos 0 → result ≡ fault_number Memory

-- The result of loading a state. Without an engine nothing is loaded, and the number says so. Else 0 says that the engine goes on as the bytes
-- tell; and any other number is that of a fault, which is the cause, and the engine is as it was.
pub record IsLoaded (goes_on : Session → Session → Type 0) (cause : Session → LoadFault → Type 0) (old new : Option Session) (result : ℤ) : Type 0 where
  pub none : old ≡ None → (new ≡ None) × (result ≡ call_fault_number Engine)
  pub loaded : IsSome old → result ≡ pos 0 → OnHeld old new goes_on
  pub refused : IsSome old → result ≢ pos 0 → (new ≡ old) × ((fault : LoadFault) × (result ≡ load_fault_number fault) × IfSome old (λ session. cause session fault))
