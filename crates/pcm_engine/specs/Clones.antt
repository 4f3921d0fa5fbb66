-- What an engine's clone is.
use Rattle.std.specs.Prelude.{◌≡◌, List}
use Rattle.pcm_engine.specs.Types.{Event, Kept, Kind, Pool}
use Rattle.pcm_engine.specs.declared.engine.EngineOf.{EngineOf}
use Rattle.pcm_engine.specs.Engines.{AreReady, Stands, desk_of, device_of}

-- An engine of the same device and at the same desk: whatever events the other one stands for with a pool, it stands for too. So from then on equal events give
-- equal replies and bytes, whichever of the two takes them.
pub record GoesOnAs {B : Type 0} (kept : B → Kept) (engine other : EngineOf B) : Type 0 where
  pub device : device_of other ≡ device_of engine
  pub desk : desk_of other ≡ desk_of engine
  pub stands : (pool : Pool) (events : List Event) → Stands kept engine pool events → Stands kept other pool events

-- one that does so, and is ready
pub record IsCloneOf {B : Type 0} (kind : B → Kind) (kept : B → Kept) (engine clone : EngineOf B) : Type 0 where
  pub ready : AreReady kind kept clone
  pub goes : GoesOnAs kept engine clone
