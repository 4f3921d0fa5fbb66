-- What events need that an engine is stepped through, and that it was.
use Rattle.std.specs.Prelude.{◌≡◌, ℕ, ◌≤◌, List, All, length}
use Rattle.pcm_oss.specs.declared.event.Event.{Event}
use Rattle.pcm_wave.specs.declared.pool.Pool.{Pool}
use Rattle.pcm_wave.specs.Pools.{IsCaptureIn}
use Rattle.pcm_desk.specs.Device.{DeviceSeen, device_settings}
use Rattle.pcm_desk.specs.Events.{Fits, all_frames_taken}
use Rattle.pcm_feeder.specs.declared.kind.Kind.{Kind}
use Rattle.pcm_feeder.specs.Kept.{Kept}
use Rattle.pcm_engine.specs.declared.engine.EngineOf.{EngineOf}
use Rattle.pcm_engine.specs.Engines.{AreReady, Stands, device_of}

-- events that a device can be stepped through: at most `most`, which fit it, with the frames that it captures in the pool
pub record CanRun (most : ℕ) (device : DeviceSeen) (pool : Pool) (events : List Event) : Type 0 where
  pub fits : All (Fits device pool) events
  pub captures : IsCaptureIn (device_settings device).layout pool
  pub count : length events ≤ most

-- an engine of a device was stepped through these events, once each, and may be stepped on
pub record RanThrough {B : Type 0} (kind : B → Kind) (kept : B → Kept) (engine : EngineOf B) (device : DeviceSeen) (pool : Pool) (events : List Event) : Type 0 where
  pub device_is : device_of engine ≡ device
  pub stands : Stands kept engine pool events
  pub ready : AreReady kind kept engine
  pub handed : engine.parent.handed ≡ all_frames_taken events
