-- What a question of an engine needs.
use Rattle.std.specs.Prelude.{◌≡◌, ◌<◌, ℕ, true, false, Some}
use Rattle.pcm_feeder.specs.declared.kind.Kind.{Kind}
use Rattle.pcm_feeder.specs.Kept.{Kept}
use Rattle.pcm_oss.specs.declared.event.Way.{Way}
use Rattle.pcm_desk.specs.declared.device.Held.{Held}
use Rattle.pcm_desk.specs.declared.limits.TheConstants.{DESCRIPTORS}
use Rattle.pcm_desk.specs.Desk.{held_by}
use Rattle.pcm_desk.specs.Own.{slots_of}
use Rattle.pcm_engine.specs.declared.engine.EngineOf.{EngineOf}
use Rattle.pcm_engine.specs.Engines.{AreReady, desk_of, device_of}
use Rattle.pcm_status.specs.declared.limits.TheConstants.{FRAMES_MOST}
use Rattle.pcm_status.specs.Waits.{goes_on_after}

-- of a descriptor that there can be
pub record CanAskOf {B : Type 0} (kind : B → Kind) (kept : B → Kept) (engine : EngineOf B) (fd : ℕ) : Type 0 where
  pub ready : AreReady kind kept engine
  pub within : fd < DESCRIPTORS

-- or of a slot of a way, by its place among these
pub record HasSlot {B : Type 0} (kind : B → Kind) (kept : B → Kept) (engine : EngineOf B) (way : Way) (place : ℕ) : Type 0 where
  pub ready : AreReady kind kept engine
  pub there : place < slots_of (desk_of engine) way

-- of a descriptor that holds a channel
pub record HoldsIn {B : Type 0} (kind : B → Kind) (kept : B → Kept) (engine : EngineOf B) (fd : ℕ) (held : Held) : Type 0 where
  pub ready : AreReady kind kept engine
  pub is : held_by (desk_of engine) fd ≡ Some held

-- its wait for `bytes` bytes ends: the client can't go on now, and can after FRAMES_MOST frames
pub record WaitEnds {B : Type 0} (kind : B → Kind) (kept : B → Kept) (engine : EngineOf B) (fd : ℕ) (held : Held) (bytes : ℕ) : Type 0 where
  pub holds : HoldsIn kind kept engine fd held
  pub least : goes_on_after (device_of engine) (desk_of engine) fd bytes 0 ≡ false
  pub most : goes_on_after (device_of engine) (desk_of engine) fd bytes FRAMES_MOST ≡ true
