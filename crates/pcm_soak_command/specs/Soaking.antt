-- How far the run of a number's script has come, and the line that it is to print.
use Rattle.std.specs.Prelude.{◌≡◌, ℕ, ◌*◌, ◌^◌, ◌<◌, ◌≤◌, List, length, take}
use Rattle.pcm_sequence.specs.Fixed.{fixed_len}
use Rattle.pcm_oss.specs.declared.event.Event.{Event}
use Rattle.pcm_wave.specs.declared.pool.Pool.{Pool}
use Rattle.pcm_desk.specs.Device.{DeviceSeen, device_frame_bytes, ring_frames}
use Rattle.pcm_desk.specs.Usual.{usual_device}
use Rattle.pcm_feeder.specs.declared.kind.Kind.{Kind}
use Rattle.pcm_feeder.specs.Kept.{Kept}
use Rattle.pcm_engine.specs.declared.engine.EngineOf.{EngineOf}
use Rattle.pcm_soak.specs.declared.limits.TheConstants.{SOAK_EVENTS}
use Rattle.pcm_soak.specs.Soak.{soak_script}
use Rattle.pcm_soak.specs.Tallies.{IsWithin}
use Rattle.pcm_verdict.specs.Soaks.{soak_pool, tally_line, tally_of}
use Rattle.pcm_soak_command.specs.Running.{CanRun, RanThrough}
use Rattle.pcm_soak_command.specs.declared.soak.SoakOf.{SoakOf}
use Rattle.pcm_soak_command.specs.declared.tally_line.TheConstants.{TALLY_BYTES}

-- the bytes of the greatest interrupt: a device's whole ring
abbrev pub ring_room : DeviceSeen → ℕ
ring_room device = ring_frames device * device_frame_bytes device

-- these events of a script that a number makes were run, and their tally was added up
pub record HasSoaked {B : Type 0} (kind : B → Kind) (kept : B → Kept) (soak : SoakOf B) (pool : Pool) (events : List Event) : Type 0 where
  pub engine : RanThrough kind kept soak.engine usual_device pool events
  pub tally : soak.tally ≡ tally_of usual_device pool events
  pub within : IsWithin (length events) soak.tally
  pub sum : soak.tally.sum ≤ 2 ^ 33 * length events
  pub room : fixed_len soak.block ≡ ring_room usual_device
  pub line_room : fixed_len soak.line ≡ TALLY_BYTES

-- the events before a place were run, and the one that stands there can be
pub record CanSoakNext {B : Type 0} (kind : B → Kind) (kept : B → Kept) (soak : SoakOf B) (pool : Pool) (events : List Event) (at : ℕ) :
    Type 0 where
  pub there : at < length events
  pub runs : CanRun SOAK_EVENTS usual_device pool events
  pub soaked : HasSoaked kind kept soak pool (take at events)

-- the line of the tally of these events, and of how many frames their interrupts take
abbrev pub line_of : ℕ → Pool → List Event → List ℕ
line_of frames pool events = tally_line (length events) frames (tally_of usual_device pool events)

-- an engine ran the script that a number makes
abbrev pub RanSoak : {B : Type 0} → (B → Kind) → (B → Kept) → EngineOf B → ℕ → Type 0
RanSoak kind kept engine n = RanThrough kind kept engine usual_device (soak_pool n) (soak_script n).events
