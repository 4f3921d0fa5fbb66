-- What an event brings: bytes of a write or of a poke, and samples that an interrupt captures. A script names their place; a call has them.
use Rattle.std.specs.Prelude.{◌≡◌, ℕ, ◌-◌, ◌*◌, ◌<◌, ◌≤◌, ℤ, pos, List, [], ◌++◌, length, replicate}
use Rattle.pcm_format.specs.declared.layout.Layout.{Layout}
use Rattle.pcm_format.specs.Layouts.{channels_of}
use Rattle.pcm_engine.specs.Types.{Event, Pool}
use Rattle.pcm_oss.specs.declared.event.Event.TheVariants.{Open, Write, Poke, Read, StartGroup, Intr}
use Rattle.pcm_wave.specs.declared.pool.Source.TheVariants.{Inline}
use Rattle.pcm_wave.specs.Pools.{HasBytes, IsCaptureIn, bytes_at, captured_frames}
use Rattle.pcm_feeder.specs.Limits.{IsRate}
use Rattle.pcm_feeder.specs.Streams.{interleaved}
use Rattle.pcm_desk.specs.declared.limits.TheConstants.{DESCRIPTORS, READ_BYTES}
use Rattle.pcm_desk.specs.Device.{DeviceSeen, device_settings, ring_frames}
use Rattle.pcm_desk.specs.Events.{Fits, IsDescriptor}
use Rattle.pcm_desk.specs.Own.{descriptor_of}

-- an event, wherever its bytes stand
abbrev pub placeless : Event → Event
placeless (Write fd source at count) = Write fd Inline 0 count
placeless (Poke fd offset at count) = Poke fd offset 0 count
placeless event = event

-- how many bytes it brings, and how many samples where a frame has such channels
abbrev pub bytes_asked : Event → ℕ
bytes_asked (Write fd source at count) = count
bytes_asked (Poke fd offset at count) = count
bytes_asked event = 0

abbrev pub samples_asked : Layout → Event → ℕ
samples_asked layout (Intr frames) = frames * channels_of layout
samples_asked layout event = 0

-- The event keeps the limits of a device. It may bring any bytes.
abbrev pub IsAllowed : DeviceSeen → Event → Type 0
IsAllowed device (Open fd way settings) = (fd < DESCRIPTORS) × IsRate settings.rate
IsAllowed device (Read fd count) = (fd < DESCRIPTORS) × (count ≤ READ_BYTES)
IsAllowed device (StartGroup fd group) = fd < DESCRIPTORS
IsAllowed device (Intr frames) = (0 < frames) × (frames ≤ ring_frames device)
IsAllowed device event = IsDescriptor (descriptor_of event)

-- ---- what stands in a pool

-- the bytes that it names are there
abbrev pub HasNamed : Pool → Event → Type 0
HasNamed pool (Write fd source at count) = HasBytes pool source at count
HasNamed pool (Poke fd offset at count) = HasBytes pool Inline at count
HasNamed pool event = Unit {0}

-- these bytes
abbrev pub bytes_brought : Pool → Event → List ℕ
bytes_brought pool (Write fd source at count) = bytes_at pool source at count
bytes_brought pool (Poke fd offset at count) = bytes_at pool Inline at count
bytes_brought pool event = []

-- the samples that it captures, where the device had been given `handed` frames before
abbrev pub samples_brought : Layout → Pool → ℕ → Event → List ℤ
samples_brought layout pool handed (Intr frames) = interleaved (captured_frames layout pool handed frames)
samples_brought layout pool handed event = []

-- ---- what a call has with it

-- `count` samples: these first, and silence after them
abbrev pub padded : ℕ → List ℤ → List ℤ
padded count samples = samples ++ replicate (count - length samples) (pos 0)

-- A script's event, with its pool, is what a call asks where the device had been given `handed` frames before: the same event, whose bytes
-- and samples in the pool are those of the call.
pub record IsCalled (device : DeviceSeen) (handed : ℕ) (event : Event) (bytes : List ℕ) (samples : List ℤ) (pool : Pool) (named : Event) : Type 0 where
  pub same : placeless named ≡ placeless event
  pub fits : Fits device pool named
  pub captures : IsCaptureIn (device_settings device).layout pool
  pub bytes_are : bytes_brought pool named ≡ bytes
  pub samples_are : samples_brought (device_settings device).layout pool handed named ≡ samples
