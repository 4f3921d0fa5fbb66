-- Lists of events: which fit, how many frames they take, and the desk after them.
use Rattle.std.specs.Prelude.{ℕ, ◌*◌, ◌<◌, ◌≤◌, List, [], ◌∷◌, Option, Some, None}
use Rattle.std.specs.List.{sum_by}
use Rattle.pcm_oss.specs.declared.event.Event.{Event}
use Rattle.pcm_oss.specs.declared.event.Event.TheVariants.{Open, Write, Poke, Read, StartGroup, Intr}
use Rattle.pcm_wave.specs.declared.pool.Pool.{Pool}
use Rattle.pcm_wave.specs.declared.pool.Source.{Source}
use Rattle.pcm_wave.specs.declared.pool.Source.TheVariants.{Inline, File}
use Rattle.pcm_wave.specs.Pools.{HasBytes}
use Rattle.pcm_feeder.specs.Limits.{IsRate}
use Rattle.pcm_desk.specs.declared.limits.TheConstants.{DESCRIPTORS, READ_BYTES, WRITE_BYTES}
use Rattle.pcm_desk.specs.Device.{DeviceSeen, device_frame_bytes, ring_frames}
use Rattle.pcm_desk.specs.Desk.{Desk, after}
use Rattle.pcm_desk.specs.Own.{descriptor_of}

-- how many bytes a write may have: on a line at most WRITE_BYTES, in a file any number
abbrev pub IsWriteOf : Source → ℕ → Type 0
IsWriteOf Inline count = count ≤ WRITE_BYTES
IsWriteOf (File place) count = Unit {0}

-- the descriptor whose channel an event is of, if any, is one that there can be
abbrev pub IsDescriptor : Option ℕ → Type 0
IsDescriptor None = Unit {0}
IsDescriptor (Some fd) = fd < DESCRIPTORS

-- The event keeps the limits of a device, and names bytes that are there. A client may have any rate within the limits.
abbrev pub Fits : DeviceSeen → Pool → Event → Type 0
Fits device pool (Open fd way settings) = (fd < DESCRIPTORS) × IsRate settings.rate
Fits device pool (Write fd source at count) = (fd < DESCRIPTORS) × IsWriteOf source count × HasBytes pool source at count
Fits device pool (Poke fd offset at count) = (fd < DESCRIPTORS) × IsWriteOf Inline count × HasBytes pool Inline at count
Fits device pool (Read fd count) = (fd < DESCRIPTORS) × (count ≤ READ_BYTES)
Fits device pool (StartGroup fd group) = fd < DESCRIPTORS
Fits device pool (Intr frames) = (0 < frames) × (frames ≤ ring_frames device)
Fits device pool event = IsDescriptor (descriptor_of event)

-- the frames that an event takes out of the device's ring
abbrev pub frames_taken : Event → ℕ
frames_taken (Intr frames) = frames
frames_taken event = 0

-- the bytes that an event gives to the device
abbrev pub bytes_handed : DeviceSeen → Event → ℕ
bytes_handed device event = frames_taken event * device_frame_bytes device

-- the frames that the interrupts of these events take
abbrev pub all_frames_taken : List Event → ℕ
all_frames_taken events = sum_by frames_taken events

-- the desk after a list of events
abbrev pub after_all : DeviceSeen → Desk → List Event → Desk
after_all device desk [] = desk
after_all device desk (event ∷ events) = after_all device (after device desk event).desk events
