-- The device, the settings of a stream and the way that numbers stand for.
use Rattle.std.specs.Prelude.{ℕ, Bool, ◌&&◌, ◌==◌, nat_le, if◌then◌else◌, Option, Some, None, [], ◌∷◌, List, slice_get}
use Rattle.pcm_format.specs.declared.settings.Settings.{Settings}
use Rattle.pcm_format.specs.declared.settings.TheConstants.{RATE_LEAST, RATE_MOST}
use Rattle.pcm_format.specs.Formats.{format_with_code}
use Rattle.pcm_format.specs.Layouts.{layout_of}
use Rattle.pcm_feeder.specs.Filters.{Filters}
use Rattle.pcm_feeder.specs.Limits.{AreFilters}
use Rattle.pcm_oss.specs.declared.event.TheConstants.{SLOTS}
use Rattle.pcm_oss.specs.declared.event.Way.{Way}
use Rattle.pcm_oss.specs.declared.event.Way.TheVariants.{Play, Record, Map}
use Rattle.pcm_desk.specs.declared.device.Device.{Device}
use Rattle.pcm_desk.specs.declared.device.TheConstants.{QUALITY_MOST}
use Rattle.pcm_desk.specs.declared.limits.TheConstants.{MIX_FRAMES, RING_FRAMES}
use Rattle.pcm_desk.specs.Device.{IsInLimits, mix_frames, mixed_slots, record_slots, seen, unfiltered}
use Rattle.pcm_foreign.specs.declared.device.DeviceNumbers.{DeviceNumbers}

-- what follows, if this is there
infixl 10 ◌>>=◌
abbrev pub ◌>>=◌ : {A B : Type 0} → Option A → (A → Option B) → Option B
None >>= next = None
Some value >>= next = next value

-- whether a stream can have this many frames per second
abbrev pub is_rate : ℕ → Bool
is_rate rate = nat_le RATE_LEAST rate && nat_le rate RATE_MOST

-- the settings with a format by its code, a layout by its channels, and a rate
unfoldable pub stream_settings : ℕ → ℕ → ℕ → Option Settings
stream_settings code channels rate = do
  format ← format_with_code code
  layout ← layout_of channels
  if is_rate rate then Some (record { format = format; layout = layout; rate = rate }) else None

-- a number, or the usual one where it is 0
abbrev pub or_usual : ℕ → ℕ → ℕ
or_usual number usual = if number == 0 then usual else number

-- these settings of the device and of its mix, and what else the numbers say; an interrupt may take all of the ring
abbrev pub device_with : DeviceNumbers → Settings → Settings → Device
device_with numbers settings mix = record {
  settings = settings;
  mix = mix;
  block_frames = numbers.ring_frames;
  ring_frames = numbers.ring_frames;
  play_slots = numbers.play_slots;
  record_slots = numbers.record_slots;
  map_slots = numbers.map_slots;
  quality = numbers.quality;
}

-- whether there are slots for all channels at once, those that are mixed and those that record
abbrev pub slots_fit : Device → Bool
slots_fit device = nat_le (mixed_slots (unfiltered device)) SLOTS && nat_le (record_slots (unfiltered device)) SLOTS

-- whether what a device has beside its rates is within the limits of a run
abbrev pub has_limits : Device → Bool
has_limits device =
    nat_le 1 device.ring_frames && nat_le device.ring_frames RING_FRAMES
    && nat_le (mix_frames (unfiltered device)) MIX_FRAMES
    && slots_fit device && nat_le device.quality QUALITY_MOST

-- a device, if it is within the limits of a run
abbrev pub within_limits : Device → Option Device
within_limits device = if has_limits device then Some device else None

-- The device of numbers: first there are such frames as the device's, then such as those of the mix, which have the same format,
-- and then the whole is within the limits.
unfoldable pub device_from : DeviceNumbers → Option Device
device_from numbers = do
  settings ← stream_settings numbers.format numbers.channels numbers.rate
  mix ← stream_settings numbers.format (or_usual numbers.mix_channels numbers.channels) (or_usual numbers.mix_rate numbers.rate)
  within_limits (device_with numbers settings mix)

-- a device within the limits of a run, whatever filters and sections it has
abbrev pub KeepsLimits : Device → Type 0
KeepsLimits device = (filters : Filters) → AreFilters filters → IsInLimits (seen filters device)

-- the ways, by their numbers
abbrev pub ways : List Way
ways = Play ∷ Record ∷ Map ∷ []

-- the way of a number
abbrev pub way_from : ℕ → Option Way
way_from number = slice_get ways number
