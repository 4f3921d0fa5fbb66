-- What the rules read of a device. A rule that reads more of a device does so by one more definition here.
use Rattle.std.specs.Prelude.{ℕ, ℤ, pos, ◌<◌, ◌≤◌, ◌+◌, ◌*◌, ◌/◌, ◌-ℤ◌, ◌*ℤ◌, Bool, ◌&&◌, ◌==◌, if◌then◌else◌, map}
use Rattle.pcm_num.specs.Floor.{floor_div}
use Rattle.pcm_format.specs.declared.settings.Settings.{Settings}
use Rattle.pcm_format.specs.Formats.{bits_of}
use Rattle.pcm_format.specs.Frames.{Frame, frame_bytes}
use Rattle.pcm_format.specs.Layouts.{channels_of}
use Rattle.pcm_format.specs.Samples.{at_full}
use Rattle.pcm_rate.specs.declared.rate.Rate.{Rate}
use Rattle.pcm_rate.specs.Rates.{need}
use Rattle.pcm_feeder.specs.Filters.{Filters, no_filters}
use Rattle.pcm_feeder.specs.Limits.{IsRate, AreFilters}
use Rattle.pcm_plan.specs.Plans.{PlanSeen, plan_play, plan_record, rate_in_plan}
use Rattle.pcm_desk.specs.declared.device.Device.{Device}
use Rattle.pcm_desk.specs.declared.device.TheConstants.{QUALITY_MOST}
use Rattle.pcm_desk.specs.declared.here.Here.{Here}
use Rattle.pcm_desk.specs.declared.limits.TheConstants.{MIX_FRAMES, RING_FRAMES}
use Rattle.pcm_oss.specs.declared.event.TheConstants.{SLOTS}

pub record DeviceSeen : Type 0 where
  -- the frames that the device is given, and captures
  pub device_settings : Settings
  -- the frames that are mixed
  pub mix_settings : Settings
  pub play_slots : ℕ
  pub record_slots : ℕ
  -- those with a mapped area
  pub map_slots : ℕ
  pub ring_frames : ℕ
  pub block_frames : ℕ
  pub device_quality : ℕ
  pub device_filters : Filters

-- a device as the rules see it, with the filters and sections of its run
abbrev pub seen : Filters → Device → DeviceSeen
seen filters device = record {
  device_settings = device.settings;
  mix_settings = device.mix;
  play_slots = device.play_slots;
  record_slots = device.record_slots;
  map_slots = device.map_slots;
  ring_frames = device.ring_frames;
  block_frames = device.block_frames;
  device_quality = device.quality;
  device_filters = filters;
}

-- a device whose run has neither a filter nor a section
abbrev pub unfiltered : Device → DeviceSeen
unfiltered device = seen no_filters device

-- the settings of the frames that the device is given
abbrev pub device_settings : DeviceSeen → Settings
device_settings device = device.device_settings

-- the settings of the mix
abbrev pub mix_settings : DeviceSeen → Settings
mix_settings device = device.mix_settings

-- how many clients can play at once
abbrev pub play_slots : DeviceSeen → ℕ
play_slots device = device.play_slots

-- how many clients can record at once
abbrev pub record_slots : DeviceSeen → ℕ
record_slots device = device.record_slots

-- how many clients can have a mapped area at once
abbrev pub map_slots : DeviceSeen → ℕ
map_slots device = device.map_slots

-- how many slots are mixed: those that play, and after them those of mapped areas
abbrev pub mixed_slots : DeviceSeen → ℕ
mixed_slots device = play_slots device + map_slots device

-- the frames of the device's ring
abbrev pub ring_frames : DeviceSeen → ℕ
ring_frames device = device.ring_frames

-- the frames of an interrupt that names no number
abbrev pub block_frames : DeviceSeen → ℕ
block_frames device = device.block_frames

-- the bytes of a frame that the device is given
abbrev pub device_frame_bytes : DeviceSeen → ℕ
device_frame_bytes device = frame_bytes (device_settings device)

-- the quality of the device's converters
abbrev pub device_quality : DeviceSeen → ℕ
device_quality device = device.device_quality

-- the filters that the device's converters may use
abbrev pub device_filters : DeviceSeen → Filters
device_filters device = device.device_filters

-- the plan from a client with these settings to the mix
abbrev pub play_plan_between : DeviceSeen → Settings → PlanSeen
play_plan_between device settings = plan_play (device_filters device) (device_quality device) settings (mix_settings device)

-- the change of rate from a client with these settings to the mix
abbrev pub play_rate_between : DeviceSeen → Settings → Rate
play_rate_between device settings = rate_in_plan (play_plan_between device settings)

-- the plan from the device to a client that records with these settings
abbrev pub record_plan_between : DeviceSeen → Settings → PlanSeen
record_plan_between device settings = plan_record (device_filters device) (device_quality device) settings (device_settings device)

-- the change of rate from the device to a client that records with these settings
abbrev pub record_rate_between : DeviceSeen → Settings → Rate
record_rate_between device settings = rate_in_plan (record_plan_between device settings)

-- the plan from the mix to the device's frames
abbrev pub parent_plan : DeviceSeen → PlanSeen
parent_plan device = plan_record (device_filters device) (device_quality device) (device_settings device) (mix_settings device)

-- the change of rate from the mix to the device's frames
abbrev pub parent_rate : DeviceSeen → Rate
parent_rate device = rate_in_plan (parent_plan device)

-- a mixed frame at 32 bits, which that plan takes
abbrev pub full_frame : DeviceSeen → Frame → Frame
full_frame device frame = map (at_full (bits_of (mix_settings device).format)) frame

-- the device is given what is mixed as it is: with as many channels, at the same rate, and with as many bits
abbrev pub is_straight : DeviceSeen → Bool
is_straight device =
    channels_of (mix_settings device).layout == channels_of (device_settings device).layout
    && (mix_settings device).rate == (device_settings device).rate
    && bits_of (mix_settings device).format == bits_of (device_settings device).format

-- how many frames are mixed once the device has been given `handed` frames: as many as these need
abbrev pub mixed_for : DeviceSeen → ℕ → ℕ
mixed_for device handed = need (parent_rate device) handed

-- How many frames of the mix have left the device's ring once the device has been given `handed` frames: what lasts as long as these
-- without the silence that the ring began with. It is below 0 until all of that has left.
abbrev pub passed_for : DeviceSeen → ℕ → ℤ
passed_for device handed =
    floor_div ((pos handed -ℤ pos (ring_frames device)) *ℤ pos (mix_settings device).rate) (device_settings device).rate

-- where the mix and the device are once the device has been given `handed` frames
abbrev pub here_at : DeviceSeen → ℕ → Here
here_at device handed = record { mixed = mixed_for device handed; passed = passed_for device handed }

-- a device with rates within the limits, as its filters are
pub record IsDevice (device : DeviceSeen) : Type 0 where
  pub rate : IsRate (device_settings device).rate
  pub mix_rate : IsRate (mix_settings device).rate
  pub filters : AreFilters (device_filters device)

-- both rates of a device, whatever its filters
pub record HasRates (device : Device) : Type 0 where
  pub rate : IsRate device.settings.rate
  pub mix_rate : IsRate device.mix.rate

-- How many frames an interrupt mixes at most, whatever filters there are. Those beside the frames that last as long are of a
-- filter, which reads ahead.
abbrev pub mix_frames : DeviceSeen → ℕ
mix_frames device =
    if (device_settings device).rate == (mix_settings device).rate then ring_frames device
    else ring_frames device * (mix_settings device).rate / (device_settings device).rate + 33

-- a device within the limits of a run
pub record IsInLimits (device : DeviceSeen) : Type 0 where
  pub device_is : IsDevice device
  pub block : 0 < block_frames device
  pub ring : block_frames device ≤ ring_frames device
  pub ring_most : ring_frames device ≤ RING_FRAMES
  pub mix_most : mix_frames device ≤ MIX_FRAMES
  pub slots_most : mixed_slots device ≤ SLOTS
  pub recorders_most : record_slots device ≤ SLOTS
  pub quality : device_quality device ≤ QUALITY_MOST
