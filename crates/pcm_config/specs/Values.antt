-- What a table settles, row after row.
use Rattle.std.specs.Prelude.{ℕ, ℤ, ◌*◌, ◌<◌, ◌≤◌, List, Option, Some, None, Result, Ok}
use Rattle.pcm_format.specs.declared.settings.Settings.{Settings}
use Rattle.pcm_feeder.specs.Limits.{IsRate}
use Rattle.pcm_desk.specs.declared.device.TheConstants.{QUALITY_MOST}
use Rattle.pcm_desk.specs.declared.limits.TheConstants.{RING_FRAMES}
use Rattle.pcm_oss.specs.declared.event.TheConstants.{SLOTS}
use Rattle.toml.specs.Data.{Members, as_str}
use Rattle.pcm_config.specs.declared.fault.ConfigRefusal.{ConfigRefusal}
use Rattle.pcm_config.specs.declared.hardware.Hardware.{Hardware}
use Rattle.pcm_config.specs.declared.number.NumberRow.{NumberRow}
use Rattle.pcm_config.specs.declared.place.ConfigPlace.TheVariants.{DeviceCapture}
use Rattle.pcm_config.specs.declared.slots.Slots.{Slots}
use Rattle.pcm_config.specs.Judgements.{◌>>=◌, required}
use Rattle.pcm_config.specs.Lookups.{value_at}
use Rattle.pcm_config.specs.Rows.{ConfigRow, numbers, format_row, channels_row, rate_row, block_row, blocks_row, container_row, play_row, record_row, quality_row, mix_rate_row, mix_channels_row, mapped_row}

-- what a value means, which must be in its set, or what stands where there is none
abbrev pub in_row : {A B : Type 0} → ConfigRow A B → Option A → Result B ConfigRefusal
in_row row None = Ok row.usual
in_row row (Some value) = required row.fault row.place (row.in_set value)

-- the row of a number that the code names
abbrev pub number_row : NumberRow → ConfigRow ℤ ℕ
number_row row = numbers row.place row.least row.most row.usual

-- what a table settles of a row
abbrev pub settled : {A B : Type 0} → ConfigRow A B → Members → Result B ConfigRefusal
settled row table = do
  value ← value_at row.as_kind row.place table
  in_row row value

-- the settings of the device
unfoldable pub settings_in : Members → Result Settings ConfigRefusal
settings_in device = do
  format ← settled format_row device
  layout ← settled channels_row device
  rate ← settled rate_row device
  Ok (record { format = format; layout = layout; rate = rate })

-- what is settled of the device by itself
unfoldable pub hardware_in : Members → Result Hardware ConfigRefusal
hardware_in device = do
  settings ← settings_in device
  block ← settled block_row device
  blocks ← settled blocks_row device
  container ← settled container_row device
  Ok (record { settings = settings; block_frames = block; ring_frames = block * blocks; container = container })

-- the name of the file that is recorded from, if there is one
abbrev pub capture_in : Members → Result (Option (List ℕ)) ConfigRefusal
capture_in device = value_at as_str DeviceCapture device

-- the settings of the mix over a device with these: it has the device's format
unfoldable pub mix_in : Settings → Members → Result Settings ConfigRefusal
mix_in device vchans = do
  rate ← settled (mix_rate_row device.rate) vchans
  layout ← settled (mix_channels_row device.layout) vchans
  Ok (record { format = device.format; layout = layout; rate = rate })

-- how many channels play and record, how rates are converted, which frames are mixed over a device with these settings, and how many
-- channels have a mapped area
unfoldable pub slots_in : Settings → Members → Result Slots ConfigRefusal
slots_in device vchans = do
  play ← settled play_row vchans
  recording ← settled record_row vchans
  quality ← settled quality_row vchans
  mix ← mix_in device vchans
  mapped ← settled mapped_row vchans
  Ok (record { play = play; recording = recording; quality = quality; mix = mix; mapped = mapped })

-- a device within the limits of a run
pub record IsHardware (hardware : Hardware) : Type 0 where
  pub rate : IsRate hardware.settings.rate
  pub block : 0 < hardware.block_frames
  pub ring : hardware.block_frames ≤ hardware.ring_frames
  pub ring_most : hardware.ring_frames ≤ RING_FRAMES

-- channels within the limits of a run
pub record AreSlots (slots : Slots) : Type 0 where
  pub play : slots.play ≤ SLOTS
  pub recording : slots.recording ≤ SLOTS
  pub quality : slots.quality ≤ QUALITY_MOST
  pub mix_rate : IsRate slots.mix.rate
  pub mapped : slots.mapped ≤ SLOTS
