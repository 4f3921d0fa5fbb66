-- What the device gets: the silence of its ring, then what the parent's plan makes of the mix, spelled.
use Rattle.std.specs.Prelude.{ℕ, List, ◌++◌, map, replicate, take, option_map}
use Rattle.std.specs.List.{range_with_len}
use Rattle.pcm_format.specs.declared.settings.Settings.{Settings}
use Rattle.pcm_oss.specs.declared.event.Event.{Event}
use Rattle.pcm_wave.specs.declared.pool.Pool.{Pool}
use Rattle.pcm_format.specs.Formats.{bits_of}
use Rattle.pcm_format.specs.Layouts.{channels_of}
use Rattle.pcm_format.specs.Frames.{Frame, spelled_frames}
use Rattle.pcm_feeder.specs.Layouts.{at_gain}
use Rattle.pcm_feeder.specs.Streams.{silence}
use Rattle.pcm_plan.specs.Through.{recs}
use Rattle.pcm_desk.specs.Device.{DeviceSeen, device_settings, device_filters, full_frame, mix_settings, mixed_for, mixed_slots, parent_plan, ring_frames}
use Rattle.pcm_sound.specs.Gains.{Faders, last_gain, master_gain_at, slot_gain_at}
use Rattle.pcm_sound.specs.Runs.{sounding}
use Rattle.pcm_sound.specs.Story.{Story, mixed_gains, mixed_runs, story_of}
use Rattle.pcm_sound.specs.Mix.{Table, mix_of}

-- what the runs of a story give
abbrev pub table_of : DeviceSeen → Story → Table
table_of device story slot position = sounding device (last_gain (mixed_gains device story slot) position) (mixed_runs device story slot) position

-- a frame of silence in these settings
abbrev pub silence_in : Settings → Frame
silence_in settings = silence (channels_of settings.layout)

-- a table with each slot at the gain of its fader; one that is muted gives silence
abbrev pub faded_table : DeviceSeen → Faders → Table → Table
faded_table device faders table slot position = option_map (at_gain (mix_settings device).layout (slot_gain_at faders slot position)) (table slot position)

-- the sum of a table at a position
abbrev pub sum_at : DeviceSeen → Table → ℕ → Frame
sum_at device table position =
    mix_of (bits_of (mix_settings device).format) (silence_in (mix_settings device)) table (mixed_slots device) position

-- the mix of a table at a position: each slot at its gain, and the sum, once it is limited, at the gain of all that is mixed
abbrev pub mix_at : DeviceSeen → Faders → Table → ℕ → Frame
mix_at device faders table position =
    at_gain (mix_settings device).layout (master_gain_at faders position) (sum_at device (faded_table device faders table) position)

-- the first frames of a mix, at 32 bits
abbrev pub mixed_frames : DeviceSeen → (ℕ → Frame) → ℕ → List Frame
mixed_frames device mix count = map (λ position. full_frame device (mix position)) (range_with_len 0 count)

-- `count` frames of the device from frame `from` on, once it has been given `handed`: what the parent's plan makes of all mixed by then
abbrev pub device_frames : DeviceSeen → (ℕ → Frame) → ℕ → ℕ → ℕ → List Frame
device_frames device mix handed from count =
    recs (parent_plan device) (device_filters device) (mixed_frames device mix (mixed_for device handed)) from count

-- the frames of the device once it has been given `handed`: its ring begins as silence
abbrev pub device_list : DeviceSeen → Faders → Table → ℕ → List Frame
device_list device faders table handed =
    replicate (ring_frames device) (silence_in (device_settings device)) ++ device_frames device (mix_at device faders table) handed 0 handed

-- the bytes of all frames of the device, given to it or still in its ring
abbrev pub device_bytes : DeviceSeen → Story → List ℕ
device_bytes device story = spelled_frames (device_settings device).format (device_list device story.faders (table_of device story) story.desk.handed)

-- the bytes of the frames that a table gives, as many as the device has been given
abbrev pub device_body_of : DeviceSeen → Faders → Table → ℕ → List ℕ
device_body_of device faders table handed = spelled_frames (device_settings device).format (take handed (device_list device faders table handed))

-- the bytes of the frames that the interrupts of a story gave to the device
abbrev pub device_body : DeviceSeen → Story → List ℕ
device_body device story = device_body_of device story.faders (table_of device story) story.desk.handed

-- the device's whole text
abbrev pub device_text : DeviceSeen → Pool → List Event → List ℕ
device_text device pool events = device_body device (story_of device pool events)
