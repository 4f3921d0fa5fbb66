-- A script that is played on a device, and what its first events leave.
use Rattle.std.specs.Prelude.{ℕ, List, take}
use Rattle.pcm_oss.specs.declared.event.Event.{Event}
use Rattle.pcm_wave.specs.declared.pool.Pool.{Pool}
use Rattle.pcm_desk.specs.Device.{DeviceSeen}
use Rattle.pcm_sound.specs.DeviceList.{device_text}
use Rattle.pcm_config.specs.Configs.{device_seen}
use Rattle.pcm_verdict.specs.Outputs.{inputs_pool}
use Rattle.pcm_verdict.specs.Transcript.{transcript}
use Rattle.pcm_verdict.specs.Verdict.{Inputs}

-- the events, the device, and where the bytes of writes are found
pub record Playback : Type 0 where
  pub device : DeviceSeen
  pub pool : Pool
  pub events : List Event

abbrev pub playback : DeviceSeen → Pool → List Event → Playback
playback device pool events = record { device = device; pool = pool; events = events }

-- what a run plays
abbrev pub playback_of : Inputs → Playback
playback_of inputs = playback (device_seen inputs.config) (inputs_pool inputs) inputs.script.events

-- the bytes that the first events hand over
abbrev pub bytes_until : Playback → ℕ → List ℕ
bytes_until playback done = device_text playback.device playback.pool (take done playback.events)

-- the lines of the first events
abbrev pub lines_until : Playback → ℕ → List ℕ
lines_until playback done = transcript playback.device playback.pool (take done playback.events)
