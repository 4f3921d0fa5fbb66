-- What a client's frames become on their way into the mix, and the device's on their way to a client.
use Rattle.std.specs.Prelude.{ℕ, ℤ, List}
use Rattle.pcm_format.specs.declared.settings.Settings.{Settings}
use Rattle.pcm_format.specs.Frames.{Frame, frames, spelled_frames}
use Rattle.pcm_feeder.specs.declared.stage.Gain.{Gain}
use Rattle.pcm_feeder.specs.Streams.{interleaved}
use Rattle.pcm_plan.specs.Through.{out, outs, recs}
use Rattle.pcm_desk.specs.Device.{DeviceSeen, device_filters, play_plan_between, record_plan_between}

-- frame k that a client's frames give to the mix, at a gain: what its plan makes of them
abbrev pub given_frame : DeviceSeen → Settings → List Frame → ℕ → Gain → Frame
given_frame device settings frames k gain = out (play_plan_between device settings) (device_filters device) frames k gain

-- the samples of the `count` frames that a client's bytes give to the mix, from frame `from` on, at one gain
abbrev pub given_samples : DeviceSeen → Gain → Settings → List ℕ → ℕ → ℕ → List ℤ
given_samples device gain settings bytes from count =
    interleaved (outs (play_plan_between device settings) (device_filters device) gain (frames settings bytes) from count)

-- the bytes of the `count` frames that the device's frames give to a client that records, from frame `from` on
abbrev pub recorded_bytes : DeviceSeen → Settings → List Frame → ℕ → ℕ → List ℕ
recorded_bytes device settings frames from count =
    spelled_frames settings.format (recs (record_plan_between device settings) (device_filters device) frames from count)
