-- Scripts with several clients.
use Rattle.std.specs.Prelude.{ℕ, List, [], ◌∷◌, ◌++◌, codes}
use Rattle.pcm_oss.specs.declared.event.Event.{Event}
use Rattle.pcm_oss.specs.declared.event.Event.TheVariants.{Write, Close, Intr}
use Rattle.pcm_wave.specs.declared.pool.Source.TheVariants.{Inline}
use Rattle.pcm_desk.specs.Device.{DeviceSeen}
use Rattle.pcm_script.specs.declared.script.Script.{Script}
use Rattle.pcm_desk.specs.Usual.{usual_device}
use Rattle.pcm_rows.specs.Calls.{opens, joined, stereo_bytes}

-- three clients with a frame each
abbrev pub three_text : List ℕ → List ℕ → List ℕ → List ℕ
three_text first second third = joined (
    codes "open 0 play s16le 2 48000" ∷
    codes "open 1 play s16le 2 48000" ∷
    codes "open 2 play s16le 2 48000" ∷
    (codes "write 0 " ++ first) ∷
    codes "close 0" ∷
    (codes "write 1 " ++ second) ∷
    codes "close 1" ∷
    (codes "write 2 " ++ third) ∷
    codes "close 2" ∷
    codes "intr 1024" ∷
    codes "intr 1" ∷ [])

abbrev pub three_script : List ℕ → List ℕ → List ℕ → Script
three_script first second third = record {
  events = opens 0 ∷ opens 1 ∷ opens 2 ∷ Write 0 Inline 0 4 ∷ Close 0 ∷ Write 1 Inline 4 4 ∷ Close 1 ∷ Write 2 Inline 8 4 ∷ Close 2 ∷ Intr 1024 ∷ Intr 1 ∷ [];
  inline_bytes = first ++ second ++ third;
  device_frames = 1025;
}

abbrev pub three_lines : List ℕ
three_lines = joined (
    codes "1: ok 0" ∷ codes "2: ok 1" ∷ codes "3: ok 2" ∷
    codes "4: ok 4" ∷ codes "5: ok" ∷ codes "6: ok 4" ∷ codes "7: ok" ∷ codes "8: ok 4" ∷ codes "9: ok" ∷
    codes "10: ok 1024" ∷ codes "11: ok 1" ∷ [])

-- frames of 30000, 10000 and -10000, twice each
abbrev pub loud_frame : List ℕ
loud_frame = stereo_bytes (30000 ∷ [])

abbrev pub soft_frame : List ℕ
soft_frame = stereo_bytes (10000 ∷ [])

abbrev pub negative_frame : List ℕ
negative_frame = 0xf0 ∷ 0xd8 ∷ 0xf0 ∷ 0xd8 ∷ []

-- the three in an order in which their sum is limited
abbrev pub limited_text : List ℕ
limited_text = three_text (codes "30753075") (codes "10271027") (codes "f0d8f0d8")

abbrev pub limited_script : Script
limited_script = three_script loud_frame soft_frame negative_frame

-- and in an order in which it isn't
abbrev pub unlimited_text : List ℕ
unlimited_text = three_text (codes "f0d8f0d8") (codes "30753075") (codes "10271027")

abbrev pub unlimited_script : Script
unlimited_script = three_script negative_frame loud_frame soft_frame

-- more opens than the device has slots
abbrev pub opens_text : List ℕ
opens_text = joined (
    codes "open 0 play s16le 2 48000" ∷
    codes "open 0 play s16le 2 48000" ∷
    codes "open 1 play s16le 2 48000" ∷
    codes "open 2 play s16le 2 48000" ∷
    codes "open 3 play s16le 2 48000" ∷
    codes "open 4 play s16le 2 48000" ∷ [])

abbrev pub opens_script : Script
opens_script = record {
  events = opens 0 ∷ opens 0 ∷ opens 1 ∷ opens 2 ∷ opens 3 ∷ opens 4 ∷ [];
  inline_bytes = [];
  device_frames = 0;
}

abbrev pub opens_lines : List ℕ
opens_lines = joined (
    codes "1: ok 0" ∷ codes "2: refused exist" ∷ codes "3: ok 1" ∷ codes "4: ok 2" ∷ codes "5: ok 3" ∷
    codes "6: refused busy" ∷ [])

-- a device that one client can play on
abbrev pub single_device : DeviceSeen
single_device = record usual_device { play_slots = 1 }

-- an open while the slot's client plays, one while it drains, one once its frame was mixed, and one once that was handed over
abbrev pub queue_events : List Event
queue_events = opens 0 ∷ opens 1 ∷ Write 0 Inline 0 4 ∷ Close 0 ∷ opens 1 ∷ Intr 1 ∷ opens 1 ∷ Intr 1024 ∷ opens 1 ∷ []

abbrev pub queue_lines : List ℕ
queue_lines = joined (
    codes "1: ok 0" ∷ codes "2: refused busy" ∷ codes "3: ok 4" ∷ codes "4: ok" ∷ codes "5: refused busy" ∷
    codes "6: ok 1" ∷ codes "7: refused busy" ∷ codes "8: ok 1024" ∷ codes "9: ok 0" ∷ [])
