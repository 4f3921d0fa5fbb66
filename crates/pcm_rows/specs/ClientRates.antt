-- Scripts with one client at another rate than the device's.
use Rattle.std.specs.Prelude.{ℕ, zero, suc, ◌+◌, List, [], ◌∷◌, ◌++◌, codes, replicate, Some, None, true}
use Rattle.pcm_oss.specs.declared.event.Event.{Event}
use Rattle.pcm_oss.specs.declared.event.Event.TheVariants.{Open, Write, Ioctl, Close, Intr}
use Rattle.pcm_oss.specs.declared.request.Request.TheVariants.{SetFragment, Sync}
use Rattle.pcm_wave.specs.declared.pool.Source.TheVariants.{Inline}
use Rattle.pcm_oss.specs.declared.event.Way.TheVariants.{Play}
use Rattle.pcm_format.specs.declared.format.Format.TheVariants.{S16Le, S32Le}
use Rattle.pcm_format.specs.declared.layout.Layout.TheVariants.{One, Two, Eight}
use Rattle.pcm_format.specs.declared.settings.Settings.{Settings}
use Rattle.pcm_desk.specs.declared.play_book.PlayBook.{PlayBook}
use Rattle.pcm_desk.specs.declared.play_book.PlayState.TheVariants.{Free, Setup, Running, Draining}
use Rattle.pcm_desk.specs.declared.device.TheConstants.{OPENING}
use Rattle.pcm_desk.specs.Device.{DeviceSeen, play_plan_between}
use Rattle.pcm_desk.specs.Usual.{usual_device}
use Rattle.pcm_plan.specs.Plans.{PlanSeen}
use Rattle.pcm_sound.specs.Runs.{Run}
use Rattle.pcm_script.specs.declared.script.Script.{Script}
use Rattle.pcm_rows.specs.Calls.{book_in, cut_in, device_in, joined, last_at, piece, small_device, stereo_bytes}
use Rattle.pcm_rows.specs.ClientFormats.{client_script}
use Rattle.pcm_rows.specs.FilterRows.{sixty_four_taps}
use Rattle.pcm_rows.specs.Stages.{two_taps}

-- an open without settings, which is 8000 frames of one byte each second: 0, 6 and -6
abbrev pub opening_text : List ℕ
opening_text = joined (
    codes "open 0 play" ∷
    codes "write 0 80867a" ∷
    codes "close 0" ∷
    codes "intr 1024" ∷
    codes "intr 18" ∷ [])

abbrev pub opening_script : Script
opening_script = client_script OPENING (0x80 ∷ 0x86 ∷ 0x7a ∷ []) 18

-- six frames for each of the three, and both sides alike: up by one and down by two, in steps of 256, and up to silence by one
abbrev pub opening_bytes : List ℕ
opening_bytes =
    0 ∷ 0x00 ∷ 0 ∷ 0x00 ∷ 0 ∷ 0x01 ∷ 0 ∷ 0x01 ∷ 0 ∷ 0x02 ∷ 0 ∷ 0x02 ∷ 0 ∷ 0x03 ∷ 0 ∷ 0x03 ∷ 0 ∷ 0x04 ∷ 0 ∷ 0x04 ∷ 0 ∷ 0x05 ∷ 0 ∷ 0x05
    ∷ 0 ∷ 0x06 ∷ 0 ∷ 0x06 ∷ 0 ∷ 0x04 ∷ 0 ∷ 0x04 ∷ 0 ∷ 0x02 ∷ 0 ∷ 0x02 ∷ 0 ∷ 0x00 ∷ 0 ∷ 0x00 ∷ 0 ∷ 0xfe ∷ 0 ∷ 0xfe ∷ 0 ∷ 0xfc ∷ 0 ∷ 0xfc
    ∷ 0 ∷ 0xfa ∷ 0 ∷ 0xfa ∷ 0 ∷ 0xfb ∷ 0 ∷ 0xfb ∷ 0 ∷ 0xfc ∷ 0 ∷ 0xfc ∷ 0 ∷ 0xfd ∷ 0 ∷ 0xfd ∷ 0 ∷ 0xfe ∷ 0 ∷ 0xfe ∷ 0 ∷ 0xff ∷ 0 ∷ 0xff ∷ []

-- half the rate of the device
abbrev pub half_settings : Settings
half_settings = record { format = S16Le; layout = Two; rate = 24000 }

-- 0 and 100 on both sides
abbrev pub step_body : List ℕ
step_body = stereo_bytes (0 ∷ 100 ∷ [])

-- and at twice the rate, up to silence
abbrev pub step_doubled : List ℕ
step_doubled = stereo_bytes (0 ∷ 50 ∷ 100 ∷ 50 ∷ [])

-- two frames at half the rate, of which three of the four frames that they last for are mixed first
abbrev pub tail_text : List ℕ
tail_text = joined (
    codes "open 0 play s16le 2 24000" ∷
    codes "write 0 0000000064006400" ∷
    codes "close 0" ∷
    codes "intr 3" ∷
    codes "intr 1" ∷
    codes "intr 4" ∷ [])

abbrev pub tail_script : Script
tail_script = record {
  events = Open 0 Play half_settings ∷ Write 0 Inline 0 8 ∷ Close 0 ∷ Intr 3 ∷ Intr 1 ∷ Intr 4 ∷ [];
  inline_bytes = step_body;
  device_frames = 8;
}

abbrev pub tail_lines : List ℕ
tail_lines = joined (
    codes "1: ok 0" ∷ codes "2: ok 8" ∷ codes "3: ok" ∷ codes "4: ok 3" ∷ codes "5: ok 1" ∷ codes "6: ok 4" ∷ [])

-- its book while the last frame fades to silence: both frames are eaten, and one output is left
abbrev pub tail_book : PlayBook
tail_book = last_at 3 (book_in half_settings (Draining true) 8 2 3)

-- and once that has left the device's ring: its two frames were played
abbrev pub tail_over_book : PlayBook
tail_over_book = record (book_in half_settings Free 0 0 0) { done = 8; last = 4 }

-- its run: pieces count frames of the mix, and the last interrupt got nothing more
abbrev pub tail_run : Run
tail_run = record {
  settings = half_settings;
  bytes = tail_script.inline_bytes;
  start = Some 0;
  drained = true;
  dropped = None;
  pieces = piece 4 4 0 0 ∷ piece 3 3 1 0 ∷ piece 0 0 3 0 ∷ [];
}

-- a device of one channel of 32 bits, over a ring of four frames
abbrev pub narrow_device : DeviceSeen
narrow_device = device_in (record { format = S32Le; layout = One; rate = 48000 }) small_device

-- two channels at half its rate: (1, 0) and (1, 2)
abbrev pub downmix_text : List ℕ
downmix_text = joined (
    codes "open 0 play s32le 2 24000" ∷
    codes "write 0 01000000000000000100000002000000" ∷
    codes "close 0" ∷
    codes "intr 4" ∷
    codes "intr 4" ∷ [])

abbrev pub downmix_script : Script
downmix_script = record {
  events = Open 0 Play (record { format = S32Le; layout = Two; rate = 24000 }) ∷ Write 0 Inline 0 16 ∷ Close 0 ∷ Intr 4 ∷ Intr 4 ∷ [];
  inline_bytes = 1 ∷ 0 ∷ 0 ∷ 0 ∷ 0 ∷ 0 ∷ 0 ∷ 0 ∷ 1 ∷ 0 ∷ 0 ∷ 0 ∷ 2 ∷ 0 ∷ 0 ∷ 0 ∷ [];
  device_frames = 8;
}

abbrev pub downmix_lines : List ℕ
downmix_lines = joined (
    codes "1: ok 0" ∷ codes "2: ok 16" ∷ codes "3: ok" ∷ codes "4: ok 4" ∷ codes "5: ok 4" ∷ [])

-- a fragment of 128 frames at half the rate, and a late frame
abbrev pub wide_settings : Settings
wide_settings = record { format = S32Le; layout = Eight; rate = 24000 }

abbrev pub wide_events : List Event
wide_events = Open 0 Play wide_settings ∷ Write 0 Inline 0 4096 ∷ Intr 254 ∷ Intr 2 ∷ Write 0 Inline 4096 32 ∷ Intr 2 ∷ []

-- its book while it runs
abbrev pub wide_book : ℕ → ℕ → ℕ → ℕ → ℕ → PlayBook
wide_book written eaten given last underruns = record (book_in wide_settings Running written eaten given) { last = last; underruns = underruns }

-- a device of one channel of 32 bits, whose filter doubles rates with two taps
abbrev pub filtered_device : DeviceSeen
filtered_device = record (device_in (record { format = S32Le; layout = One; rate = 48000 }) usual_device) { device_quality = 2; device_filters = two_taps }

-- half its rate
abbrev pub filtered_settings : Settings
filtered_settings = record { format = S32Le; layout = One; rate = 24000 }

-- what a plan at some quality gives it
abbrev pub filtered_plan : ℕ → PlanSeen
filtered_plan quality = play_plan_between (record filtered_device { device_quality = quality }) filtered_settings

-- two frames: -3 and 4
abbrev pub filtered_text : List ℕ
filtered_text = joined (
    codes "open 0 play s32le 1 24000" ∷
    codes "write 0 fdffffff04000000" ∷
    codes "ioctl 0 sync" ∷
    codes "intr 1024" ∷
    codes "intr 4" ∷ [])

abbrev pub filtered_script : Script
filtered_script = record {
  events = Open 0 Play filtered_settings ∷ Write 0 Inline 0 8 ∷ Ioctl 0 Sync ∷ Intr 1024 ∷ Intr 4 ∷ [];
  inline_bytes = 0xfd ∷ 0xff ∷ 0xff ∷ 0xff ∷ 4 ∷ 0 ∷ 0 ∷ 0 ∷ [];
  device_frames = 1028;
}

abbrev pub filtered_lines : List ℕ
filtered_lines = joined (
    codes "1: ok 0" ∷ codes "2: ok 8" ∷ codes "3: ok" ∷ codes "4: ok 1024" ∷ codes "5: ok 4" ∷ [])

-- -3, 1, 4 and 2
abbrev pub filtered_bytes : List ℕ
filtered_bytes =
    0xfd ∷ 0xff ∷ 0xff ∷ 0xff ∷ 1 ∷ 0 ∷ 0 ∷ 0 ∷ 4 ∷ 0 ∷ 0 ∷ 0 ∷ 2 ∷ 0 ∷ 0 ∷ 0 ∷ []

-- its book once both frames were played
abbrev pub filtered_book : PlayBook
filtered_book = record (book_in filtered_settings Setup 0 0 0) { done = 8; last = 4 }

-- a device of eight channels over a ring of four frames, whose filter has 64 taps
abbrev pub ahead_device : DeviceSeen
ahead_device = record (device_in (record wide_settings { rate = 48000 }) small_device) { device_quality = 2; device_filters = sixty_four_taps }

-- a frame of eight channels: 256, 257 and so on
abbrev pub ahead_frame : List ℕ
ahead_frame =
    0 ∷ 1 ∷ 0 ∷ 0 ∷ 1 ∷ 1 ∷ 0 ∷ 0 ∷ 2 ∷ 1 ∷ 0 ∷ 0 ∷ 3 ∷ 1 ∷ 0 ∷ 0
    ∷ 4 ∷ 1 ∷ 0 ∷ 0 ∷ 5 ∷ 1 ∷ 0 ∷ 0 ∷ 6 ∷ 1 ∷ 0 ∷ 0 ∷ 7 ∷ 1 ∷ 0 ∷ 0 ∷ []

-- `count` frames, each written alone and followed by an interrupt of one frame
abbrev pub frame_by_frame : ℕ → ℕ → List Event
frame_by_frame place zero = []
frame_by_frame place (suc count) = Write 0 Inline place 32 ∷ Intr 1 ∷ frame_by_frame (place + 32) count

-- 33 frames at half the rate, over a client's ring that has room for one, and the frame of the mix after the last one
abbrev pub ahead_script : Script
ahead_script = record {
  events = Open 0 Play wide_settings ∷ Ioctl 0 (SetFragment 0x00020004) ∷ frame_by_frame 0 33 ++ Intr 4 ∷ [];
  inline_bytes = ahead_frame ++ replicate 1024 0;
  device_frames = 37;
}

-- its book while it runs
abbrev pub ahead_book : ℕ → ℕ → ℕ → ℕ → PlayBook
ahead_book written eaten given last = cut_in 4 2 (wide_book written eaten given last 32)
