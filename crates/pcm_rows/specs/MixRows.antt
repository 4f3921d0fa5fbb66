-- Devices whose mix has settings of its own, and scripts on them.
use Rattle.std.specs.Prelude.{ℕ, pos, List, [], ◌∷◌, ◌++◌, codes, map, replicate, take, Some, None, false}
use Rattle.std.specs.List.{range_with_len}
use Rattle.pcm_format.specs.declared.layout.Layout.{Layout}
use Rattle.pcm_format.specs.declared.layout.Layout.TheVariants.{One, Two}
use Rattle.pcm_format.specs.declared.settings.Settings.{Settings}
use Rattle.pcm_format.specs.Frames.{Frame}
use Rattle.pcm_oss.specs.declared.event.Event.{Event}
use Rattle.pcm_oss.specs.declared.event.Event.TheVariants.{Open, Write, Read, Ioctl, Close, Intr}
use Rattle.pcm_oss.specs.declared.event.Way.TheVariants.{Play, Record}
use Rattle.pcm_oss.specs.declared.request.Request.TheVariants.{GetError, GetOPtr, Post, SetPlayVol, SetTrigger}
use Rattle.pcm_wave.specs.declared.pool.Source.TheVariants.{Inline}
use Rattle.pcm_desk.specs.declared.play_book.PlayBook.{PlayBook}
use Rattle.pcm_desk.specs.declared.play_book.PlayState.TheVariants.{Running}
use Rattle.pcm_desk.specs.Device.{DeviceSeen, device_settings, parent_plan, ring_frames}
use Rattle.pcm_desk.specs.Usual.{usual_settings}
use Rattle.pcm_feeder.specs.declared.stage.Spec.{Spec}
use Rattle.pcm_feeder.specs.declared.stage.Spec.TheVariants.{Depth, Linear}
use Rattle.pcm_feeder.specs.Streams.{stream_of}
use Rattle.pcm_plan.specs.Plans.{PlanSeen}
use Rattle.pcm_sound.specs.DeviceList.{mix_at, silence_in}
use Rattle.pcm_sound.specs.Gains.{Faders}
use Rattle.pcm_sound.specs.Mix.{Table}
use Rattle.pcm_sound.specs.Runs.{Run}
use Rattle.pcm_sound.specs.Story.{Story, story_of}
use Rattle.pcm_script.specs.declared.script.Script.{Script}
use Rattle.pcm_rows.specs.Calls.{book_in, device_in, joined, little_endian, opens, piece, small_device}
use Rattle.pcm_rows.specs.ClientRates.{half_settings}
use Rattle.pcm_rows.specs.EqualiserRows.{adding_up, sections_alone}
use Rattle.pcm_rows.specs.FilterRows.{four_taps}
use Rattle.pcm_rows.specs.OneClient.{two_frame_bytes}
use Rattle.pcm_rows.specs.PlanRows.{plan_of, sixteen_bits}
use Rattle.pcm_rows.specs.RecordingRows.{mic_pool, mono_settings}
use Rattle.pcm_rows.specs.Requests.{asks}

-- ---- devices

-- two channels at 48000 over a ring of four frames, mixed in these settings
abbrev pub mixing_in : Settings → DeviceSeen
mixing_in settings = record small_device { mix_settings = settings }

-- mixed at half the rate, where lines are drawn between the frames
abbrev pub half_mixed : DeviceSeen
half_mixed = mixing_in half_settings

-- mixed at twice the rate
abbrev pub twice_mixed : DeviceSeen
twice_mixed = mixing_in (sixteen_bits Two 96000)

-- mixed in one channel
abbrev pub mono_mixed : DeviceSeen
mono_mixed = mixing_in mono_settings

-- one channel of 16 bits at half the rate
abbrev pub half_mono : Settings
half_mono = sixteen_bits One 24000

-- one channel of the device, mixed at half the rate
abbrev pub line_mixed : DeviceSeen
line_mixed = record (device_in mono_settings small_device) { mix_settings = half_mono }

-- the same by a filter of four taps
abbrev pub filter_mixed : DeviceSeen
filter_mixed = record line_mixed { device_quality = 2; device_filters = four_taps }

-- the same by a hold
abbrev pub hold_mixed : DeviceSeen
hold_mixed = record line_mixed { device_quality = 0 }

-- half the rate again, where each client goes through a section
abbrev pub section_mixed : DeviceSeen
section_mixed = record half_mixed { device_filters = sections_alone (adding_up ∷ []) }

-- frames of one channel as a mix, which is silent past the last
abbrev pub mix_with : List Frame → ℕ → Frame
mix_with frames position = stream_of 1 frames (pos position)

-- the silence of the ring, and then as many frames of a mix as were handed over
abbrev pub mix_behind_silence : DeviceSeen → Faders → Table → ℕ → List Frame
mix_behind_silence device faders table handed =
    replicate (ring_frames device) (silence_in (device_settings device))
    ++ map (mix_at device faders table) (range_with_len 0 handed)

-- ---- plans

-- from a mix in these settings to two channels at 48000
abbrev pub plan_from : Settings → PlanSeen
plan_from settings = parent_plan (mixing_in settings)

-- a plan to two channels of 16 bits without a volume
abbrev pub plan_to_two : Layout → List Spec → PlanSeen
plan_to_two source stages = plan_of source Two (stages ++ Depth 16 2 ∷ [])

-- `channels` channels at half the rate, brought to the device's by lines
abbrev pub half_line : ℕ → Spec
half_line channels = Linear 24000 48000 channels

-- ---- shortages

-- a client at the rate of the mix posts two frames, of which the interrupts mix three, one and none
abbrev pub starving_text : List ℕ
starving_text = joined (
    codes "open 0 play s16le 2 24000" ∷
    codes "write 0 0100020003000400" ∷
    codes "ioctl 0 post" ∷
    codes "intr 4" ∷
    codes "intr 1" ∷
    codes "intr 1" ∷
    codes "ioctl 0 geterror" ∷
    codes "ioctl 0 getoptr" ∷ [])

abbrev pub starving_script : Script
starving_script = record {
  events =
      Open 0 Play half_settings ∷ Write 0 Inline 0 8 ∷ asks Post ∷ Intr 4 ∷ Intr 1 ∷ Intr 1
      ∷ asks GetError ∷ asks GetOPtr ∷ [];
  inline_bytes = two_frame_bytes;
  device_frames = 6;
}

abbrev pub starving_lines : List ℕ
starving_lines = joined (
    codes "1: ok 0" ∷ codes "2: ok 8" ∷ codes "3: ok" ∷ codes "4: ok 4" ∷ codes "5: ok 1" ∷ codes "6: ok 1" ∷
    codes "7: ok underruns=2 overruns=0" ∷ codes "8: ok bytes=8 blocks=0 ptr=8" ∷ [])

-- its book: both frames were taken by the first interrupt
abbrev pub starving_book : ℕ → PlayBook
starving_book underruns = record (book_in half_settings Running 8 2 2) { underruns = underruns; last = 2 }

-- its run: pieces count frames of the mix, and an interrupt that mixes none takes none
abbrev pub starving_run : Run
starving_run = record {
  settings = half_settings;
  bytes = two_frame_bytes;
  start = Some 0;
  drained = false;
  dropped = None;
  pieces = piece 3 2 0 1 ∷ piece 0 0 2 1 ∷ [];
}

-- ---- frames between those of the mix

-- 0, 100 and 200 at the rate of the mix
abbrev pub line_text : List ℕ
line_text = joined (
    codes "open 0 play s16le 1 24000" ∷
    codes "write 0 00006400c800" ∷
    codes "close 0" ∷
    codes "intr 4" ∷
    codes "intr 4" ∷
    codes "intr 4" ∷ [])

abbrev pub line_script : Script
line_script = record {
  events = Open 0 Play half_mono ∷ Write 0 Inline 0 6 ∷ Close 0 ∷ Intr 4 ∷ Intr 4 ∷ Intr 4 ∷ [];
  inline_bytes = little_endian (0 ∷ 100 ∷ 200 ∷ []);
  device_frames = 12;
}

-- the same in interrupts of one frame
abbrev pub single_script : Script
single_script = record line_script { events = take 3 line_script.events ++ replicate 12 (Intr 1) }

-- what the device gets of them, with what is between them, down to the silence after them
abbrev pub line_bytes : List ℕ
line_bytes = replicate 8 0 ++ little_endian (0 ∷ 50 ∷ 100 ∷ 150 ∷ 200 ∷ 100 ∷ 0 ∷ 0 ∷ [])

-- ---- one channel under two

-- one frame of 100 and 300
abbrev pub sides_text : List ℕ
sides_text = joined (
    codes "open 0 play s16le 2 48000" ∷
    codes "write 0 64002c01" ∷
    codes "close 0" ∷
    codes "intr 4" ∷
    codes "intr 1" ∷ [])

abbrev pub sides_script : Script
sides_script = record {
  events = opens 0 ∷ Write 0 Inline 0 4 ∷ Close 0 ∷ Intr 4 ∷ Intr 1 ∷ [];
  inline_bytes = little_endian (100 ∷ 300 ∷ []);
  device_frames = 5;
}

-- ---- the limit of the mix

-- two clients at the rate of the mix with a sample each, 30000 and 10000
abbrev pub loud_pair_text : List ℕ
loud_pair_text = joined (
    codes "open 0 play s16le 1 24000" ∷
    codes "open 1 play s16le 1 24000" ∷
    codes "write 0 3075" ∷
    codes "close 0" ∷
    codes "write 1 1027" ∷
    codes "close 1" ∷
    codes "intr 4" ∷
    codes "intr 4" ∷ [])

abbrev pub loud_pair_script : Script
loud_pair_script = record {
  events =
      Open 0 Play half_mono ∷ Open 1 Play half_mono ∷ Write 0 Inline 0 2 ∷ Close 0
      ∷ Write 1 Inline 2 2 ∷ Close 1 ∷ Intr 4 ∷ Intr 4 ∷ [];
  inline_bytes = little_endian (30000 ∷ 10000 ∷ []);
  device_frames = 8;
}

-- ---- what is mixed, and what is handed over

-- a run that starts after four frames, for which three are mixed, and a volume after one more
abbrev pub late_play : Script
late_play = record {
  events = Intr 4 ∷ Open 0 Play half_settings ∷ Write 0 Inline 0 8 ∷ asks Post ∷ Intr 1 ∷ asks (SetPlayVol 0x3264) ∷ [];
  inline_bytes = two_frame_bytes;
  device_frames = 5;
}

-- its run
abbrev pub late_play_run : Run
late_play_run = record {
  settings = half_settings;
  bytes = two_frame_bytes;
  start = Some 3;
  drained = false;
  dropped = None;
  pieces = piece 3 0 1 0 ∷ [];
}

-- a recording that starts after four frames, for which three are mixed; its second frame comes with none of the mix
abbrev pub late_recording : List Event
late_recording = Open 0 Record usual_settings ∷ Intr 4 ∷ Ioctl 0 (SetTrigger 1) ∷ Intr 1 ∷ Intr 1 ∷ Read 0 8 ∷ []

-- its story
abbrev pub late_story : Story
late_story = story_of half_mixed mic_pool late_recording

abbrev pub late_answers : List ℕ
late_answers = joined (
    codes "1: ok 0" ∷ codes "2: ok 4" ∷ codes "3: ok" ∷ codes "4: ok 1" ∷ codes "5: ok 1" ∷
    codes "6: ok 8 0500050006000600" ∷ [])
