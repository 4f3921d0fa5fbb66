-- Scripts that record.
use Rattle.std.specs.Prelude.{ℕ, List, [], ◌∷◌, codes, Some}
use Rattle.pcm_format.specs.declared.settings.Settings.{Settings}
use Rattle.pcm_format.specs.declared.layout.Layout.TheVariants.{One}
use Rattle.pcm_oss.specs.declared.event.Event.{Event}
use Rattle.pcm_oss.specs.declared.event.Event.TheVariants.{Open, Read, Ioctl, Intr}
use Rattle.pcm_oss.specs.declared.event.Way.TheVariants.{Play, Record}
use Rattle.pcm_oss.specs.declared.request.Request.TheVariants.{SetFragment, SetTrigger, GetCaps, GetError, GetFmts, GetIPtr, GetISpace, Post}
use Rattle.pcm_wave.specs.declared.pool.Pool.{Pool}
use Rattle.pcm_wave.specs.DataFiles.{DataFileSeen}
use Rattle.pcm_wave.specs.Waves.{wave_with}
use Rattle.pcm_desk.specs.declared.device.TheConstants.{OPENING}
use Rattle.pcm_desk.specs.Usual.{usual_device, usual_settings}
use Rattle.pcm_script.specs.declared.script.Script.{Script}
use Rattle.pcm_verdict.specs.Transcript.{transcript}
use Rattle.pcm_rows.specs.Calls.{joined}

-- ten frames, each with its number on both sides
abbrev pub mic_bytes : List ℕ
mic_bytes =
    1 ∷ 0 ∷ 1 ∷ 0 ∷ 2 ∷ 0 ∷ 2 ∷ 0 ∷ 3 ∷ 0 ∷ 3 ∷ 0 ∷ 4 ∷ 0 ∷ 4 ∷ 0 ∷ 5 ∷ 0 ∷ 5 ∷ 0
    ∷ 6 ∷ 0 ∷ 6 ∷ 0 ∷ 7 ∷ 0 ∷ 7 ∷ 0 ∷ 8 ∷ 0 ∷ 8 ∷ 0 ∷ 9 ∷ 0 ∷ 9 ∷ 0 ∷ 10 ∷ 0 ∷ 10 ∷ 0 ∷ []

abbrev pub mic : DataFileSeen
mic = record { name = codes "mic"; bytes = mic_bytes; wave = wave_with usual_settings 0 40 }

-- what is recorded from
abbrev pub mic_pool : Pool
mic_pool = record { files = mic ∷ []; capture = Some 0; inline_bytes = [] }

-- a script without bytes of its own
abbrev pub recording_script : List Event → ℕ → Script
recording_script events frames = record { events = events; inline_bytes = []; device_frames = frames }

-- what a script that records is answered
abbrev pub answers_recorded : Script → List ℕ
answers_recorded script = transcript usual_device mic_pool script.events

-- a ring of two fragments of 16 bytes, which has room for eight of ten frames
abbrev pub full_text : List ℕ
full_text = joined (
    codes "open 0 rec s16le 2 48000" ∷
    codes "ioctl 0 setfragment 0x00020004" ∷
    codes "ioctl 0 settrigger 1" ∷
    codes "intr 6" ∷
    codes "intr 4" ∷
    codes "ioctl 0 geterror" ∷
    codes "ioctl 0 getispace" ∷
    codes "read 0 64" ∷
    codes "read 0 1" ∷
    codes "read 0 0" ∷
    codes "ioctl 0 getiptr" ∷ [])

abbrev pub full_script : Script
full_script = recording_script (
    Open 0 Record usual_settings ∷ Ioctl 0 (SetFragment 0x00020004) ∷ Ioctl 0 (SetTrigger 1) ∷ Intr 6 ∷ Intr 4
    ∷ Ioctl 0 GetError ∷ Ioctl 0 GetISpace ∷ Read 0 64 ∷ Read 0 1 ∷ Read 0 0 ∷ Ioctl 0 GetIPtr ∷ []) 10

abbrev pub full_lines : List ℕ
full_lines = joined (
    codes "1: ok 0" ∷
    codes "2: ok 131076" ∷
    codes "3: ok" ∷
    codes "4: ok 6" ∷
    codes "5: ok 4" ∷
    codes "6: ok underruns=0 overruns=1" ∷
    codes "7: ok fragments=2 fragstotal=2 fragsize=16 bytes=32" ∷
    codes "8: ok 32 0100010002000200030003000400040005000500060006000700070008000800" ∷
    codes "9: refused again" ∷
    codes "10: ok 0 -" ∷
    codes "11: ok bytes=32 blocks=2 ptr=0" ∷ [])

abbrev pub mono_settings : Settings
mono_settings = record usual_settings { layout = One }

-- one channel, started by a post
abbrev pub mono_text : List ℕ
mono_text = joined (
    codes "open 0 rec s16le 1 48000" ∷
    codes "ioctl 0 setfragment 0x00020004" ∷
    codes "ioctl 0 post" ∷
    codes "intr 2" ∷
    codes "read 0 64" ∷ [])

abbrev pub mono_recording_script : Script
mono_recording_script = recording_script (Open 0 Record mono_settings ∷ Ioctl 0 (SetFragment 0x00020004) ∷ Ioctl 0 Post ∷ Intr 2 ∷ Read 0 64 ∷ []) 2

abbrev pub mono_lines : List ℕ
mono_lines = joined (codes "1: ok 0" ∷ codes "2: ok 131076" ∷ codes "3: ok" ∷ codes "4: ok 2" ∷ codes "5: ok 4 01000200" ∷ [])

-- a recording that starts two frames before the end of what is captured, and is read past that end
abbrev pub late_events : List Event
late_events = Open 0 Record usual_settings ∷ Intr 8 ∷ Read 0 4 ∷ Ioctl 0 (SetTrigger 1) ∷ Intr 3 ∷ Read 0 16 ∷ []

abbrev pub late_lines : List ℕ
late_lines = joined (
    codes "1: ok 0" ∷ codes "2: ok 8" ∷ codes "3: refused again" ∷ codes "4: ok" ∷ codes "5: ok 3" ∷ codes "6: ok 12 090009000a000a0000000000" ∷ [])

-- what is asked of a channel that plays as if it recorded
abbrev pub other_way_text : List ℕ
other_way_text = joined (
    codes "open 0 play" ∷
    codes "open 0 rec" ∷
    codes "read 0 4" ∷
    codes "ioctl 0 getiptr" ∷
    codes "ioctl 0 settrigger 4" ∷
    codes "ioctl 0 getfmts" ∷
    codes "ioctl 0 getcaps" ∷ [])

abbrev pub other_way_script : Script
other_way_script = recording_script (
    Open 0 Play OPENING ∷ Open 0 Record OPENING ∷ Read 0 4 ∷ Ioctl 0 GetIPtr ∷ Ioctl 0 (SetTrigger 4) ∷ Ioctl 0 GetFmts ∷ Ioctl 0 GetCaps ∷ []) 0

abbrev pub other_way_lines : List ℕ
other_way_lines = joined (
    codes "1: ok 0" ∷
    codes "2: refused exist" ∷
    codes "3: refused inval" ∷
    codes "4: refused inval" ∷
    codes "5: refused inval" ∷
    codes "6: ok 1044984" ∷
    codes "7: ok 4608" ∷ [])
