-- Scripts that ask the mixer device.
use Rattle.std.specs.Prelude.{ℕ, List, [], ◌∷◌, ◌++◌, codes, replicate, Some, None, false}
use Rattle.pcm_oss.specs.declared.event.Event.{Event}
use Rattle.pcm_oss.specs.declared.event.Event.TheVariants.{Write, Poke, Ioctl, Close, Mixer, Intr}
use Rattle.pcm_oss.specs.declared.mix_request.MixRequest.{MixRequest}
use Rattle.pcm_oss.specs.declared.mix_request.MixRequest.TheVariants.{SetMaster, GetMaster, SetSlot, GetSlot, Mute}
use Rattle.pcm_oss.specs.declared.request.Request.TheVariants.{GetError, GetOPtr, Post, Sync}
use Rattle.pcm_wave.specs.declared.pool.Source.TheVariants.{Inline}
use Rattle.pcm_desk.specs.Usual.{usual_settings}
use Rattle.pcm_sound.specs.Gains.{GainSet}
use Rattle.pcm_sound.specs.Runs.{Run}
use Rattle.pcm_script.specs.declared.script.Script.{Script}
use Rattle.pcm_rows.specs.Calls.{joined, little_endian, opens, piece, stereo_bytes, times}
use Rattle.pcm_rows.specs.MappedRows.{maps_lines, maps_open}
use Rattle.pcm_rows.specs.OneClient.{drain_bytes}
use Rattle.pcm_rows.specs.Requests.{asks, softer_script}
use Rattle.pcm_rows.specs.SeveralClients.{loud_frame, soft_frame}

-- half as loud on both sides, from a position on
abbrev pub half_from : ℕ → GainSet
half_from position = record { position = position; gain = record { left = 32768; right = 32768 } }

-- nothing is heard, from a position on
abbrev pub nothing_from : ℕ → GainSet
nothing_from position = record { position = position; gain = record { left = 0; right = 0 } }

-- ---- a slot

-- four frames of 100 and -3, at half the gain on the right side, of which the third is mixed while the slot is muted
abbrev pub faded_text : List ℕ
faded_text = joined (
    codes "open 0 play s16le 2 48000" ∷
    codes "write 0 6400fdff6400fdff6400fdff6400fdff" ∷
    codes "ioctl 0 post" ∷
    codes "mixer slot 0 0x3264" ∷
    codes "intr 2" ∷
    codes "mixer mute 0 1" ∷
    codes "intr 1" ∷
    codes "mixer mute 0 0" ∷
    codes "intr 1021" ∷
    codes "intr 4" ∷ [])

abbrev pub faded_script : Script
faded_script = record {
  events =
      opens 0 ∷ Write 0 Inline 0 16 ∷ asks Post ∷ Mixer (SetSlot 0 0x3264) ∷ Intr 2 ∷ Mixer (Mute 0 1) ∷ Intr 1 ∷
      Mixer (Mute 0 0) ∷ Intr 1021 ∷ Intr 4 ∷ [];
  inline_bytes = softer_script.inline_bytes;
  device_frames = 1028;
}

-- half of -3 is -2, rounded down
abbrev pub faded_bytes : List ℕ
faded_bytes = times 2 (0x64 ∷ 0x00 ∷ 0xfe ∷ 0xff ∷ []) ++ 0 ∷ 0 ∷ 0 ∷ 0 ∷ 0x64 ∷ 0x00 ∷ 0xfe ∷ 0xff ∷ []

abbrev pub faded_lines : List ℕ
faded_lines = joined (
    codes "1: ok 0" ∷ codes "2: ok 16" ∷ codes "3: ok" ∷ codes "4: ok 12900" ∷ codes "5: ok 2" ∷ codes "6: ok" ∷ codes "7: ok 1" ∷
    codes "8: ok" ∷ codes "9: ok 1021" ∷ codes "10: ok 4" ∷ [])

-- ---- the limit

-- two clients with a frame each, of 30000 and of 10000, where all is at half the gain
abbrev pub master_text : List ℕ
master_text = joined (
    codes "mixer master 0x3232" ∷
    codes "open 0 play s16le 2 48000" ∷
    codes "open 1 play s16le 2 48000" ∷
    codes "write 0 30753075" ∷
    codes "write 1 10271027" ∷
    codes "close 0" ∷
    codes "close 1" ∷
    codes "intr 1024" ∷
    codes "intr 1" ∷ [])

-- the two clients, and the interrupts that hand over what they play
abbrev pub pair_with : MixRequest → List Event → Script
pair_with request interrupts = record {
  events =
      Mixer request ∷ opens 0 ∷ opens 1 ∷ Write 0 Inline 0 4 ∷ Write 1 Inline 4 4 ∷ Close 0 ∷ Close 1 ∷ interrupts;
  inline_bytes = loud_frame ++ soft_frame;
  device_frames = 1025;
}

abbrev pub master_script : Script
master_script = pair_with (SetMaster 0x3232) (Intr 1024 ∷ Intr 1 ∷ [])

abbrev pub master_lines : List ℕ
master_lines = joined (
    codes "1: ok 12850" ∷ codes "2: ok 0" ∷ codes "3: ok 1" ∷ codes "4: ok 4" ∷ codes "5: ok 4" ∷ codes "6: ok" ∷ codes "7: ok" ∷
    codes "8: ok 1024" ∷ codes "9: ok 1" ∷ [])

-- the same with the louder client alone at half the gain
abbrev pub quiet_pair : Script
quiet_pair = record (pair_with (SetSlot 0 0x3232) (Intr 4 ∷ Intr 1 ∷ [])) { device_frames = 5 }

-- ---- what is asked

-- a slot that isn't there, volumes that are none, and a mute that is neither on nor off
abbrev pub unmixed_text : List ℕ
unmixed_text = joined (
    codes "mixer slot 4 0" ∷
    codes "mixer slot 4" ∷
    codes "mixer mute 4 1" ∷
    codes "mixer slot 0 0x6564" ∷
    codes "mixer slot 3 0x10000" ∷
    codes "mixer master 101" ∷
    codes "mixer mute 0 2" ∷ [])

abbrev pub unmixed_script : Script
unmixed_script = record {
  events =
      Mixer (SetSlot 4 0) ∷ Mixer (GetSlot 4) ∷ Mixer (Mute 4 1) ∷ Mixer (SetSlot 0 0x6564) ∷ Mixer (SetSlot 3 0x10000) ∷
      Mixer (SetMaster 101) ∷ Mixer (Mute 0 2) ∷ [];
  inline_bytes = [];
  device_frames = 0;
}

abbrev pub unmixed_lines : List ℕ
unmixed_lines = joined (
    codes "1: refused inval" ∷ codes "2: refused inval" ∷ codes "3: refused inval" ∷ codes "4: refused inval" ∷
    codes "5: refused inval" ∷ codes "6: refused inval" ∷ codes "7: refused inval" ∷ [])

-- volumes as they begin, a slot that is set and muted, and a master that is turned down
abbrev pub mixer_events : List Event
mixer_events =
    Mixer GetMaster ∷ Mixer (GetSlot 3) ∷ Mixer (SetSlot 0 0x3264) ∷ Mixer (Mute 0 1) ∷ Mixer (GetSlot 0) ∷ Mixer (GetSlot 1) ∷
    Mixer (SetMaster 0) ∷ Mixer GetMaster ∷ []

abbrev pub mixer_lines : List ℕ
mixer_lines = joined (
    codes "1: ok 25700" ∷ codes "2: ok 25700" ∷ codes "3: ok 12900" ∷ codes "4: ok" ∷ codes "5: ok 12900" ∷ codes "6: ok 25700" ∷
    codes "7: ok 0" ∷ codes "8: ok 0" ∷ [])

-- ---- closes

-- a slot that is set by one client, and played on by the next; and one that is muted before it is open
abbrev pub kept_script : Script
kept_script = record {
  events =
      Mixer (Mute 1 1) ∷ opens 0 ∷ Mixer (SetSlot 0 0x3232) ∷ Close 0 ∷ Mixer (GetSlot 0) ∷ opens 0 ∷ opens 1 ∷ Write 0 Inline 0 4 ∷
      Write 1 Inline 0 4 ∷ Close 0 ∷ Close 1 ∷ Intr 4 ∷ Intr 1 ∷ [];
  inline_bytes = stereo_bytes (100 ∷ []);
  device_frames = 5;
}

abbrev pub kept_lines : List ℕ
kept_lines = joined (
    codes "1: ok" ∷ codes "2: ok 0" ∷ codes "3: ok 12850" ∷ codes "4: ok" ∷ codes "5: ok 12850" ∷ codes "6: ok 0" ∷ codes "7: ok 1" ∷
    codes "8: ok 4" ∷ codes "9: ok 4" ∷ codes "10: ok" ∷ codes "11: ok" ∷ codes "12: ok 4" ∷ codes "13: ok 1" ∷ [])

-- ---- positions

-- four frames of 100: the slot is at half the gain from the second on, and all that is mixed from the third on
abbrev pub next_script : Script
next_script = record {
  events =
      opens 0 ∷ Write 0 Inline 0 16 ∷ asks Sync ∷ Intr 1 ∷ Mixer (SetSlot 0 0x3232) ∷ Intr 1 ∷ Mixer (SetMaster 0x3232) ∷
      Intr 2 ∷ Intr 4 ∷ [];
  inline_bytes = stereo_bytes (100 ∷ 100 ∷ 100 ∷ 100 ∷ []);
  device_frames = 8;
}

-- a master that is set after four frames, for which three are mixed, and a slot after one more: it is muted, softer and heard again
abbrev pub late_gain_script : Script
late_gain_script = record {
  events =
      Intr 4 ∷ Mixer (SetMaster 0x3232) ∷ Mixer (SetMaster 0x3232) ∷ Intr 1 ∷ Mixer (Mute 0 1) ∷ Mixer (SetSlot 0 0x3264) ∷
      Mixer (Mute 0 0) ∷ [];
  inline_bytes = [];
  device_frames = 5;
}

-- ---- sides

-- a frame of 100 and 300, with a request
abbrev pub side_script : MixRequest → Script
side_script request = record {
  events = opens 0 ∷ Write 0 Inline 0 4 ∷ Close 0 ∷ Mixer request ∷ Intr 4 ∷ Intr 1 ∷ [];
  inline_bytes = little_endian (100 ∷ 300 ∷ []);
  device_frames = 5;
}

-- ---- mutes

-- four frames, of which the first two are mixed while the slot is muted, and then a shortage
abbrev pub muted_script : Script
muted_script = record {
  events =
      opens 0 ∷ Write 0 Inline 0 16 ∷ Mixer (Mute 0 1) ∷ asks Post ∷ Intr 2 ∷ asks GetOPtr ∷ Mixer (Mute 0 0) ∷ Intr 3 ∷
      asks GetError ∷ Intr 4 ∷ [];
  inline_bytes = drain_bytes;
  device_frames = 9;
}

abbrev pub muted_bytes : List ℕ
muted_bytes = replicate 24 0 ++ little_endian (5 ∷ 6 ∷ 7 ∷ 8 ∷ []) ++ replicate 4 0

abbrev pub muted_lines : List ℕ
muted_lines = joined (
    codes "1: ok 0" ∷ codes "2: ok 16" ∷ codes "3: ok" ∷ codes "4: ok" ∷ codes "5: ok 2" ∷ codes "6: ok bytes=8 blocks=0 ptr=8" ∷
    codes "7: ok" ∷ codes "8: ok 3" ∷ codes "9: ok underruns=1 overruns=0" ∷ codes "10: ok 4" ∷ [])

-- its run, which is that of a slot that is heard
abbrev pub muted_run : Run
muted_run = record {
  settings = usual_settings;
  bytes = drain_bytes;
  start = Some 0;
  drained = false;
  dropped = None;
  pieces = piece 5 4 0 4 ∷ piece 2 2 2 1 ∷ piece 0 0 2 0 ∷ [];
}

-- ---- mapped slots

-- after a slot that plays, a frame of 100 is poked into the mapped slot 1; there is no third slot
abbrev pub mapped_slot_script : Script
mapped_slot_script = record {
  events =
      maps_open ++ Mixer (SetSlot 1 0x3232) ∷ Mixer (SetSlot 2 0x3232) ∷ Poke 0 0 0 4 ∷ Ioctl 0 Post ∷ Intr 1 ∷ Close 0 ∷ Intr 4 ∷ [];
  inline_bytes = stereo_bytes (100 ∷ []);
  device_frames = 5;
}

abbrev pub mapped_slot_lines : List ℕ
mapped_slot_lines = maps_lines ++ joined (
    codes "3: ok 12850" ∷ codes "4: refused inval" ∷ codes "5: ok" ∷ codes "6: ok" ∷ codes "7: ok 1" ∷ codes "8: ok" ∷ codes "9: ok 4" ∷ [])
