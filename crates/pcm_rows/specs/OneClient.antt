-- Scripts with one client at most.
use Rattle.std.specs.Prelude.{ℕ, List, [], ◌∷◌, ◌++◌, codes, replicate, Some, None, true}
use Rattle.pcm_oss.specs.declared.event.Event.TheVariants.{Write, Close, Intr}
use Rattle.pcm_wave.specs.declared.pool.Source.TheVariants.{Inline}
use Rattle.pcm_desk.specs.declared.play_book.PlayBook.{PlayBook}
use Rattle.pcm_desk.specs.declared.play_book.PlayState.TheVariants.{Free}
use Rattle.pcm_desk.specs.Usual.{usual_settings}
use Rattle.pcm_sound.specs.Runs.{Run}
use Rattle.pcm_script.specs.declared.script.Script.{Script}
use Rattle.pcm_rows.specs.Calls.{joined, little_endian, opens, piece, usual_book}

abbrev pub silent_script : Script
silent_script = record { events = Intr 1024 ∷ []; inline_bytes = []; device_frames = 1024 }

-- four frames: less than a fragment
abbrev pub drain_text : List ℕ
drain_text = joined (
    codes "open 0 play s16le 2 48000" ∷
    codes "write 0 01000200030004000500060007000800" ∷
    codes "close 0" ∷
    codes "intr 1024" ∷
    codes "intr 4" ∷ [])

abbrev pub drain_bytes : List ℕ
drain_bytes = little_endian (1 ∷ 2 ∷ 3 ∷ 4 ∷ 5 ∷ 6 ∷ 7 ∷ 8 ∷ [])

-- the four frames after the silence of a ring of four
abbrev pub four_frames_heard : List ℕ
four_frames_heard = replicate 16 0 ++ drain_bytes

abbrev pub drain_script : Script
drain_script = record {
  events = opens 0 ∷ Write 0 Inline 0 16 ∷ Close 0 ∷ Intr 1024 ∷ Intr 4 ∷ [];
  inline_bytes = drain_bytes;
  device_frames = 1028;
}

abbrev pub drain_lines : List ℕ
drain_lines = joined (codes "1: ok 0" ∷ codes "2: ok 16" ∷ codes "3: ok" ∷ codes "4: ok 1024" ∷ codes "5: ok 4" ∷ [])

-- the same bytes in three writes, which cut frames
abbrev pub cut_text : List ℕ
cut_text = joined (
    codes "open 0 play s16le 2 48000" ∷
    codes "write 0 010002" ∷
    codes "write 0 0003000400" ∷
    codes "write 0 0500060007000800" ∷
    codes "close 0" ∷
    codes "intr 1024" ∷
    codes "intr 4" ∷ [])

abbrev pub cut_script : Script
cut_script = record {
  events = opens 0 ∷ Write 0 Inline 0 3 ∷ Write 0 Inline 3 5 ∷ Write 0 Inline 8 8 ∷ Close 0 ∷ Intr 1024 ∷ Intr 4 ∷ [];
  inline_bytes = drain_bytes;
  device_frames = 1028;
}

abbrev pub cut_lines : List ℕ
cut_lines = joined (
    codes "1: ok 0" ∷ codes "2: ok 3" ∷ codes "3: ok 5" ∷ codes "4: ok 8" ∷ codes "5: ok" ∷ codes "6: ok 1024" ∷ codes "7: ok 4" ∷ [])

abbrev pub stray_close_script : Script
stray_close_script = record { events = Close 5 ∷ []; inline_bytes = []; device_frames = 0 }

-- two frames
abbrev pub two_frame_bytes : List ℕ
two_frame_bytes = little_endian (1 ∷ 2 ∷ 3 ∷ 4 ∷ [])

-- the two frames between the silence of a ring of four and that of two frames
abbrev pub two_frames_heard : List ℕ
two_frames_heard = replicate 16 0 ++ two_frame_bytes ++ replicate 8 0

-- two frames, where the first interrupt wants four
abbrev pub short_drain_text : List ℕ
short_drain_text = joined (
    codes "open 0 play s16le 2 48000" ∷
    codes "write 0 0100020003000400" ∷
    codes "close 0" ∷
    codes "intr 4" ∷
    codes "intr" ∷
    codes "intr" ∷ [])

abbrev pub short_drain_script : Script
short_drain_script = record {
  events = opens 0 ∷ Write 0 Inline 0 8 ∷ Close 0 ∷ Intr 4 ∷ Intr 2 ∷ Intr 2 ∷ [];
  inline_bytes = two_frame_bytes;
  device_frames = 8;
}

abbrev pub short_drain_lines : List ℕ
short_drain_lines = joined (
    codes "1: ok 0" ∷ codes "2: ok 8" ∷ codes "3: ok" ∷ codes "4: ok 4" ∷ codes "5: ok 2" ∷ codes "6: ok 2" ∷ [])

-- its run, which started at the close and is drained: the second interrupt got nothing more, and then it was over
abbrev pub short_drain_run : Run
short_drain_run = record {
  settings = usual_settings;
  bytes = short_drain_script.inline_bytes;
  start = Some 0;
  drained = true;
  dropped = None;
  pieces = piece 4 2 0 0 ∷ piece 0 0 2 0 ∷ [];
}

-- a slot whose run is over, of which two frames were played
abbrev pub over_book : PlayBook
over_book = record (usual_book Free 0 0 0) { done = 8; last = 2 }

-- three bytes of a frame of four
abbrev pub part_text : List ℕ
part_text = joined (
    codes "open 0 play s16le 2 48000" ∷
    codes "write 0 010002" ∷
    codes "close 0" ∷
    codes "open 1 play s16le 2 48000" ∷
    codes "intr 4" ∷
    codes "intr 1" ∷ [])

abbrev pub part_script : Script
part_script = record {
  events = opens 0 ∷ Write 0 Inline 0 3 ∷ Close 0 ∷ opens 1 ∷ Intr 4 ∷ Intr 1 ∷ [];
  inline_bytes = 1 ∷ 0 ∷ 2 ∷ [];
  device_frames = 5;
}

abbrev pub part_lines : List ℕ
part_lines = joined (
    codes "1: ok 0" ∷ codes "2: ok 3" ∷ codes "3: ok" ∷ codes "4: ok 0" ∷ codes "5: ok 4" ∷ codes "6: ok 1" ∷ [])

-- three frames are mixed before a write and its close, and the slot is opened again after eight, when its frame has left the ring
abbrev pub late_script : Script
late_script = record {
  events = opens 0 ∷ Intr 3 ∷ Write 0 Inline 0 4 ∷ Close 0 ∷ Intr 5 ∷ opens 0 ∷ [];
  inline_bytes = 1 ∷ 0 ∷ 2 ∷ 0 ∷ [];
  device_frames = 8;
}

abbrev pub late_run : Run
late_run = record {
  settings = usual_settings;
  bytes = late_script.inline_bytes;
  start = Some 3;
  drained = true;
  dropped = None;
  pieces = piece 3 0 1 0 ∷ [];
}
