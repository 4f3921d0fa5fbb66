-- Scripts with one client that asks its channel, and what is counted of it.
use Rattle.std.specs.Prelude.{ℕ, List, [], ◌∷◌, ◌++◌, codes, replicate, Option, Some, None, Bool, true, false}
use Rattle.pcm_oss.specs.declared.event.Event.{Event}
use Rattle.pcm_oss.specs.declared.event.Event.TheVariants.{Open, Write, Ioctl, Close, Intr}
use Rattle.pcm_wave.specs.declared.pool.Pool.{Pool}
use Rattle.pcm_wave.specs.declared.pool.Source.TheVariants.{Inline}
use Rattle.pcm_oss.specs.declared.event.Way.TheVariants.{Play}
use Rattle.pcm_oss.specs.declared.request.Request.{Request}
use Rattle.pcm_oss.specs.declared.request.Request.TheVariants.{SetFmt, Channels, GetFmts, GetCaps, SetFragment, GetOSpace, GetISpace, GetOPtr, GetIPtr, GetError, SetTrigger, SetPlayVol, Post, Sync, Halt}
use Rattle.pcm_desk.specs.declared.play_book.PlayBook.{PlayBook}
use Rattle.pcm_desk.specs.declared.play_book.PlayState.TheVariants.{Setup, Running}
use Rattle.pcm_desk.specs.declared.device.TheConstants.{OPENING}
use Rattle.pcm_desk.specs.Usual.{usual_settings}
use Rattle.pcm_sound.specs.Gains.{GainSet}
use Rattle.pcm_sound.specs.Runs.{Piece, Run}
use Rattle.pcm_sound.specs.Story.{story_of}
use Rattle.pcm_script.specs.declared.script.Script.{Script}
use Rattle.pcm_rows.specs.Calls.{book_in, cut_in, joined, opens, piece, small_device, times, told_at, usual_book}
use Rattle.pcm_rows.specs.ClientRates.{half_settings, tail_script, wide_settings}
use Rattle.pcm_rows.specs.OneClient.{drain_bytes, two_frame_bytes}

-- a request of the first client
abbrev pub asks : Request → Event
asks request = Ioctl 0 request

-- ---- shortages

-- two frames are posted, of the four that an interrupt wants, and two more come late
abbrev pub posted_text : List ℕ
posted_text = joined (
    codes "open 0 play s16le 2 48000" ∷
    codes "write 0 0100020003000400" ∷
    codes "ioctl 0 post" ∷
    codes "intr 4" ∷
    codes "ioctl 0 geterror" ∷
    codes "ioctl 0 geterror" ∷
    codes "write 0 0500060007000800" ∷
    codes "intr 4" ∷
    codes "intr 4" ∷ [])

abbrev pub posted_script : Script
posted_script = record {
  events = opens 0 ∷ Write 0 Inline 0 8 ∷ asks Post ∷ Intr 4 ∷ asks GetError ∷ asks GetError ∷ Write 0 Inline 8 8 ∷ Intr 4 ∷ Intr 4 ∷ [];
  inline_bytes = drain_bytes;
  device_frames = 12;
}

abbrev pub posted_bytes : List ℕ
posted_bytes = replicate 16 0 ++ 1 ∷ 0 ∷ 2 ∷ 0 ∷ 3 ∷ 0 ∷ 4 ∷ 0 ∷ replicate 8 0 ++ 5 ∷ 0 ∷ 6 ∷ 0 ∷ 7 ∷ 0 ∷ 8 ∷ 0 ∷ replicate 8 0

abbrev pub posted_lines : List ℕ
posted_lines = joined (
    codes "1: ok 0" ∷ codes "2: ok 8" ∷ codes "3: ok" ∷ codes "4: ok 4" ∷
    codes "5: ok underruns=1 overruns=0" ∷ codes "6: ok underruns=0 overruns=0" ∷
    codes "7: ok 8" ∷ codes "8: ok 4" ∷ codes "9: ok 4" ∷ [])

-- two interrupts were short since the count was last answered
abbrev pub posted_book : PlayBook
posted_book = record (usual_book Running 16 4 4) { underruns = 2; last = 6 }

-- frame 2 is mixed at 4, right after the silence of the two that were missing
abbrev pub posted_run : Run
posted_run = record {
  settings = usual_settings;
  bytes = drain_bytes;
  start = Some 0;
  drained = false;
  dropped = None;
  pieces = piece 8 4 0 4 ∷ piece 4 2 2 2 ∷ piece 0 0 2 2 ∷ [];
}

-- ---- drains

-- two frames drain, of the four that an interrupt wants
abbrev pub synced_text : List ℕ
synced_text = joined (
    codes "open 0 play s16le 2 48000" ∷
    codes "write 0 0100020003000400" ∷
    codes "ioctl 0 sync" ∷
    codes "intr 4" ∷
    codes "ioctl 0 geterror" ∷
    codes "ioctl 0 getoptr" ∷
    codes "intr 4" ∷ [])

abbrev pub synced_script : Script
synced_script = record {
  events = opens 0 ∷ Write 0 Inline 0 8 ∷ asks Sync ∷ Intr 4 ∷ asks GetError ∷ asks GetOPtr ∷ Intr 4 ∷ [];
  inline_bytes = two_frame_bytes;
  device_frames = 8;
}

abbrev pub synced_lines : List ℕ
synced_lines = joined (
    codes "1: ok 0" ∷ codes "2: ok 8" ∷ codes "3: ok" ∷ codes "4: ok 4" ∷
    codes "5: ok underruns=0 overruns=0" ∷ codes "6: ok bytes=8 blocks=0 ptr=8" ∷ codes "7: ok 4" ∷ [])

-- its run is over, and eight bytes were played, which is the last position answered
abbrev pub synced_book : PlayBook
synced_book = record (told_at 8 (usual_book Setup 0 0 0)) { done = 8; last = 2 }

-- two frames at half the rate of the device, which last for four
abbrev pub synced_tail_text : List ℕ
synced_tail_text = joined (
    codes "open 0 play s16le 2 24000" ∷
    codes "write 0 0000000064006400" ∷
    codes "ioctl 0 sync" ∷
    codes "intr 4" ∷
    codes "intr 4" ∷ [])

abbrev pub synced_tail_script : Script
synced_tail_script = record {
  events = Open 0 Play half_settings ∷ Write 0 Inline 0 8 ∷ asks Sync ∷ Intr 4 ∷ Intr 4 ∷ [];
  inline_bytes = tail_script.inline_bytes;
  device_frames = 8;
}

abbrev pub synced_tail_lines : List ℕ
synced_tail_lines = joined (
    codes "1: ok 0" ∷ codes "2: ok 8" ∷ codes "3: ok" ∷ codes "4: ok 4" ∷ codes "5: ok 4" ∷ [])

-- four frames, of which two are cut by writes, and whose first starts before the last two come
abbrev pub cut_post_text : List ℕ
cut_post_text = joined (
    codes "open 0 play s16le 2 48000" ∷
    codes "write 0 010002" ∷
    codes "write 0 0003000400" ∷
    codes "ioctl 0 post" ∷
    codes "intr 1" ∷
    codes "write 0 0500060007000800" ∷
    codes "close 0" ∷
    codes "intr 3" ∷
    codes "intr 4" ∷ [])

abbrev pub cut_post_script : Script
cut_post_script = record {
  events = opens 0 ∷ Write 0 Inline 0 3 ∷ Write 0 Inline 3 5 ∷ asks Post ∷ Intr 1 ∷ Write 0 Inline 8 8 ∷ Close 0 ∷ Intr 3 ∷ Intr 4 ∷ [];
  inline_bytes = drain_bytes;
  device_frames = 8;
}

abbrev pub cut_post_lines : List ℕ
cut_post_lines = joined (
    codes "1: ok 0" ∷ codes "2: ok 3" ∷ codes "3: ok 5" ∷ codes "4: ok" ∷ codes "5: ok 1" ∷ codes "6: ok 8" ∷
    codes "7: ok" ∷ codes "8: ok 3" ∷ codes "9: ok 4" ∷ [])

-- ---- settings

-- one frame drains until it has left the device's ring of four, and one of a single byte is written after it
abbrev pub changed_text : List ℕ
changed_text = joined (
    codes "open 0 play s16le 2 48000" ∷
    codes "write 0 01000200" ∷
    codes "ioctl 0 sync" ∷
    codes "intr 4" ∷
    codes "intr 1" ∷
    codes "ioctl 0 setfmt u8" ∷
    codes "ioctl 0 channels 1" ∷
    codes "write 0 81" ∷
    codes "ioctl 0 post" ∷
    codes "intr 4" ∷
    codes "ioctl 0 getoptr" ∷
    codes "intr 4" ∷ [])

abbrev pub changed_script : Script
changed_script = record {
  events =
      opens 0 ∷ Write 0 Inline 0 4 ∷ asks Sync ∷ Intr 4 ∷ Intr 1 ∷ asks (SetFmt 8) ∷ asks (Channels 1) ∷
      Write 0 Inline 4 1 ∷ asks Post ∷ Intr 4 ∷ asks GetOPtr ∷ Intr 4 ∷ [];
  inline_bytes = 1 ∷ 0 ∷ 2 ∷ 0 ∷ 0x81 ∷ [];
  device_frames = 13;
}

-- one step of 8 bits is 256 of 16, on both sides
abbrev pub changed_bytes : List ℕ
changed_bytes = replicate 16 0 ++ 1 ∷ 0 ∷ 2 ∷ 0 ∷ replicate 16 0 ++ 0 ∷ 1 ∷ 0 ∷ 1 ∷ replicate 12 0

abbrev pub changed_lines : List ℕ
changed_lines = joined (
    codes "1: ok 0" ∷ codes "2: ok 4" ∷ codes "3: ok" ∷ codes "4: ok 4" ∷ codes "5: ok 1" ∷ codes "6: ok 8" ∷ codes "7: ok 1" ∷
    codes "8: ok 1" ∷ codes "9: ok" ∷ codes "10: ok 4" ∷ codes "11: ok bytes=5 blocks=0 ptr=5" ∷ codes "12: ok 4" ∷ [])

-- a volume, the trigger off and other fragments, a close, and the next opening of the slot
abbrev pub anew_events : List Event
anew_events =
    opens 0 ∷ Intr 2 ∷ asks (SetPlayVol 0x3264) ∷ asks (SetTrigger 0) ∷ asks (SetFragment 0x00020004) ∷ Intr 1 ∷ Close 0 ∷
    opens 0 ∷ []

-- the gains of both openings, whatever bytes there are
abbrev pub anew_gains : Pool → List GainSet
anew_gains pool = (story_of small_device pool anew_events).gains 0

-- ---- refusals

-- settings that are refused while the channel runs, and two requests that are answered
abbrev pub refused_text : List ℕ
refused_text = joined (
    codes "open 0 play s16le 2 48000" ∷
    codes "write 0 01000200030004000500060007000800" ∷
    codes "ioctl 0 post" ∷
    codes "ioctl 0 setfmt s8" ∷
    codes "ioctl 0 channels 3" ∷
    codes "ioctl 0 getospace" ∷
    codes "ioctl 0 setfmt 0" ∷ [])

abbrev pub refused_script : Script
refused_script = record {
  events = opens 0 ∷ Write 0 Inline 0 16 ∷ asks Post ∷ asks (SetFmt 0x40) ∷ asks (Channels 3) ∷ asks GetOSpace ∷ asks (SetFmt 0) ∷ [];
  inline_bytes = drain_bytes;
  device_frames = 0;
}

abbrev pub refused_lines : List ℕ
refused_lines = joined (
    codes "1: ok 0" ∷ codes "2: ok 16" ∷ codes "3: ok" ∷ codes "4: refused busy" ∷ codes "5: refused inval" ∷
    codes "6: ok fragments=3 fragstotal=4 fragsize=4096 bytes=16368" ∷ codes "7: ok 16" ∷ [])

-- what belongs to recordings, and what every client may ask
abbrev pub wrong_way_text : List ℕ
wrong_way_text = joined (
    codes "open 0 play" ∷
    codes "ioctl 0 getispace" ∷
    codes "ioctl 0 getiptr" ∷
    codes "ioctl 0 settrigger 4" ∷
    codes "ioctl 0 getfmts" ∷
    codes "ioctl 0 getcaps" ∷ [])

abbrev pub wrong_way_script : Script
wrong_way_script = record {
  events = Open 0 Play OPENING ∷ asks GetISpace ∷ asks GetIPtr ∷ asks (SetTrigger 4) ∷ asks GetFmts ∷ asks GetCaps ∷ [];
  inline_bytes = [];
  device_frames = 0;
}

abbrev pub wrong_way_lines : List ℕ
wrong_way_lines = joined (
    codes "1: ok 0" ∷ codes "2: refused inval" ∷ codes "3: refused inval" ∷ codes "4: refused inval" ∷
    codes "5: ok 1044984" ∷ codes "6: ok 4608" ∷ [])

-- a write and a trigger after a sync
abbrev pub busy_text : List ℕ
busy_text = joined (
    codes "open 0 play s16le 2 48000" ∷
    codes "write 0 01000200030004000500060007000800" ∷
    codes "ioctl 0 sync" ∷
    codes "write 0 01000200" ∷
    codes "ioctl 0 settrigger 2" ∷ [])

abbrev pub busy_script : Script
busy_script = record {
  events = opens 0 ∷ Write 0 Inline 0 16 ∷ asks Sync ∷ Write 0 Inline 16 4 ∷ asks (SetTrigger 2) ∷ [];
  inline_bytes = drain_bytes ++ 1 ∷ 0 ∷ 2 ∷ 0 ∷ [];
  device_frames = 0;
}

abbrev pub busy_lines : List ℕ
busy_lines = joined (
    codes "1: ok 0" ∷ codes "2: ok 16" ∷ codes "3: ok" ∷ codes "4: refused busy" ∷ codes "5: refused busy" ∷ [])

-- ---- fragments

-- as many of the least fragments as fit, and then as few of the greatest as there may be
abbrev pub both_ends_text : List ℕ
both_ends_text = joined (
    codes "open 0 play" ∷
    codes "ioctl 0 setfragment 0" ∷
    codes "ioctl 0 getospace" ∷
    codes "ioctl 0 setfragment 0x7fff0010" ∷
    codes "ioctl 0 getospace" ∷ [])

abbrev pub both_ends_script : Script
both_ends_script = record {
  events = Open 0 Play OPENING ∷ asks (SetFragment 0) ∷ asks GetOSpace ∷ asks (SetFragment 0x7fff0010) ∷ asks GetOSpace ∷ [];
  inline_bytes = [];
  device_frames = 0;
}

abbrev pub both_ends_lines : List ℕ
both_ends_lines = joined (
    codes "1: ok 0" ∷ codes "2: ok 536870916" ∷
    codes "3: ok fragments=8192 fragstotal=8192 fragsize=16 bytes=131072" ∷
    codes "4: ok 131088" ∷
    codes "5: ok fragments=2 fragstotal=2 fragsize=65536 bytes=131072" ∷ [])

-- two fragments of 16 bytes, which one write fills
abbrev pub small_ring_text : List ℕ
small_ring_text = joined (
    codes "open 0 play s16le 2 48000" ∷
    codes "ioctl 0 setfragment 0x00020004" ∷
    (codes "write 0 " ++ times 8 (codes "01000200")) ∷
    codes "write 0 00" ∷
    codes "write 0 -" ∷ [])

abbrev pub small_ring_script : Script
small_ring_script = record {
  events = opens 0 ∷ asks (SetFragment 0x00020004) ∷ Write 0 Inline 0 32 ∷ Write 0 Inline 32 1 ∷ Write 0 Inline 33 0 ∷ [];
  inline_bytes = times 8 (1 ∷ 0 ∷ 2 ∷ 0 ∷ []) ++ 0 ∷ [];
  device_frames = 0;
}

abbrev pub small_ring_lines : List ℕ
small_ring_lines = joined (
    codes "1: ok 0" ∷ codes "2: ok 131076" ∷ codes "3: ok 32" ∷ codes "4: refused again" ∷ codes "5: ok 0" ∷ [])

-- its book, which runs
abbrev pub small_ring_book : PlayBook
small_ring_book = cut_in 4 2 (usual_book Running 32 0 0)

-- the same fragments with frames of 32 bytes: half a frame fills one
abbrev pub half_frame_events : List Event
half_frame_events = Open 0 Play wide_settings ∷ asks (SetFragment 0x00020004) ∷ Write 0 Inline 0 16 ∷ Intr 1 ∷ []

-- its book while it runs, which has no whole frame yet
abbrev pub half_frame_book : ℕ → PlayBook
half_frame_book underruns =
    record (cut_in 4 2 (book_in wide_settings Running 16 0 0)) { underruns = underruns }

-- the same with the trigger off, and then on, and a write of no bytes
abbrev pub no_bytes_events : List Event
no_bytes_events =
    Open 0 Play wide_settings ∷ asks (SetFragment 0x00020004) ∷ asks (SetTrigger 0) ∷ Write 0 Inline 0 16 ∷ asks (SetTrigger 2) ∷ Write 0 Inline 16 0 ∷ []

-- ---- halts

-- a posted stream at half the rate is short and halted, and one of a frame drains after it
abbrev pub halted_text : List ℕ
halted_text = joined (
    codes "open 0 play s16le 2 24000" ∷
    codes "write 0 0000000064006400" ∷
    codes "ioctl 0 post" ∷
    codes "intr 4" ∷
    codes "ioctl 0 getoptr" ∷
    codes "ioctl 0 halt" ∷
    codes "ioctl 0 getoptr" ∷
    codes "write 0 64006400" ∷
    codes "ioctl 0 sync" ∷
    codes "intr 4" ∷
    codes "ioctl 0 geterror" ∷
    codes "intr 4" ∷ [])

abbrev pub halted_script : Script
halted_script = record {
  events =
      Open 0 Play half_settings ∷ Write 0 Inline 0 8 ∷ asks Post ∷ Intr 4 ∷ asks GetOPtr ∷ asks Halt ∷ asks GetOPtr ∷
      Write 0 Inline 8 4 ∷ asks Sync ∷ Intr 4 ∷ asks GetError ∷ Intr 4 ∷ [];
  inline_bytes = 0 ∷ 0 ∷ 0 ∷ 0 ∷ 100 ∷ 0 ∷ 100 ∷ 0 ∷ 100 ∷ 0 ∷ 100 ∷ 0 ∷ [];
  device_frames = 12;
}

-- two frames are sure of the first stream: 0 and 50. The second has 100 and 50
abbrev pub halted_bytes : List ℕ
halted_bytes =
    replicate 20 0 ++ 50 ∷ 0 ∷ 50 ∷ 0 ∷ replicate 8 0 ++ 100 ∷ 0 ∷ 100 ∷ 0 ∷ 50 ∷ 0 ∷ 50 ∷ 0 ∷ replicate 8 0

abbrev pub halted_lines : List ℕ
halted_lines = joined (
    codes "1: ok 0" ∷ codes "2: ok 8" ∷ codes "3: ok" ∷ codes "4: ok 4" ∷
    codes "5: ok bytes=8 blocks=0 ptr=8" ∷ codes "6: ok" ∷ codes "7: ok bytes=0 blocks=0 ptr=0" ∷
    codes "8: ok 4" ∷ codes "9: ok" ∷ codes "10: ok 4" ∷ codes "11: ok underruns=1 overruns=0" ∷ codes "12: ok 4" ∷ [])

-- its book after the halt, and at the end
abbrev pub halted_book : PlayBook
halted_book = record (book_in half_settings Setup 0 0 0) { underruns = 1; last = 2 }

abbrev pub halted_over_book : PlayBook
halted_over_book = record (book_in half_settings Setup 0 0 0) { done = 4; last = 6 }

-- the stream that was halted: it started, and isn't drained
abbrev pub dropped_run : Run
dropped_run = record {
  settings = half_settings;
  bytes = tail_script.inline_bytes;
  start = Some 0;
  drained = false;
  dropped = Some 4;
  pieces = piece 0 0 2 2 ∷ [];
}

-- the stream after it, which begins with its own first frame
abbrev pub second_run : Run
second_run = record {
  settings = half_settings;
  bytes = 100 ∷ 0 ∷ 100 ∷ 0 ∷ [];
  start = Some 4;
  drained = true;
  dropped = None;
  pieces = piece 8 2 0 0 ∷ piece 4 0 2 0 ∷ [];
}

-- ---- what a run is marked with

-- the runs of a client that writes two frames, and then these events
abbrev pub runs_of_two : List Event → List Run
runs_of_two events =
    (story_of small_device (record { files = []; capture = None; inline_bytes = two_frame_bytes }) (opens 0 ∷ Write 0 Inline 0 8 ∷ events)).runs 0

-- a run of these frames: where it started, whether no more came, where it was dropped, and its pieces
abbrev pub run_of_two : Option ℕ → Bool → Option ℕ → List Piece → Run
run_of_two start drained dropped pieces = record {
  settings = usual_settings;
  bytes = two_frame_bytes;
  start = start;
  drained = drained;
  dropped = dropped;
  pieces = pieces;
}

-- the run of `synced_script`, of which the second interrupt got nothing more
abbrev pub synced_run : Run
synced_run = run_of_two (Some 0) true None (piece 4 2 0 0 ∷ piece 0 0 2 0 ∷ [])

-- a run that started with the mix and gave `count` frames at once: whether no more came, and where it was dropped
abbrev pub run_begun : ℕ → Bool → Option ℕ → Run
run_begun count drained dropped = run_of_two (Some 0) drained dropped (piece 0 0 count 0 ∷ [])

-- ---- volumes

-- four frames of 100 and -3, and a volume of 100 and 50 after the first two
abbrev pub softer_text : List ℕ
softer_text = joined (
    codes "open 0 play s16le 2 48000" ∷
    (codes "write 0 " ++ times 4 (codes "6400fdff")) ∷
    codes "ioctl 0 post" ∷
    codes "intr 2" ∷
    codes "ioctl 0 setplayvol 0x3264" ∷
    codes "intr 2" ∷
    codes "intr 4" ∷ [])

abbrev pub softer_script : Script
softer_script = record {
  events = opens 0 ∷ Write 0 Inline 0 16 ∷ asks Post ∷ Intr 2 ∷ asks (SetPlayVol 0x3264) ∷ Intr 2 ∷ Intr 4 ∷ [];
  inline_bytes = times 4 (0x64 ∷ 0x00 ∷ 0xfd ∷ 0xff ∷ []);
  device_frames = 8;
}

-- half of -3 is -2, rounded down
abbrev pub softer_bytes : List ℕ
softer_bytes = replicate 16 0 ++ times 2 (0x64 ∷ 0x00 ∷ 0xfd ∷ 0xff ∷ []) ++ times 2 (0x64 ∷ 0x00 ∷ 0xfe ∷ 0xff ∷ [])

abbrev pub softer_lines : List ℕ
softer_lines = joined (
    codes "1: ok 0" ∷ codes "2: ok 16" ∷ codes "3: ok" ∷ codes "4: ok 2" ∷ codes "5: ok 12900" ∷ codes "6: ok 2" ∷ codes "7: ok 4" ∷ [])
