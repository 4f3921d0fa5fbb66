-- Writes of whole fragments to the usual device, and what is counted of them.
use Rattle.std.specs.Prelude.{ℕ, List, [], ◌∷◌, ◌++◌, codes, replicate, Some, None, false}
use Rattle.pcm_oss.specs.declared.event.Event.TheVariants.{Write, Intr}
use Rattle.pcm_wave.specs.declared.pool.Source.TheVariants.{Inline}
use Rattle.pcm_desk.specs.declared.play_book.PlayBook.{PlayBook}
use Rattle.pcm_desk.specs.declared.play_book.PlayState.TheVariants.{Running}
use Rattle.pcm_desk.specs.Usual.{usual_settings}
use Rattle.pcm_sound.specs.Runs.{Piece, Run}
use Rattle.pcm_script.specs.declared.script.Script.{Script}
use Rattle.pcm_rows.specs.Calls.{joined, opens, piece, ring_of_silence, times, usual_book}

-- a fragment, which is 1024 frames
abbrev pub full_fragment : List ℕ
full_fragment = times 1024 (1 ∷ 0 ∷ 2 ∷ 0 ∷ [])

-- the frame that comes after it
abbrev pub late_frame : List ℕ
late_frame = 5 ∷ 0 ∷ 6 ∷ 0 ∷ []

-- the fragment plays and the stream starves; a frame comes late, and it starves again
abbrev pub starved_text : List ℕ
starved_text = joined (
    codes "open 0 play s16le 2 48000" ∷
    (codes "write 0 " ++ times 1024 (codes "01000200")) ∷
    codes "intr 1024" ∷
    codes "intr 4" ∷
    codes "write 0 05000600" ∷
    codes "intr 4" ∷
    codes "intr 1016" ∷
    codes "intr 8" ∷ [])

abbrev pub starved_script : Script
starved_script = record {
  events = opens 0 ∷ Write 0 Inline 0 4096 ∷ Intr 1024 ∷ Intr 4 ∷ Write 0 Inline 4096 4 ∷ Intr 4 ∷ Intr 1016 ∷ Intr 8 ∷ [];
  inline_bytes = full_fragment ++ late_frame;
  device_frames = 2056;
}

abbrev pub starved_bytes : List ℕ
starved_bytes = ring_of_silence ++ full_fragment ++ replicate 16 0 ++ late_frame ++ replicate 12 0

abbrev pub starved_lines : List ℕ
starved_lines = joined (
    codes "1: ok 0" ∷ codes "2: ok 4096" ∷ codes "3: ok 1024" ∷ codes "4: ok 4" ∷ codes "5: ok 4" ∷
    codes "6: ok 4" ∷ codes "7: ok 1016" ∷ codes "8: ok 8" ∷ [])

-- four interrupts were short
abbrev pub starved_book : PlayBook
starved_book = record (usual_book Running 4100 1025 1025) { underruns = 4; last = 1029 }

-- what the interrupts took of the stream, the newest first: frame 1024 is mixed at 1028
abbrev pub starved_pieces : List Piece
starved_pieces = piece 2048 1025 0 8 ∷ piece 1032 1025 0 1016 ∷ piece 1028 1024 1 3 ∷ piece 1024 1024 0 4 ∷ piece 0 0 1024 0 ∷ []

-- the one run: its first write started it, and it is neither drained nor dropped
abbrev pub starved_run : Run
starved_run = record {
  settings = usual_settings;
  bytes = starved_script.inline_bytes;
  start = Some 0;
  drained = false;
  dropped = None;
  pieces = starved_pieces;
}

-- five fragments, of which the ring holds four
abbrev pub full_ring_text : List ℕ
full_ring_text = codes "open 0 play s16le 2 48000\n" ++ times 5 (codes "write 0 " ++ replicate 8192 48 ++ 10 ∷ [])

abbrev pub full_ring_script : Script
full_ring_script = record {
  events = opens 0 ∷ Write 0 Inline 0 4096 ∷ Write 0 Inline 4096 4096 ∷ Write 0 Inline 8192 4096 ∷ Write 0 Inline 12288 4096 ∷ Write 0 Inline 16384 4096 ∷ [];
  inline_bytes = replicate 20480 0;
  device_frames = 0;
}

abbrev pub full_ring_lines : List ℕ
full_ring_lines = joined (
    codes "1: ok 0" ∷ codes "2: ok 4096" ∷ codes "3: ok 4096" ∷ codes "4: ok 4096" ∷ codes "5: ok 4096" ∷
    codes "6: refused again" ∷ [])
