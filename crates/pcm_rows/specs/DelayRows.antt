-- Runs that the device's ring still holds, and what their clients are answered.
use Rattle.std.specs.Prelude.{ℕ, List, [], ◌∷◌, ◌++◌, codes, Some, None, true, false}
use Rattle.pcm_oss.specs.declared.event.Event.{Event}
use Rattle.pcm_oss.specs.declared.event.Event.TheVariants.{Write, Intr}
use Rattle.pcm_oss.specs.declared.request.Request.TheVariants.{GetODelay, Post, Sync}
use Rattle.pcm_wave.specs.declared.pool.Source.TheVariants.{Inline}
use Rattle.pcm_desk.specs.declared.play_book.PlayBook.{PlayBook}
use Rattle.pcm_desk.specs.declared.play_book.PlayState.TheVariants.{Draining}
use Rattle.pcm_desk.specs.Usual.{usual_settings}
use Rattle.pcm_sound.specs.Runs.{Run}
use Rattle.pcm_script.specs.declared.script.Script.{Script}
use Rattle.pcm_rows.specs.Calls.{joined, last_at, opens, piece, usual_book}
use Rattle.pcm_rows.specs.OneClient.{drain_bytes}
use Rattle.pcm_rows.specs.Requests.{asks}

-- ---- delays

-- four frames, of which a client asks at each step how far they are from being heard
abbrev pub delay_text : List ℕ
delay_text = joined (
    codes "open 0 play s16le 2 48000" ∷
    codes "write 0 01000200030004000500060007000800" ∷
    codes "ioctl 0 getodelay" ∷
    codes "ioctl 0 post" ∷
    codes "ioctl 0 getodelay" ∷
    codes "intr 2" ∷
    codes "ioctl 0 getodelay" ∷
    codes "ioctl 0 sync" ∷
    codes "ioctl 0 getodelay" ∷
    codes "intr 2" ∷
    codes "ioctl 0 getodelay" ∷
    codes "intr 1000" ∷
    codes "ioctl 0 getodelay" ∷
    codes "intr 24" ∷
    codes "ioctl 0 getodelay" ∷ [])

abbrev pub delay_script : Script
delay_script = record {
  events =
      opens 0 ∷ Write 0 Inline 0 16 ∷ asks GetODelay ∷ asks Post ∷ asks GetODelay ∷ Intr 2 ∷ asks GetODelay ∷
      asks Sync ∷ asks GetODelay ∷ Intr 2 ∷ asks GetODelay ∷ Intr 1000 ∷ asks GetODelay ∷ Intr 24 ∷ asks GetODelay ∷ [];
  inline_bytes = drain_bytes;
  device_frames = 1028;
}

-- Four frames wait, and then a ring of 1024 is before them. The last of all mixed frames comes after the 1024; once 24 are left of them,
-- it is one of these.
abbrev pub delay_lines : List ℕ
delay_lines = joined (
    codes "1: ok 0" ∷ codes "2: ok 16" ∷ codes "3: ok 16" ∷ codes "4: ok" ∷ codes "5: ok 4112" ∷
    codes "6: ok 2" ∷ codes "7: ok 4104" ∷ codes "8: ok" ∷ codes "9: ok 4104" ∷ codes "10: ok 2" ∷
    codes "11: ok 4096" ∷ codes "12: ok 1000" ∷ codes "13: ok 96" ∷ codes "14: ok 24" ∷ codes "15: ok 0" ∷ [])

-- two frames of a client at twice the rate of the mix
abbrev pub twice_delayed : List Event
twice_delayed = opens 0 ∷ Write 0 Inline 0 8 ∷ asks Post ∷ asks GetODelay ∷ []

-- two frames of the mix, at its rate, are still to leave the ring
abbrev pub twice_lines : List ℕ
twice_lines = joined (codes "1: ok 0" ∷ codes "2: ok 8" ∷ codes "3: ok" ∷ codes "4: ok 24" ∷ [])

-- ---- ends

-- four frames that were handed over before a sync
abbrev pub handed_text : List ℕ
handed_text = joined (
    codes "open 0 play s16le 2 48000" ∷
    codes "write 0 01000200030004000500060007000800" ∷
    codes "ioctl 0 post" ∷
    codes "intr 4" ∷
    codes "intr 1024" ∷
    codes "ioctl 0 sync" ∷
    codes "write 0 01000200" ∷ [])

abbrev pub handed_script : Script
handed_script = record {
  events = opens 0 ∷ Write 0 Inline 0 16 ∷ asks Post ∷ Intr 4 ∷ Intr 1024 ∷ asks Sync ∷ Write 0 Inline 16 4 ∷ [];
  inline_bytes = drain_bytes ++ 1 ∷ 0 ∷ 2 ∷ 0 ∷ [];
  device_frames = 1028;
}

abbrev pub handed_lines : List ℕ
handed_lines = joined (
    codes "1: ok 0" ∷ codes "2: ok 16" ∷ codes "3: ok" ∷ codes "4: ok 4" ∷ codes "5: ok 1024" ∷ codes "6: ok" ∷ codes "7: ok 4" ∷ [])

-- four frames that drain into a ring of four, and interrupts of one frame after them
abbrev pub held_script : Script
held_script = record {
  events = opens 0 ∷ Write 0 Inline 0 16 ∷ asks Sync ∷ Intr 4 ∷ Intr 1 ∷ Intr 1 ∷ Intr 1 ∷ Intr 1 ∷ [];
  inline_bytes = drain_bytes;
  device_frames = 8;
}

-- its book and its run while the ring still holds two of them
abbrev pub held_book : PlayBook
held_book = last_at 4 (usual_book (Draining false) 16 4 4)

abbrev pub held_run : Run
held_run = record {
  settings = usual_settings;
  bytes = drain_bytes;
  start = Some 0;
  drained = true;
  dropped = None;
  pieces = piece 5 4 0 0 ∷ piece 4 4 0 0 ∷ piece 0 0 4 0 ∷ [];
}
