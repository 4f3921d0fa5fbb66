-- Scripts with a mapped channel, and what is asked of one.
use Rattle.std.specs.Prelude.{ℕ, List, [], ◌∷◌, ◌++◌, codes, replicate, true, false, Some, Ok, Err, Result, map}
use Rattle.pcm_format.specs.declared.format.Format.TheVariants.{U8}
use Rattle.pcm_format.specs.Formats.{code_of}
use Rattle.pcm_oss.specs.declared.event.Event.{Event}
use Rattle.pcm_oss.specs.declared.event.Event.TheVariants.{Open, Poke, Ioctl, Close, Intr}
use Rattle.pcm_oss.specs.declared.event.Way.TheVariants.{Map}
use Rattle.pcm_oss.specs.declared.reply.Answer.{Answer}
use Rattle.pcm_oss.specs.declared.reply.Answer.TheVariants.{Done, Errors, Number, Pointer}
use Rattle.pcm_oss.specs.declared.reply.Errno.{Errno}
use Rattle.pcm_oss.specs.declared.reply.Errno.TheVariants.{Busy, Inval}
use Rattle.pcm_oss.specs.declared.request.Request.{Request}
use Rattle.pcm_oss.specs.declared.request.Request.TheVariants.{GetError, GetIPtr, GetISpace, GetODelay, GetOPtr, GetOSpace, GetTrigger, Halt, Post, SetFmt, SetFragment, SetTrigger, Speed, Sync}
use Rattle.pcm_desk.specs.declared.map_book.MapBook.{MapBook}
use Rattle.pcm_desk.specs.declared.run_state.RunState.{RunState}
use Rattle.pcm_desk.specs.declared.run_state.RunState.TheVariants.{Running}
use Rattle.pcm_desk.specs.Device.{DeviceSeen}
use Rattle.pcm_desk.specs.MapRequests.{map_ask}
use Rattle.pcm_desk.specs.Usual.{usual_device, usual_settings}
use Rattle.pcm_script.specs.declared.script.Script.{Script}
use Rattle.pcm_sound.specs.Runs.{Run}
use Rattle.pcm_rows.specs.Calls.{joined, piece, small_device, stereo_bytes}

-- one channel that plays, and one with a mapped area
abbrev pub mapped_device : DeviceSeen
mapped_device = record usual_device { play_slots = 1; map_slots = 1 }

-- the same on a ring of four frames
abbrev pub small_mapped : DeviceSeen
small_mapped = record small_device { play_slots = 1; map_slots = 1 }

-- an opening with an area of two fragments of 16 bytes, which are eight frames
abbrev pub maps_at : ℕ → List Event
maps_at fd = Open fd Map usual_settings ∷ Ioctl fd (SetFragment 131076) ∷ []

abbrev pub maps_open : List Event
maps_open = maps_at 0

abbrev pub maps_lines : List ℕ
maps_lines = joined (codes "1: ok 1" ∷ codes "2: ok 131076" ∷ [])

abbrev pub maps_text : List ℕ
maps_text = joined (codes "open 0 map s16le 2 48000" ∷ codes "ioctl 0 setfragment 0x00020004" ∷ [])

-- two frames are poked, and the second again before it is taken
abbrev pub poked_text : List ℕ
poked_text = maps_text ++ joined (
    codes "poke 0 0 0100010002000200" ∷
    codes "ioctl 0 settrigger 2" ∷
    codes "intr 1" ∷
    codes "poke 0 4 09000900" ∷
    codes "ioctl 0 getoptr" ∷
    codes "intr 2" ∷
    codes "intr 1021" ∷
    codes "intr 3" ∷ [])

abbrev pub poked_script : Script
poked_script = record {
  events = maps_open ++ Poke 0 0 0 8 ∷ Ioctl 0 (SetTrigger 2) ∷ Intr 1 ∷ Poke 0 4 8 4 ∷ Ioctl 0 GetOPtr ∷ Intr 2 ∷ Intr 1021 ∷ Intr 3 ∷ [];
  inline_bytes = stereo_bytes (1 ∷ 2 ∷ 9 ∷ []);
  device_frames = 1027;
}

abbrev pub poked_lines : List ℕ
poked_lines = maps_lines ++ joined (
    codes "3: ok" ∷
    codes "4: ok" ∷
    codes "5: ok 1" ∷
    codes "6: ok" ∷
    codes "7: ok bytes=4 blocks=0 ptr=4" ∷
    codes "8: ok 2" ∷
    codes "9: ok 1021" ∷
    codes "10: ok 3" ∷ [])

-- the last frame of an area is poked, once it is said to be past the end
abbrev pub round_text : List ℕ
round_text = maps_text ++ joined (
    codes "poke 0 29 07000700" ∷
    codes "poke 0 28 07000700" ∷
    codes "ioctl 0 settrigger 2" ∷
    codes "intr 1024" ∷
    codes "intr 17" ∷
    codes "ioctl 0 getoptr" ∷ [])

abbrev pub round_script : Script
round_script = record {
  events = maps_open ++ Poke 0 29 0 4 ∷ Poke 0 28 4 4 ∷ Ioctl 0 (SetTrigger 2) ∷ Intr 1024 ∷ Intr 17 ∷ Ioctl 0 GetOPtr ∷ [];
  inline_bytes = stereo_bytes (7 ∷ 7 ∷ []);
  device_frames = 1041;
}

abbrev pub round_lines : List ℕ
round_lines = maps_lines ++ joined (
    codes "3: refused inval" ∷
    codes "4: ok" ∷
    codes "5: ok" ∷
    codes "6: ok 1024" ∷
    codes "7: ok 17" ∷
    codes "8: ok bytes=4164 blocks=260 ptr=4" ∷ [])

-- the last of eight frames, twice, and the first one after it
abbrev pub round_bytes : List ℕ
round_bytes = stereo_bytes (0 ∷ 0 ∷ 0 ∷ 0 ∷ 0 ∷ 0 ∷ 0 ∷ 7 ∷ 0 ∷ 0 ∷ 0 ∷ 0 ∷ 0 ∷ 0 ∷ 0 ∷ 7 ∷ 0 ∷ [])

-- two frames are poked, the first is taken, a halt ends the run, a post starts another, and a close ends that one
abbrev pub stopped_map_script : Script
stopped_map_script = record {
  events = maps_open ++ Poke 0 0 0 8 ∷ Ioctl 0 Post ∷ Intr 1 ∷ Ioctl 0 Halt ∷ Intr 1 ∷ Ioctl 0 Post ∷ Intr 2 ∷ Close 0 ∷ Intr 4 ∷ Intr 4 ∷ [];
  inline_bytes = stereo_bytes (1 ∷ 2 ∷ []);
  device_frames = 12;
}

-- the first frame, silence, both frames, and silence
abbrev pub stopped_map_bytes : List ℕ
stopped_map_bytes = replicate 16 0 ++ stereo_bytes (1 ∷ 0 ∷ 1 ∷ 2 ∷ 0 ∷ 0 ∷ 0 ∷ 0 ∷ [])

abbrev pub stopped_map_runs : List Run
stopped_map_runs =
    record { settings = usual_settings; bytes = stereo_bytes (1 ∷ 2 ∷ []); start = Some 2; drained = false; dropped = Some 4; pieces = piece 2 0 2 0 ∷ [] }
    ∷ record { settings = usual_settings; bytes = stereo_bytes (1 ∷ []); start = Some 0; drained = false; dropped = Some 1; pieces = piece 0 0 1 0 ∷ [] }
    ∷ []

-- what was poked, and then samples of 8 bits without a sign
abbrev pub recut_script : Script
recut_script = record {
  events = maps_open ++ Poke 0 0 0 4 ∷ Ioctl 0 (SetFmt (code_of U8)) ∷ [];
  inline_bytes = stereo_bytes (1 ∷ []);
  device_frames = 0;
}

-- ---- two areas

-- two mapped channels on a ring of four frames
abbrev pub two_mapped : DeviceSeen
two_mapped = record small_mapped { map_slots = 2 }

-- of two clients the second pokes two frames, one where the first pokes its own, and closes
abbrev pub crowded_script : Script
crowded_script = record {
  events = maps_at 0 ++ maps_at 1 ++ Poke 1 0 0 4 ∷ Poke 0 4 4 4 ∷ Intr 1 ∷ Poke 1 4 8 4 ∷ Close 1 ∷ [];
  inline_bytes = stereo_bytes (1 ∷ 2 ∷ 3 ∷ []);
  device_frames = 1;
}

-- the first one by itself
abbrev pub lone_script : Script
lone_script = record { events = maps_at 5 ++ Poke 5 4 0 4 ∷ Intr 1 ∷ []; inline_bytes = stereo_bytes (2 ∷ []); device_frames = 1 }

abbrev pub its_area : List ℕ
its_area = stereo_bytes (0 ∷ 2 ∷ 0 ∷ 0 ∷ 0 ∷ 0 ∷ 0 ∷ 0 ∷ [])

abbrev pub other_area : List ℕ
other_area = stereo_bytes (1 ∷ 3 ∷ 0 ∷ 0 ∷ 0 ∷ 0 ∷ 0 ∷ 0 ∷ [])

-- its open, its fragments, its poke and the interrupt
abbrev pub its_pokes : List (List ℕ)
its_pokes = [] ∷ [] ∷ stereo_bytes (2 ∷ []) ∷ [] ∷ []

-- ---- what is asked of a mapped channel

-- a book of such an opening: ten frames were taken, and the last answer was four frames
abbrev pub mapped_book : RunState → MapBook
mapped_book state = record {
  opening = record { settings = usual_settings; fragments = record { log = 4; count = 2 }; trigger = true; told = 16 };
  volume = 0x6464;
  state = state;
  eaten = 10;
  given = 10;
}

-- what each of these is answered or refused for, in this order
abbrev pub mapped_requests : List Request
mapped_requests = GetOPtr ∷ GetError ∷ GetOSpace ∷ GetISpace ∷ GetIPtr ∷ GetODelay ∷ GetTrigger ∷ SetTrigger 4 ∷ SetFmt (code_of U8) ∷ Speed 8000 ∷ SetFragment 131076 ∷ Post ∷ Sync ∷ Halt ∷ []

abbrev pub running_replies : List (Result Answer Errno)
running_replies =
    Ok (Pointer 40 1 8) ∷ Ok (Errors 0 0) ∷ Err Inval ∷ Err Inval ∷ Err Inval ∷ Err Inval ∷ Ok (Number 2) ∷ Err Inval ∷ Err Busy ∷ Err Busy ∷ Err Busy ∷ Ok Done ∷ Ok Done ∷ Ok Done ∷ []

abbrev pub replies_of : MapBook → List Request → List (Result Answer Errno)
replies_of book requests = map (λ request. (map_ask request book).reply) requests

-- the book while it runs
abbrev pub running_map : MapBook
running_map = mapped_book Running
