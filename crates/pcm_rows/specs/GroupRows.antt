-- Scripts whose clients start together.
use Rattle.std.specs.Prelude.{ℕ, List, [], ◌∷◌, codes}
use Rattle.pcm_oss.specs.declared.event.Event.{Event}
use Rattle.pcm_oss.specs.declared.event.Event.TheVariants.{Open, Write, Ioctl, Join, StartGroup, Intr}
use Rattle.pcm_oss.specs.declared.event.Way.TheVariants.{Play, Record}
use Rattle.pcm_oss.specs.declared.request.Request.TheVariants.{Halt, Post, SetTrigger, Sync}
use Rattle.pcm_wave.specs.declared.pool.Source.TheVariants.{Inline}
use Rattle.pcm_desk.specs.declared.device.TheConstants.{OPENING}
use Rattle.pcm_desk.specs.Usual.{usual_settings}
use Rattle.pcm_sound.specs.Story.{Story}
use Rattle.pcm_script.specs.declared.script.Script.{Script}
use Rattle.pcm_rows.specs.Calls.{joined, opens, story_after}
use Rattle.pcm_rows.specs.ClientRates.{half_settings}
use Rattle.pcm_rows.specs.MixRows.{half_mixed}

-- ---- a start

-- two members with a frame each, of which the first is posted, and which start after two frames once both are ready
abbrev pub together_text : List ℕ
together_text = joined (
    codes "open 0 play s16le 2 48000" ∷
    codes "open 1 play s16le 2 48000" ∷
    codes "ioctl 0 syncgroup 0" ∷
    codes "ioctl 1 syncgroup 1" ∷
    codes "write 0 01000200" ∷
    codes "ioctl 0 post" ∷
    codes "ioctl 0 syncstart 1" ∷
    codes "write 1 03000400" ∷
    codes "intr 2" ∷
    codes "ioctl 1 syncstart 1" ∷
    codes "intr 1022" ∷
    codes "intr 3" ∷ [])

abbrev pub together_script : Script
together_script = record {
  events =
      opens 0 ∷ opens 1 ∷ Join 0 0 ∷ Join 1 1 ∷ Write 0 Inline 0 4 ∷ Ioctl 0 Post ∷ StartGroup 0 1 ∷ Write 1 Inline 4 4 ∷
      Intr 2 ∷ StartGroup 1 1 ∷ Intr 1022 ∷ Intr 3 ∷ [];
  inline_bytes = 1 ∷ 0 ∷ 2 ∷ 0 ∷ 3 ∷ 0 ∷ 4 ∷ 0 ∷ [];
  device_frames = 1027;
}

-- the sums of both frames
abbrev pub frame_of_both : List ℕ
frame_of_both = 4 ∷ 0 ∷ 6 ∷ 0 ∷ []

abbrev pub together_lines : List ℕ
together_lines = joined (
    codes "1: ok 0" ∷ codes "2: ok 1" ∷ codes "3: ok 1" ∷ codes "4: ok 1" ∷ codes "5: ok 4" ∷ codes "6: ok" ∷
    codes "7: refused busy" ∷ codes "8: ok 4" ∷ codes "9: ok 2" ∷ codes "10: ok" ∷ codes "11: ok 1022" ∷ codes "12: ok 3" ∷ [])

-- two members that play and one that records, after four frames, for which three are mixed
abbrev pub both_ways : Script
both_ways = record {
  events =
      Open 0 Play half_settings ∷ Open 1 Record usual_settings ∷ Open 2 Play half_settings ∷ Join 0 0 ∷ Join 1 1 ∷ Join 2 1 ∷
      Write 0 Inline 0 4 ∷ Write 2 Inline 4 4 ∷ Intr 4 ∷ StartGroup 1 1 ∷ [];
  inline_bytes = 1 ∷ 0 ∷ 2 ∷ 0 ∷ 3 ∷ 0 ∷ 4 ∷ 0 ∷ [];
  device_frames = 4;
}

abbrev pub both_ways_story : Story
both_ways_story = story_after half_mixed both_ways

-- ---- numbers and refusals

abbrev pub refusals_text : List ℕ
refusals_text = joined (
    codes "open 0 play" ∷
    codes "ioctl 0 syncgroup 3" ∷
    codes "ioctl 0 syncgroup 0" ∷
    codes "ioctl 0 settrigger 2" ∷
    codes "ioctl 0 sync" ∷
    codes "ioctl 0 syncstart 1" ∷ [])

abbrev pub refusals_script : Script
refusals_script = record {
  events = Open 0 Play OPENING ∷ Join 0 3 ∷ Join 0 0 ∷ Ioctl 0 (SetTrigger 2) ∷ Ioctl 0 Sync ∷ StartGroup 0 1 ∷ [];
  inline_bytes = [];
  device_frames = 0;
}

abbrev pub refusals_lines : List ℕ
refusals_lines = joined (
    codes "1: ok 0" ∷ codes "2: refused inval" ∷ codes "3: ok 1" ∷ codes "4: refused busy" ∷ codes "5: ok" ∷ codes "6: refused inval" ∷ [])

-- three groups of one member each, of which the second leaves its own; the number is another's then
abbrev pub numbers_again : List Event
numbers_again =
    opens 0 ∷ opens 1 ∷ opens 2 ∷ Join 0 0 ∷ Join 1 0 ∷ Join 2 0 ∷ Ioctl 1 Sync ∷ Join 0 2 ∷ Join 1 0 ∷ []

abbrev pub numbers_lines : List ℕ
numbers_lines = joined (
    codes "1: ok 0" ∷ codes "2: ok 1" ∷ codes "3: ok 2" ∷ codes "4: ok 1" ∷ codes "5: ok 2" ∷ codes "6: ok 3" ∷ codes "7: ok" ∷
    codes "8: refused inval" ∷ codes "9: ok 2" ∷ [])

-- a member that is halted, and one whose frame makes it busy for another group
abbrev pub halted_member : List Event
halted_member =
    opens 0 ∷ Join 0 0 ∷ Write 0 Inline 0 4 ∷ Ioctl 0 Halt ∷ Ioctl 0 (SetTrigger 4) ∷ Join 0 1 ∷ StartGroup 0 1 ∷ opens 1 ∷
    Write 1 Inline 4 4 ∷ Join 1 1 ∷ Join 1 9 ∷ Join 5 9 ∷ StartGroup 5 9 ∷ []

abbrev pub member_lines : List ℕ
member_lines = joined (
    codes "1: ok 0" ∷ codes "2: ok 1" ∷ codes "3: ok 4" ∷ codes "4: ok" ∷ codes "5: refused inval" ∷ codes "6: refused busy" ∷
    codes "7: refused busy" ∷ codes "8: ok 1" ∷ codes "9: ok 4" ∷ codes "10: refused busy" ∷ codes "11: refused inval" ∷
    codes "12: refused badf" ∷ codes "13: refused badf" ∷ [])
