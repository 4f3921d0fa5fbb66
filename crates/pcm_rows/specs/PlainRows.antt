-- Scripts of runs that are heard from their starts to their ends, and of one that isn't.
use Rattle.std.specs.Prelude.{ℕ, ◌*◌, List, [], ◌∷◌, ◌++◌, replicate, take, pos}
use Rattle.pcm_oss.specs.declared.event.Event.TheVariants.{Open, Write, Close, Intr}
use Rattle.pcm_wave.specs.declared.pool.Source.TheVariants.{Inline}
use Rattle.pcm_oss.specs.declared.event.Way.TheVariants.{Play}
use Rattle.pcm_oss.specs.declared.request.Request.TheVariants.{SetPlayVol, Post, Sync, Halt}
use Rattle.pcm_format.specs.declared.layout.Layout.TheVariants.{Two}
use Rattle.pcm_format.specs.Frames.{Frame}
use Rattle.pcm_feeder.specs.declared.stage.Spec.TheVariants.{Linear}
use Rattle.pcm_plan.specs.Plans.{PlanSeen}
use Rattle.pcm_sound.specs.Plain.{Span}
use Rattle.pcm_script.specs.declared.script.Script.{Script}
use Rattle.pcm_rows.specs.Calls.{opens, times}
use Rattle.pcm_rows.specs.ClientRates.{half_settings}
use Rattle.pcm_rows.specs.OneClient.{drain_bytes}
use Rattle.pcm_rows.specs.PlanRows.{plan_16}
use Rattle.pcm_rows.specs.Requests.{asks, softer_script}
use Rattle.pcm_rows.specs.SeveralClients.{three_script, loud_frame, soft_frame, negative_frame}

-- ---- spans

-- samples of 16 bits on both sides, at 32 bits
abbrev pub sides : ℕ → ℕ → Frame
sides left right = pos (left * 65536) ∷ pos (right * 65536) ∷ []

-- what a client in the settings of the device goes through
abbrev pub usual_plan : PlanSeen
usual_plan = plan_16 Two Two []

-- and a client at half its rate
abbrev pub half_plan : PlanSeen
half_plan = plan_16 Two Two (Linear 24000 48000 2 ∷ [])

-- frames that a plan makes something of, from a position on and before another
abbrev pub span : PlanSeen → List Frame → ℕ → ℕ → Span
span plan stream start end = record { plan = plan; stream = stream; start = start; end = end }

-- those of a client in the settings of the device
abbrev pub heard : List Frame → ℕ → ℕ → Span
heard stream start end = span usual_plan stream start end

-- and those of a client at half its rate, between which lines are drawn
abbrev pub drawn : List Frame → ℕ → ℕ → Span
drawn stream start end = span half_plan stream start end

-- the frames of `step_body`
abbrev pub step_frames : List Frame
step_frames = sides 0 0 ∷ sides 100 100 ∷ []

-- the frames of `drain_bytes`
abbrev pub four_frames : List Frame
four_frames = sides 1 2 ∷ sides 3 4 ∷ sides 5 6 ∷ sides 7 8 ∷ []

-- ---- writes

-- the four frames in one write, played by two interrupts
abbrev pub whole_script : Script
whole_script = record {
  events = opens 0 ∷ Write 0 Inline 0 16 ∷ Close 0 ∷ Intr 4 ∷ Intr 4 ∷ [];
  inline_bytes = drain_bytes;
  device_frames = 8;
}

-- the same in three writes, of which the last comes after a post; and two frames less are mixed
abbrev pub brief_script : Script
brief_script = record {
  events = opens 0 ∷ Write 0 Inline 0 3 ∷ Write 0 Inline 3 5 ∷ asks Post ∷ Intr 1 ∷ Write 0 Inline 8 8 ∷ Close 0 ∷ Intr 2 ∷ Intr 3 ∷ [];
  inline_bytes = drain_bytes;
  device_frames = 6;
}

-- the same in one write, and a volume that is set after the last frame
abbrev pub behind_script : Script
behind_script = record {
  events = opens 0 ∷ Write 0 Inline 0 16 ∷ asks Sync ∷ Intr 4 ∷ asks (SetPlayVol 0x3264) ∷ Intr 2 ∷ [];
  inline_bytes = drain_bytes;
  device_frames = 6;
}

-- the same after a frame of silence
abbrev pub late_start_script : Script
late_start_script = record {
  events = opens 0 ∷ Intr 1 ∷ Write 0 Inline 0 16 ∷ Close 0 ∷ Intr 3 ∷ Intr 2 ∷ [];
  inline_bytes = drain_bytes;
  device_frames = 6;
}

-- ---- halts

-- a run of four frames is halted after two, and one of a frame is played after it
abbrev pub dropped_script : Script
dropped_script = record {
  events =
      opens 0 ∷ Write 0 Inline 0 16 ∷ asks Post ∷ Intr 2 ∷ asks Halt ∷ Intr 1 ∷
      Write 0 Inline 16 4 ∷ asks Sync ∷ Intr 1 ∷ Intr 4 ∷ [];
  inline_bytes = drain_bytes ++ 9 ∷ 0 ∷ 10 ∷ 0 ∷ [];
  device_frames = 8;
}

abbrev pub dropped_bytes : List ℕ
dropped_bytes = replicate 16 0 ++ 1 ∷ 0 ∷ 2 ∷ 0 ∷ 3 ∷ 0 ∷ 4 ∷ 0 ∷ 0 ∷ 0 ∷ 0 ∷ 0 ∷ 9 ∷ 0 ∷ 10 ∷ 0 ∷ []

-- ---- volumes

-- four frames of 100 and -3, of which the second is mixed at half the gain on the right side
abbrev pub dip_script : Script
dip_script = record {
  events =
      opens 0 ∷ Write 0 Inline 0 16 ∷ asks Sync ∷ Intr 1 ∷ asks (SetPlayVol 0x3264) ∷ Intr 1 ∷ asks (SetPlayVol 0x6464) ∷
      Intr 2 ∷ Intr 4 ∷ [];
  inline_bytes = softer_script.inline_bytes;
  device_frames = 8;
}

-- half of -3 is -2, rounded down
abbrev pub dip_bytes : List ℕ
dip_bytes =
    replicate 16 0 ++ 0x64 ∷ 0x00 ∷ 0xfd ∷ 0xff ∷ 0x64 ∷ 0x00 ∷ 0xfe ∷ 0xff ∷ times 2 (0x64 ∷ 0x00 ∷ 0xfd ∷ 0xff ∷ [])

-- ---- several clients

-- two frames each, of which the second client's begin one later
abbrev pub two_script : Script
two_script = record {
  events =
      opens 0 ∷ opens 1 ∷ Write 0 Inline 0 8 ∷ Close 0 ∷ Intr 1 ∷ Write 1 Inline 8 8 ∷ Close 1 ∷ Intr 3 ∷ Intr 4 ∷ [];
  inline_bytes = times 2 loud_frame ++ times 2 soft_frame;
  device_frames = 8;
}

-- 30000, 32767 where both are heard, 10000 and silence
abbrev pub two_bytes : List ℕ
two_bytes =
    replicate 16 0 ++ 0x30 ∷ 0x75 ∷ 0x30 ∷ 0x75 ∷ 0xff ∷ 0x7f ∷ 0xff ∷ 0x7f ∷ 0x10 ∷ 0x27 ∷ 0x10 ∷ 0x27 ∷ 0 ∷ 0 ∷ 0 ∷ 0 ∷ []

-- three clients with a frame each, over a ring of four frames
abbrev pub trio_script : List ℕ → List ℕ → List ℕ → Script
trio_script first second third = record (three_script first second third) {
  events = take 9 (three_script first second third).events ++ Intr 4 ∷ Intr 1 ∷ [];
  device_frames = 5;
}

-- the three of which the sum is limited, and of which it isn't
abbrev pub limited_trio : Script
limited_trio = trio_script loud_frame soft_frame negative_frame

abbrev pub unlimited_trio : Script
unlimited_trio = trio_script negative_frame loud_frame soft_frame

-- ---- three runs

-- One frame at half the rate drains, four are halted after two frames of the mix, and three are on their way.
abbrev pub three_runs_script : Script
three_runs_script = record {
  events =
      Open 0 Play half_settings ∷ Write 0 Inline 0 4 ∷ asks Sync ∷ Intr 2 ∷ Intr 4 ∷
      Write 0 Inline 4 16 ∷ asks Post ∷ Intr 2 ∷ asks Halt ∷
      Write 0 Inline 20 12 ∷ asks Post ∷ Intr 3 ∷ [];
  inline_bytes = 100 ∷ 0 ∷ 100 ∷ 0 ∷ drain_bytes ++ 9 ∷ 0 ∷ 10 ∷ 0 ∷ 11 ∷ 0 ∷ 12 ∷ 0 ∷ 13 ∷ 0 ∷ 14 ∷ 0 ∷ [];
  device_frames = 11;
}

-- the frame and its half, the silence until both have left the ring, and the first of the next run
abbrev pub three_runs_bytes : List ℕ
three_runs_bytes = replicate 16 0 ++ 100 ∷ 0 ∷ 100 ∷ 0 ∷ 50 ∷ 0 ∷ 50 ∷ 0 ∷ replicate 16 0 ++ 1 ∷ 0 ∷ 2 ∷ 0 ∷ []

-- the frame that drains
abbrev pub drained_frames : List Frame
drained_frames = sides 100 100 ∷ []

-- what is on its way
abbrev pub closing_frames : List Frame
closing_frames = sides 9 10 ∷ sides 11 12 ∷ sides 13 14 ∷ []
