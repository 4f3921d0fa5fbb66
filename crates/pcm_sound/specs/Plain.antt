-- The device's bytes without a count: each run is heard from its start to its end, a frame of what its plan makes of it at each position.
use Rattle.std.specs.Prelude.{◌≡◌, ◌≢◌, ℕ, ◌+◌, ◌-◌, ◌<◌, ◌≤◌, min, Bool, ◌&&◌, nat_le, nat_lt, if◌then◌else◌, List, [], ◌∷◌, length, take, All, Option, Some, None, find, option_map}
use Rattle.std.specs.List.{filter}
use Rattle.pcm_oss.specs.declared.event.Event.{Event}
use Rattle.pcm_wave.specs.declared.pool.Pool.{Pool}
use Rattle.pcm_format.specs.Frames.{Frame}
use Rattle.pcm_rate.specs.Rates.{len}
use Rattle.pcm_feeder.specs.declared.stage.Gain.{Gain}
use Rattle.pcm_plan.specs.Plans.{PlanSeen}
use Rattle.pcm_plan.specs.Through.{out}
use Rattle.pcm_desk.specs.Device.{DeviceSeen, device_filters, play_plan_between, play_rate_between}
use Rattle.pcm_sound.specs.Gains.{last_gain, master_gain_at, slot_gain_at}
use Rattle.pcm_sound.specs.Runs.{Piece, Run, covers, run_frames}
use Rattle.pcm_sound.specs.Story.{Story, mixed_gains, mixed_runs, story_of}
use Rattle.pcm_sound.specs.Mix.{Table}
use Rattle.pcm_sound.specs.DeviceList.{device_body_of}

-- a run as it is heard: what a plan makes of a stream, from a position on and before another
pub record Span : Type 0 where
  pub plan : PlanSeen
  pub stream : List Frame
  pub start : ℕ
  pub end : ℕ

-- how many frames of the mix a run lasts for
abbrev pub lasting : DeviceSeen → Run → ℕ
lasting device run = len (play_rate_between device run.settings) (length (run_frames run))

-- the position after all that a run lasts for, once no more was to come
abbrev pub drain_end : DeviceSeen → ℕ → ℕ → Run → ℕ
drain_end device until start run = if run.drained then start + lasting device run else until

-- where a run was dropped
abbrev pub drop_end : ℕ → Option ℕ → ℕ
drop_end until None = until
drop_end until (Some position) = position

-- the end of a run: after all that it lasts for, where it was dropped, or the position `until`, whichever is first
abbrev pub run_end : DeviceSeen → ℕ → ℕ → Run → ℕ
run_end device until start run = min (drain_end device until start run) (min (drop_end until run.dropped) until)

-- one run more, if it has started by then
abbrev pub span_of : DeviceSeen → ℕ → Run → Option ℕ → List Span → List Span
span_of device until run None spans = spans
span_of device until run (Some start) spans =
    if nat_lt start until
    then record { plan = play_plan_between device run.settings; stream = run_frames run; start = start; end = run_end device until start run } ∷ spans
    else spans

-- the runs of a slot as they are heard until a position, the newest first
abbrev pub spans_of : DeviceSeen → ℕ → List Run → List Span
spans_of device until [] = []
spans_of device until (run ∷ runs) = span_of device until run run.start (spans_of device until runs)

-- the position is one of a span's
abbrev pub is_within : ℕ → Span → Bool
is_within position span = nat_le span.start position && nat_lt position span.end

-- the span that is heard at a position
abbrev pub span_at : List Span → ℕ → Option Span
span_at spans position = find (is_within position) spans

-- the frame of a span at a position: as far into its stream as the position is past its start
abbrev pub span_frame : DeviceSeen → Gain → ℕ → Span → Frame
span_frame device gain position span = out span.plan (device_filters device) span.stream (position - span.start) gain

-- what the runs of a story give, by where they start and end alone
abbrev pub plain_table : DeviceSeen → Story → Table
plain_table device story slot position =
    option_map (span_frame device (last_gain (mixed_gains device story slot) position) position) (span_at (spans_of device story.desk.mixed (mixed_runs device story slot)) position)

-- the device's whole text by this table
abbrev pub plain_text : DeviceSeen → Pool → List Event → List ℕ
plain_text device pool events =
    let story : Story = story_of device pool events in
    device_body_of device story.faders (plain_table device story) story.desk.handed

-- no interrupt missed a frame of a run
abbrev pub IsUnbroken : Run → Type 0
IsUnbroken run = All (λ (piece : Piece). piece.short ≡ 0) run.pieces

-- nor of any run of a story that plays; a mapped one is never short
abbrev pub HasNoShortage : Story → Type 0
HasNoShortage story = (slot : ℕ) → All IsUnbroken (story.runs slot)

-- how far into the stream the frame of a piece is at a position
abbrev pub place_of : ℕ → Piece → ℕ
place_of position piece = piece.index + (position - piece.position)

-- The pieces of a run stand in their place: they cover the positions from its start to its end and no other, each once, and give
-- at each the frame that is as far into its stream.
pub record IsInPlace (device : DeviceSeen) (mixed : ℕ) (run : Run) : Type 0 where
  pub place : (position : ℕ)
      → option_map (place_of position) (find (covers position) run.pieces)
      ≡ option_map (λ (span : Span). position - span.start) (span_at (spans_of device mixed (run ∷ [])) position)
  pub once : (position : ℕ) → length (filter (covers position) run.pieces) ≤ 1

-- Two stories sound alike until a position: in each slot the same plans make the same of the same streams from the same starts
-- to the same ends, with the same gain wherever one of them is heard, and so is the gain of its fader; the master's is the same everywhere.
pub record SoundAlike (device : DeviceSeen) (until : ℕ) (one other : Story) : Type 0 where
  pub spans : (slot : ℕ) → spans_of device until (mixed_runs device one slot) ≡ spans_of device until (mixed_runs device other slot)
  pub gains : (slot position : ℕ) → span_at (spans_of device until (mixed_runs device one slot)) position ≢ None
      → last_gain (mixed_gains device one slot) position ≡ last_gain (mixed_gains device other slot) position
  pub faders : (slot position : ℕ) → span_at (spans_of device until (mixed_runs device one slot)) position ≢ None
      → slot_gain_at one.faders slot position ≡ slot_gain_at other.faders slot position
  pub master : (position : ℕ) → position < until → master_gain_at one.faders position ≡ master_gain_at other.faders position

-- two lists are equal in their common length
abbrev pub AgreeInCommon : List ℕ → List ℕ → Type 0
AgreeInCommon one other = take (length other) one ≡ take (length one) other
