-- How far a run has come: what its engine stands for, and what it is to leave.
use Rattle.std.specs.Prelude.{◌≡◌, ℕ, ◌*◌, ◌<◌, max, IsTrue, List, ◌++◌, length, take, fold, Some}
use Rattle.pcm_outside.specs.Files.{FilesSeen}
use Rattle.pcm_sequence.specs.Fixed.{fixed_len}
use Rattle.pcm_oss.specs.declared.event.Event.{Event}
use Rattle.pcm_wave.specs.declared.pool.Pool.{Pool}
use Rattle.pcm_desk.specs.declared.limits.TheConstants.{EVENTS}
use Rattle.pcm_desk.specs.Device.{device_frame_bytes}
use Rattle.pcm_desk.specs.Events.{frames_taken}
use Rattle.pcm_sound.specs.DeviceList.{device_text}
use Rattle.pcm_feeder.specs.declared.kind.Kind.{Kind}
use Rattle.pcm_feeder.specs.Kept.{Kept}
use Rattle.pcm_engine.specs.Engines.{device_of}
use Rattle.pcm_report.specs.declared.line.TheConstants.{LINE_BYTES}
use Rattle.pcm_verdict.specs.Outputs.{Output}
use Rattle.pcm_verdict.specs.Transcript.{transcript}
use Rattle.pcm_soak_command.specs.Running.{CanRun, RanThrough}
use Rattle.pcm_replay.specs.Playback.{Playback}
use Rattle.pcm_replay.specs.declared.replay.ReplayOf.{ReplayOf}

-- the frames of the greatest interrupt among events
abbrev pub greatest_taken : List Event → ℕ
greatest_taken events = fold (λ most event. max most (frames_taken event)) 0 events

-- the first events were run, and there is room for what every event gives
pub record HasPlayed {B : Type 0} (kind : B → Kind) (kept : B → Kept) (replay : ReplayOf B) (pool : Pool) (events : List Event) (done : ℕ) :
    Type 0 where
  pub engine : RanThrough kind kept replay.engine (device_of replay.engine) pool (take done events)
  pub room : fixed_len replay.block ≡ greatest_taken events * device_frame_bytes (device_of replay.engine)
  pub line_room : fixed_len replay.line ≡ LINE_BYTES

-- the events before a place were run, and the one that stands there can be
pub record CanStepNext {B : Type 0} (kind : B → Kind) (kept : B → Kept) (replay : ReplayOf B) (pool : Pool) (events : List Event) (at : ℕ) :
    Type 0 where
  pub there : at < length events
  pub runs : CanRun EVENTS (device_of replay.engine) pool events
  pub played : HasPlayed kind kept replay pool events at

-- and what it gives can be written
pub record CanPlayNext {B : Type 0} (kind : B → Kind) (kept : B → Kept) (files : FilesSeen) (replay : ReplayOf B) (pool : Pool)
    (events : List Event) (at : ℕ) : Type 0 where
  pub created : IsTrue files.stands
  pub next : CanStepNext kind kept replay pool events at

-- all that is left of a script that was played into a file
abbrev pub output_played : List ℕ → List ℕ → Playback → Output
output_played name head playback = record {
  file = Some (record { name = name; bytes = head ++ device_text playback.device playback.pool playback.events });
  lines = transcript playback.device playback.pool playback.events;
}
