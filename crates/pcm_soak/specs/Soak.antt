-- The script that a number makes.
use Rattle.std.specs.Prelude.{ℕ, zero, suc, ◌+◌, ◌*◌, ◌%◌, List, [], ◌∷◌, ◌++◌, map}
use Rattle.std.specs.List.{range_with_len}
use Rattle.pcm_format.specs.declared.format.Format.{Format}
use Rattle.pcm_format.specs.declared.format.Format.TheVariants.{U8, S16Le, S16Be, S24Be, S32Le}
use Rattle.pcm_format.specs.declared.layout.Layout.{Layout}
use Rattle.pcm_format.specs.declared.layout.Layout.TheVariants.{One, Two, Six}
use Rattle.pcm_oss.specs.declared.event.Event.{Event}
use Rattle.pcm_oss.specs.declared.event.Event.TheVariants.{Open, Write, Ioctl, Intr}
use Rattle.pcm_oss.specs.declared.event.Way.{Way}
use Rattle.pcm_oss.specs.declared.event.Way.TheVariants.{Play, Record}
use Rattle.pcm_oss.specs.declared.request.Request.TheVariants.{GetOSpace, SetPlayVol, SetTrigger}
use Rattle.pcm_wave.specs.declared.pool.Source.TheVariants.{Inline}
use Rattle.pcm_desk.specs.Events.{all_frames_taken}
use Rattle.pcm_script.specs.declared.script.Script.{Script}
use Rattle.pcm_soak.specs.declared.limits.TheConstants.{DRAWN_EVENTS, INLINE_BYTES}
use Rattle.pcm_soak.specs.Events.{drawn_event}

-- an open with settings
abbrev pub opened : ℕ → Way → Format → Layout → ℕ → Event
opened fd way format layout rate = Open fd way (record { format = format; layout = layout; rate = rate })

-- the trigger of one that records is turned on
abbrev pub started : ℕ → Event
started fd = Ioctl fd (SetTrigger 1)

-- what each script begins with: four that play, and two that record and may start
abbrev pub first_events : List Event
first_events =
    opened 0 Play S16Le Two 44100
    ∷ opened 1 Play U8 One 8000
    ∷ opened 2 Play S24Be Six 96000
    ∷ opened 3 Play S32Le Two 48000
    ∷ opened 4 Record S16Be One 22050
    ∷ opened 5 Record S32Le Two 48000
    ∷ started 4
    ∷ started 5
    ∷ []

-- a number of events that are drawn from a state on
unfoldable pub drawn_events : ℕ → ℕ → List Event
drawn_events zero state = []
drawn_events (suc count) state = (drawn_event state).value ∷ drawn_events count (drawn_event state).state

-- byte j of what is written
abbrev pub inline_byte : ℕ → ℕ → ℕ
inline_byte n j = (31 * j * j + 7 * j + n) % 256

-- `count` of them
unfoldable pub inline_bytes : ℕ → ℕ → List ℕ
inline_bytes count n = map (inline_byte n) (range_with_len 0 count)

-- all events: the number is the state that the draws begin with
unfoldable pub soak_events : ℕ → List Event
soak_events n = first_events ++ drawn_events DRAWN_EVENTS n

-- the script of a number
unfoldable pub soak_script : ℕ → Script
soak_script n = record {
  events = soak_events n;
  inline_bytes = inline_bytes INLINE_BYTES n;
  device_frames = all_frames_taken (soak_events n);
}

-- what is drawn from 7 on
abbrev pub events_of_seven : List Event
events_of_seven =
    Ioctl 3 (SetPlayVol 20268) ∷ Intr 4 ∷ Intr 21 ∷ Intr 119 ∷ Write 3 Inline 64 3901 ∷ Ioctl 4 GetOSpace
    ∷ Write 0 Inline 2207 268 ∷ []
