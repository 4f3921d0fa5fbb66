-- An output, out of the frames kept before a feed and those that come.
use Rattle.std.specs.Prelude.{◌≡◌, ◌≤◌, ◌+◌, ℕ, ℤ, pos, ◌+ℤ◌, ◌-ℤ◌, List, ◌++◌, map, take}
use Rattle.std.specs.List.{range_with_len}
use Rattle.pcm_format.specs.Frames.{Frame}
use Rattle.pcm_format.specs.Samples.{natural}
use Rattle.pcm_feeder.specs.declared.pace.Pace.{Pace}
use Rattle.pcm_feeder.specs.Filters.{Filters}
use Rattle.pcm_feeder.specs.Pace.{rate_by, phase_by, ahead_by}
use Rattle.pcm_feeder.specs.Streams.{Stream, frames_of, stream_of, written, moved_on}
use Rattle.pcm_feeder.specs.Turns.{step_of, phase_of, reach}
use Rattle.feed_rate.specs.declared.point.Point.{Point}
use Rattle.feed_rate.specs.Methods.{Method, channels_by, history_by, lookahead_by, converter_by}

-- An interpolator, as a contract sees it: what it was fitted to, whatever the rates; the last
-- frames; and how many of the input are among them already.
pub record Seen : Type 0 where
  pub method : Method
  pub tail : List Frame
  pub passed : ℕ

-- the frames kept, after the first `passed` of the input replaced as many of the oldest
abbrev pub tail_after : Method → List Frame → List ℤ → ℕ → List Frame
tail_after method before input passed =
    moved_on before (take passed (frames_of (channels_by method) input))

-- the frames around a place, where the first of those kept lies at 0
abbrev pub around_place : Method → List Frame → List ℤ → ℤ → Stream
around_place method before input place =
    λ a. stream_of (channels_by method) (before ++ frames_of (channels_by method) input)
    (place +ℤ a)

-- the output at a point: the last frame that it needs is as far ahead as it looks
abbrev pub output_by : Method → Filters → List Frame → List ℤ → Point → Frame
output_by method tables before input point =
    converter_by method tables point.whole.divisor point.parts
    (around_place method before input
    (pos (history_by method + point.needed) -ℤ pos (1 + lookahead_by method)))

-- the frames kept by an interpolator, after `eaten` more were taken in
abbrev pub tail_past : Seen → List ℤ → ℕ → List Frame
tail_past seen input eaten = tail_after seen.method seen.tail input eaten

-- before the feed it kept these frames
abbrev pub HasKept : Seen → List ℤ → List Frame → Type 0
HasKept seen input before = seen.tail ≡ tail_after seen.method before input seen.passed

-- an output is that of the frames kept before the feed and those that come
abbrev pub GivesOutput : Seen → Filters → List ℤ → Point → Frame → Type 0
GivesOutput seen tables input point output = (before : List Frame)
    → HasKept seen input before → output ≡ output_by seen.method tables before input point

-- the last frames are those kept before the feed, after the first `passed` of the input were taken in
abbrev pub TakesIn : Seen → List ℤ → ℕ → List Frame → Type 0
TakesIn seen input passed tail = (before : List Frame)
    → HasKept seen input before → tail ≡ tail_after seen.method before input passed

-- output j from now
abbrev pub output_at : Method → Filters → Pace → List Frame → List ℤ → ℕ → Frame
output_at method tables pace before input j =
    converter_by method tables (rate_by pace).dst (phase_of (rate_by pace) (phase_by pace) j)
    (around_place method before input
    (pos (history_by method + step_of (rate_by pace) (phase_by pace) j) -ℤ ahead_by pace))

-- the next outputs
abbrev pub next_frames : Method → Filters → Pace → List Frame → List ℤ → ℕ → List Frame
next_frames method tables pace before input count =
    map (output_at method tables pace before input) (range_with_len 0 count)

-- they stand at the front of an output
abbrev pub PutsNext : Pace → Seen → Filters → List ℤ → ℕ → List ℤ → List ℤ → Type 0
PutsNext pace seen tables input count old new =
    new ≡ written (next_frames seen.method tables pace seen.tail input count) old

-- `eaten` frames are enough for `count` outputs
abbrev pub AreEnough : Pace → ℕ → ℕ → Type 0
AreEnough pace eaten count =
    reach (rate_by pace) (phase_by pace) count ≤ natural (ahead_by pace +ℤ pos eaten)
