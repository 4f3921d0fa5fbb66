-- What one feed eats, gives and keeps.
use Rattle.std.specs.Prelude.{◌≡◌, ◌≤◌, ℕ, zero, suc, ◌+◌, ◌-◌, ◌*◌, ◌/◌, ◌%◌, min, max, ℤ, pos, ◌+ℤ◌, ◌-ℤ◌, List, [], ◌++◌, length, map, take, Option, Some, None, IsSomeAnd}
use Rattle.std.specs.List.{range_with_len}
use Rattle.pcm_format.specs.Frames.{Frame}
use Rattle.pcm_format.specs.Samples.{natural}
use Rattle.pcm_feeder.specs.declared.stage.Gain.{Gain}
use Rattle.pcm_feeder.specs.declared.stage.Spec.{Spec}
use Rattle.pcm_feeder.specs.declared.stage.Spec.TheVariants.{Matrix, Hold, Linear, Poly, Volume, Depth, Eq}
use Rattle.pcm_feeder.specs.Filters.{Filters}
use Rattle.pcm_rate.specs.declared.rate.Rate.{Rate}
use Rattle.pcm_rate.specs.Rates.{need, can, div_up}
use Rattle.pcm_feeder.specs.Streams.{Stream, stream_of, frames_of, HaveChannels, written}
use Rattle.pcm_feeder.specs.Layouts.{in_layout, at_gain}
use Rattle.pcm_feeder.specs.Sections.{sections_of, sections_on}
use Rattle.pcm_feeder.specs.Stages.{rate_of, channels_in, channels_out, history, at_bits, table_at, Converter, held, on_line, filtered_frame, outputs}
use Rattle.pcm_feeder.specs.Limits.{IsGain, HasTable}
use Rattle.pcm_feeder.specs.Kept.{Kept, fresh, past_after, StandsFor}

-- what a feed does, in frames
pub record Turn : Type 0 where
  pub eaten : ℕ
  pub given : ℕ
  pub frames : List Frame
  pub kept : Kept

-- how many input frames lie between those under the next output and under output j from now
abbrev pub step_of : Rate → ℕ → ℕ → ℕ
step_of rate phase j = (phase + j * rate.src) / rate.dst

-- how far output j from now lies past the frame under it, in parts of dst
abbrev pub phase_of : Rate → ℕ → ℕ → ℕ
phase_of rate phase j = (phase + j * rate.src) % rate.dst

-- how many frames, from the one under the next output on, the next j outputs use
abbrev pub reach : Rate → ℕ → ℕ → ℕ
reach rate phase zero = 0
reach rate phase (suc j) = step_of rate phase j + 1 + rate.lookahead

-- how many outputs n such frames allow: the greatest j of which reach is at most n
abbrev pub allowed : Rate → ℕ → ℕ → ℕ
allowed rate phase n = div_up ((n - rate.lookahead) * rate.dst - phase) rate.src

-- how many of the frames offered a feed eats: none beyond what the wanted outputs use
abbrev pub eaten_by : Rate → ℕ → ℤ → ℕ → ℕ → ℕ
eaten_by rate phase ahead offered zero = 0
eaten_by rate phase ahead offered (suc j) =
    min offered (natural (pos (reach rate phase (suc j)) -ℤ ahead))

-- how many frames a feed gives: as many as are wanted and the frames offered allow
abbrev pub given_by : Rate → ℕ → ℤ → ℕ → ℕ → ℕ
given_by rate phase ahead offered want =
    min want (allowed rate phase (natural (ahead +ℤ pos offered)))

-- the frames around output j from now, out of those kept and those offered
abbrev pub around : Spec → Kept → List Frame → ℕ → Stream
around spec kept input j =
    λ a. stream_of (channels_in spec) (kept.tail ++ input)
    (pos (history spec + step_of (rate_of spec) kept.phase j) -ℤ kept.ahead +ℤ a)

-- the next outputs of a converter
abbrev pub next_outputs : Converter → Spec → Kept → List Frame → ℕ → List Frame
next_outputs converter spec kept input given =
    map (λ j. converter (phase_of (rate_of spec) kept.phase j) (around spec kept input j))
    (range_with_len 0 given)

-- the frames that a feed gives, out of what is kept and the frames offered
abbrev pub frames_by : Spec → Kept → Filters → Gain → List Frame → ℕ → List Frame
frames_by (Matrix from to) kept tables gain input given = map (in_layout from to) (take given input)
frames_by (Hold src dst channels) kept tables gain input given =
    next_outputs held (Hold src dst channels) kept input given
frames_by (Linear src dst channels) kept tables gain input given =
    next_outputs (on_line dst) (Linear src dst channels) kept input given
frames_by (Poly src dst channels table taps) kept tables gain input given =
    next_outputs (filtered_frame (table_at tables table) taps channels dst)
    (Poly src dst channels table taps) kept input given
frames_by (Volume layout) kept tables gain input given =
    map (at_gain layout gain) (take given input)
frames_by (Depth bits channels) kept tables gain input given = map (at_bits bits) (take given input)
frames_by (Eq channels sections) kept tables gain input given =
    sections_on channels (sections_of tables sections) kept.tail (take given input)

-- what is kept after `eaten` frames were eaten and `given` frames were given
abbrev pub kept_after : Spec → Filters → Kept → List Frame → ℕ → ℕ → Kept
kept_after spec tables kept input eaten given = record {
  spec = Some spec;
  phase = phase_of (rate_of spec) kept.phase given;
  ahead = kept.ahead +ℤ pos eaten -ℤ pos (step_of (rate_of spec) kept.phase given);
  tail = past_after spec tables kept.tail (take eaten input);
}

-- a feed of a feeder that is fitted to a spec
abbrev pub turn_of : Spec → Kept → Filters → Gain → List Frame → ℕ → Turn
turn_of spec kept tables gain input want =
    let eaten = eaten_by (rate_of spec) kept.phase kept.ahead (length input) want in
    let given = given_by (rate_of spec) kept.phase kept.ahead (length input) want in
    record {
      eaten = eaten;
      given = given;
      frames = frames_by spec kept tables gain input given;
      kept = kept_after spec tables kept input eaten given;
    }

-- a feed by what a feeder is fitted to; without that nothing happens
abbrev pub turn_at : Option Spec → Kept → Filters → Gain → List Frame → ℕ → Turn
turn_at None kept tables gain input want = record { eaten = 0; given = 0; frames = []; kept = kept }
turn_at (Some spec) kept tables gain input want = turn_of spec kept tables gain input want

-- a feed
unfoldable pub turn : Kept → Filters → Gain → List Frame → ℕ → Turn
turn kept tables gain input want = turn_at kept.spec kept tables gain input want

-- interleaved samples as frames, by what a feeder is fitted to
abbrev pub frames_for : Option Spec → List ℤ → List Frame
frames_for None samples = []
frames_for (Some spec) samples = frames_of (channels_in spec) samples

-- a feed of interleaved samples
unfoldable pub fed : Kept → Filters → Gain → List ℤ → ℕ → Turn
fed kept tables gain samples want = turn kept tables gain (frames_for kept.spec samples) want

-- what a feed asks: whole frames, room for the frames wanted, a gain, and the filter of the spec
pub record CanFeed (spec : Spec) (tables : Filters) (gain : Gain)
    (input : List ℤ) (want : ℕ) (output : List ℤ) : Type 0 where
  pub whole_frames : length input % channels_in spec ≡ 0
  pub room : want * channels_out spec ≤ length output
  pub limits : IsGain gain
  pub filter : HasTable spec tables

-- a fitted feeder can be fed so
abbrev pub CanBeFed : Kept → Filters → Gain → List ℤ → ℕ → List ℤ → Type 0
CanBeFed kept tables gain input want output =
    IsSomeAnd kept.spec (λ spec. CanFeed spec tables gain input want output)

-- What a feed means to a caller that knows the frames x that were eaten and how many were given: both go
-- on as far as the counts say, and the frames given are the stage's outputs over all frames eaten.
pub record Continues (spec : Spec) (tables : Filters) (gain : Gain) (x : List Frame) (before : ℕ)
    (input : List Frame) (want : ℕ) (turn : Turn) : Type 0 where
  pub eaten : length x + turn.eaten
      ≡ max (length x) (min (length x + length input) (need (rate_of spec) (before + want)))
  pub within : turn.eaten ≤ length input
  pub given : turn.given ≡ min want (can (rate_of spec) (length x + length input) - before)
  pub frames : turn.frames
      ≡ outputs spec tables gain (stream_of (channels_in spec) (x ++ take turn.eaten input))
      before turn.given
  pub count : length turn.frames ≡ turn.given
  pub channels : HaveChannels (channels_out spec) turn.frames
  pub stands : StandsFor spec tables turn.kept (x ++ take turn.eaten input) (before + turn.given)

-- a feed of a stage without a change of rate: a function of each frame, and nothing to keep
pub record MapsFrames (spec : Spec) (f : Frame → Frame) (input : List Frame) (want : ℕ)
    (turn : Turn) : Type 0 where
  pub eaten : turn.eaten ≡ min want (length input)
  pub given : turn.given ≡ min want (length input)
  pub frames : turn.frames ≡ map f (take (min want (length input)) input)
  pub kept : turn.kept ≡ fresh spec

-- the first n frames of the input stand at the front of the output, each turned by itself
abbrev pub PutsTurned : Spec → (Frame → Frame) → ℕ → List ℤ → List ℤ → List ℤ → Type 0
PutsTurned spec f n input old new =
    new ≡ written (map f (take n (frames_of (channels_in spec) input))) old
