-- What holds of all stages, one claim each.
use Rattle.std.specs.Prelude.{◌≡◌, ◌≤◌, ◌+◌, ◌%◌, ℕ, ℤ, pos, ◌<ℤ◌, ◌↔◌, List, length, map}
use Rattle.pcm_format.specs.declared.settings.Settings.{Settings}
use Rattle.pcm_format.specs.Frames.{Frame, frames}
use Rattle.pcm_format.specs.Layouts.{channels_of}
use Rattle.pcm_format.specs.Samples.{samples}
use Rattle.pcm_rate.specs.declared.rate.Rate.{Rate}
use Rattle.pcm_rate.specs.Rates.{need, unchanged}
use Rattle.pcm_feeder.specs.declared.stage.Gain.{Gain}
use Rattle.pcm_feeder.specs.declared.stage.Progress.{Progress}
use Rattle.pcm_feeder.specs.declared.stage.Spec.{Spec}
use Rattle.pcm_feeder.specs.Filters.{Filters}
use Rattle.pcm_feeder.specs.Kept.{Kept, fresh, resumed, CanResume, IsFitted, IsKeptAs, StandsFor}
use Rattle.pcm_feeder.specs.Stages.{rate_of, channels_in, channels_out, conv, history, outputs, all_outputs}
use Rattle.pcm_feeder.specs.Streams.{Stream, silence, stream_of, HaveChannels, frames_of, interleaved}
use Rattle.pcm_feeder.specs.Turns.{reach, allowed, turn, Continues, MapsFrames}

-- ---- samples and frames

-- whole frames of samples, cut and joined, are the samples
abbrev pub AreJoinedAgain : ℕ → Type 0
AreJoinedAgain channels = (samples : List ℤ) → length samples % channels ≡ 0
    → interleaved (frames_of channels samples) ≡ samples

-- frames, joined and cut, are the frames
abbrev pub AreCutAgain : ℕ → Type 0
AreCutAgain channels = (list : List Frame) → HaveChannels channels list
    → frames_of channels (interleaved list) ≡ list

-- the samples of bytes, cut, are the frames of the bytes
abbrev pub AreLoaded : Settings → Type 0
AreLoaded settings = (bytes : List ℕ)
    → frames_of (channels_of settings.layout) (samples settings.format bytes)
    ≡ frames settings bytes

-- ---- outputs

-- from each phase on as many outputs are allowed as reach no further than the frames
abbrev pub AllowsWhatReaches : Rate → Type 0
AllowsWhatReaches rate = (phase c n : ℕ) → (reach rate phase c ≤ n) ↔ (c ≤ allowed rate phase n)

-- an output is the same for streams that agree on the frames that its count names
abbrev pub UsesWhatIsNeeded : Spec → Type 0
UsesWhatIsNeeded spec = (tables : Filters) (gain : Gain) (x y : Stream) (k : ℕ)
    → ((place : ℤ) → place <ℤ pos (need (rate_of spec) (k + 1)) → x place ≡ y place)
    → conv spec tables gain x k ≡ conv spec tables gain y k

-- the gain changes no output
abbrev pub UsesNoGain : Spec → Type 0
UsesNoGain spec = (tables : Filters) (gain other : Gain) (x : Stream) (k : ℕ)
    → conv spec tables gain x k ≡ conv spec tables other x k

-- each output has the channels that the stage gives
abbrev pub GivesItsChannels : Spec → Type 0
GivesItsChannels spec = (tables : Filters) (gain : Gain) (list : List Frame) (from count : ℕ)
    → HaveChannels (channels_in spec) list → HaveChannels (channels_out spec)
    (outputs spec tables gain (stream_of (channels_in spec) list) from count)

-- ---- stages that turn each frame by itself

-- a frame of silence is turned into one
abbrev pub KeepsSilence : Spec → (Frame → Frame) → Type 0
KeepsSilence spec f = f (silence (channels_in spec)) ≡ silence (channels_out spec)

-- a list of frames as a stream is turned into the list of the frames turned, by what a gain makes
-- of a frame
abbrev pub MapsStreams : Spec → (Gain → Frame → Frame) → Type 0
MapsStreams spec f = (tables : Filters) (gain : Gain) (list : List Frame) (place : ℤ)
    → all_outputs spec tables gain (stream_of (channels_in spec) list) place
    ≡ stream_of (channels_out spec) (map (f gain) list) place

-- a stage without a change of rate keeps no frame
pub record KeepsNothing (spec : Spec) : Type 0 where
  pub rate : rate_of spec ≡ unchanged
  pub history : history spec ≡ 0

-- a feed turns each frame, by what its gain makes of one, and keeps nothing
abbrev pub FeedsMapFrames : Spec → (Gain → Frame → Frame) → Type 0
FeedsMapFrames spec f = (tables : Filters) (gain : Gain) (input : List Frame) (want : ℕ)
    → MapsFrames spec (f gain) input want (turn (fresh spec) tables gain input want)

-- ---- feeds

-- a feed goes on where the frames eaten and given end, for all that what is kept stands for
abbrev pub FeedsContinue : Spec → Type 0
FeedsContinue spec = (kept : Kept) (tables : Filters) (gain : Gain) (x input : List Frame)
    (given want : ℕ) → StandsFor spec tables kept x given → HaveChannels (channels_in spec) input
    → Continues spec tables gain x given input want (turn kept tables gain input want)

-- what is kept stands for the same with any other tables that have the same sections
abbrev pub StandsWithAnyTables : Spec → Type 0
StandsWithAnyTables spec = (tables other : Filters) (kept : Kept) (x : List Frame) (given : ℕ)
    → tables.sections ≡ other.sections
    → StandsFor spec tables kept x given → StandsFor spec other kept x given

-- what is kept is within its bounds, however long the stream that it stands for
abbrev pub StandsWithinBounds : Spec → Type 0
StandsWithinBounds spec = (tables : Filters) (kept : Kept) (x : List Frame) (given : ℕ)
    → StandsFor spec tables kept x given → IsFitted spec kept

-- a feed leaves what is kept within its bounds
abbrev pub FeedsStayFitted : Spec → Type 0
FeedsStayFitted spec = (kept : Kept) (tables : Filters) (gain : Gain) (input : List Frame) (want : ℕ)
    → IsFitted spec kept → HaveChannels (channels_in spec) input
    → IsFitted spec (turn kept tables gain input want).kept

-- what was kept of a feeder is what another one goes on from
abbrev pub ResumesWhatWasKept : Spec → Type 0
ResumesWhatWasKept spec = (kept : Kept) (progress : Progress) (samples : List ℤ) → IsFitted spec kept → IsKeptAs kept progress samples
    → CanResume spec progress samples × (resumed spec progress samples ≡ kept)
