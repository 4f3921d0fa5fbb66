-- A section over interleaved samples: what each channel adds, and which samples are turned.
use Rattle.std.specs.Prelude.{◌≡◌, ◌<◌, ◌≤◌, ◌⊎◌, ◌+◌, ◌*◌, ◌/◌, ◌%◌, ℕ, ℤ, pos, ◌+ℤ◌, List, length, slice_index_or}
use Rattle.pcm_format.specs.Frames.{Frame}
use Rattle.pcm_feeder.specs.declared.section.Section.{Section}
use Rattle.pcm_feeder.specs.Limits.{IsSection}
use Rattle.pcm_feeder.specs.Sections.{weighed}
use Rattle.pcm_feeder.specs.Streams.{interleaved}
use Rattle.feed_eq.specs.declared.lane.Lane.{Lane}
use Rattle.feed_eq.specs.Added.{added}

-- samples are whole frames
pub record AreWholeFrames (channels : ℕ) (samples : List ℤ) : Type 0 where
  pub some : 0 < channels
  pub whole : length samples % channels ≡ 0

-- samples become those of frames, as many as before
pub record BecomeFrames (frames : List Frame) (old new : List ℤ) : Type 0 where
  pub len : length new ≡ length old
  pub samples : new ≡ interleaved frames

-- the channels of frames before one can be put through a section
pub record CanPass (section : Section) (channels to : ℕ) : Type 0 where
  pub limits : IsSection section
  pub there : to ≤ channels

-- the sample of a channel in frame k
abbrev pub sample_in : ℕ → List ℤ → ℕ → ℕ → ℤ
sample_in channels samples k channel = slice_index_or samples (k * channels + channel) (pos 0)

-- what a frame of inputs x and of outputs y adds to a later sum of its channel
abbrev pub added_by : ℕ → List ℤ → List ℤ → ℕ → ℕ → ℤ → ℤ → ℤ
added_by channels x y k channel b a =
    added b a (sample_in channels x k channel) (sample_in channels y k channel)

-- Inputs x and outputs y, each with the two frames before the first in front. What a channel adds
-- before frame k.
pub record IsLaneAt (section : Section) (channels : ℕ) (x y : List ℤ) (k channel : ℕ) (lane : Lane) : Type 0 where
  pub next : lane.next
      ≡ (added_by channels x y k channel section.b2 section.a2
      +ℤ added_by channels x y (k + 1) channel section.b1 section.a1)
  pub later : lane.later ≡ added_by channels x y (k + 1) channel section.b2 section.a2

-- the outputs are what a section makes of the inputs
pub record IsPassed (section : Section) (channels frames : ℕ) (x y : List ℤ) : Type 0 where
  pub each : (k channel : ℕ) → k < frames → channel < channels
      → sample_in channels y (k + 2) channel ≡ weighed section (sample_in channels x (k + 2) channel)
      (sample_in channels x (k + 1) channel) (sample_in channels x k channel)
      (sample_in channels y (k + 1) channel) (sample_in channels y k channel)

-- samples have the inputs of the channels from one on to another
pub record HoldsChannels (channels from to : ℕ) (x samples : List ℤ) : Type 0 where
  pub each : (k channel : ℕ) → k < length samples / channels → from ≤ channel → channel < to
      → sample_in channels samples k channel ≡ sample_in channels x (k + 2) channel

-- the outputs of those channels are put in their place up to a frame; all other samples stay
pub record PutsFrames (channels from to frames : ℕ) (y old new : List ℤ) : Type 0 where
  pub put : (k channel : ℕ) → k < frames → from ≤ channel → channel < to
      → sample_in channels new k channel ≡ sample_in channels y (k + 2) channel
  pub stay : (k channel : ℕ) → k < length old / channels → channel < channels
      → (frames ≤ k) ⊎ ((channel < from) ⊎ (to ≤ channel))
      → sample_in channels new k channel ≡ sample_in channels old k channel

-- and in all frames
abbrev pub PutsChannels : ℕ → ℕ → ℕ → List ℤ → List ℤ → List ℤ → Type 0
PutsChannels channels from to y old new =
    PutsFrames channels from to (length old / channels) y old new
