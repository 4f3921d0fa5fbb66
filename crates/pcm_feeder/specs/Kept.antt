-- What a feeder keeps between two feeds, and the frames that it stands for.
use Rattle.std.specs.Prelude.{◌≡◌, ◌≤◌, ℕ, ◌+◌, ◌-◌, ◌*◌, ◌/◌, ◌%◌, max, ℤ, pos, neg_ℤ, ◌+ℤ◌, ◌≤ℤ◌, List, [], length, replicate, Option, Some, None, IsSomeAnd}
use Rattle.pcm_format.specs.Frames.{Frame}
use Rattle.pcm_feeder.specs.declared.stage.Progress.{Progress}
use Rattle.pcm_feeder.specs.declared.stage.Spec.{Spec}
use Rattle.pcm_feeder.specs.declared.stage.Spec.TheVariants.{Hold, Linear, Poly, Eq}
use Rattle.pcm_feeder.specs.Filters.{Filters}
use Rattle.pcm_rate.specs.Rates.{unchanged, need}
use Rattle.pcm_feeder.specs.Fractions.{IsPhase}
use Rattle.pcm_feeder.specs.Limits.{IsSpec}
use Rattle.pcm_feeder.specs.Streams.{silence, frames_of, interleaved, HaveChannels, last_frames, moved_on}
use Rattle.pcm_feeder.specs.Sections.{sections_of, past_of_sections, past_behind}
use Rattle.pcm_feeder.specs.Stages.{rate_of, channels_in, history}

-- The next output lies `phase` parts of dst past the input frame under it. From that frame on
-- `ahead` frames were eaten; it may be below zero. `tail` is what is kept of the past.
pub record Kept : Type 0 where
  pub spec : Option Spec
  pub phase : ℕ
  pub ahead : ℤ
  pub tail : List Frame

-- a feeder that nothing was fitted to
abbrev pub unfitted : Kept
unfitted = record { spec = None; phase = 0; ahead = pos 0; tail = [] }

-- a feeder at the begin of a stream
abbrev pub fresh : Spec → Kept
fresh spec = record {
  spec = Some spec;
  phase = 0;
  ahead = pos 0;
  tail = replicate (history spec) (silence (channels_in spec));
}

-- what a stage keeps of the past, after it has eaten the frames x
abbrev pub past : Spec → Filters → List Frame → List Frame
past (Hold src dst channels) tables x = last_frames channels 1 x
past (Linear src dst channels) tables x = last_frames channels 2 x
past (Poly src dst channels table taps) tables x = last_frames channels taps x
past (Eq channels sections) tables x = past_of_sections channels (sections_of tables sections) x
past _ tables x = []

-- what a stage keeps of the past, out of what it kept before and the frames eaten since
abbrev pub past_after : Spec → Filters → List Frame → List Frame → List Frame
past_after (Hold src dst channels) tables tail eaten = moved_on tail eaten
past_after (Linear src dst channels) tables tail eaten = moved_on tail eaten
past_after (Poly src dst channels table taps) tables tail eaten = moved_on tail eaten
past_after (Eq channels sections) tables tail eaten =
    past_behind channels (sections_of tables sections) tail eaten
past_after _ tables tail eaten = []

-- a feeder that has eaten the frames x and given `given` frames, all with these tables
pub record StandsFor (spec : Spec) (tables : Filters) (kept : Kept) (x : List Frame) (given : ℕ)
    : Type 0 where
  pub fitted : kept.spec ≡ Some spec
  pub phase : kept.phase ≡ given * (rate_of spec).src % (rate_of spec).dst
  pub ahead : kept.ahead +ℤ pos (given * (rate_of spec).src / (rate_of spec).dst) ≡ pos (length x)
  pub least : need (rate_of spec) given ≤ length x
  pub most : length x ≤ max (need (rate_of spec) given) (need (rate_of spec) (given + 1) - 1)
  pub tail : kept.tail ≡ past spec tables x
  pub frames : HaveChannels (channels_in spec) x

-- the bounds of what a fitted feeder keeps, however long the stream
pub record IsFitted (spec : Spec) (kept : Kept) : Type 0 where
  pub fitted : kept.spec ≡ Some spec
  pub phase : IsPhase (rate_of spec) kept.phase
  pub least : neg_ℤ (pos ((rate_of spec).src / (rate_of spec).dst)) ≤ℤ kept.ahead
  pub most : kept.ahead ≤ℤ pos (1 + (rate_of spec).lookahead)
  pub unrated : rate_of spec ≡ unchanged → kept.ahead ≡ pos 0
  pub count : length kept.tail ≡ history spec
  pub frames : HaveChannels (channels_in spec) kept.tail

-- ---- going on elsewhere

-- what is kept can be copied into samples: it is within its bounds, and they are as many as its frames have
pub record CanCopy (spec : Spec) (kept : Kept) (samples : List ℤ) : Type 0 where
  pub limits : IsSpec spec
  pub fitted : IsFitted spec kept
  pub room : length samples ≡ history spec * channels_in spec

-- so can what a fitted feeder keeps
abbrev pub CanBeKept : Kept → List ℤ → Type 0
CanBeKept kept samples = IsSomeAnd kept.spec (λ spec. CanCopy spec kept samples)

-- this progress and these samples are what is kept
pub record IsKeptAs (kept : Kept) (progress : Progress) (samples : List ℤ) : Type 0 where
  pub phase : progress.phase ≡ kept.phase
  pub ahead : progress.ahead ≡ kept.ahead
  pub tail : samples ≡ interleaved kept.tail

-- a feeder that is so far and keeps these samples
abbrev pub resumed : Spec → Progress → List ℤ → Kept
resumed spec progress samples = record {
  spec = Some spec;
  phase = progress.phase;
  ahead = progress.ahead;
  tail = frames_of (channels_in spec) samples;
}

-- a feeder can go on so: as many samples as its frames have, and all of it within its bounds
pub record CanResume (spec : Spec) (progress : Progress) (samples : List ℤ) : Type 0 where
  pub limits : IsSpec spec
  pub size : length samples ≡ history spec * channels_in spec
  pub fitted : IsFitted spec (resumed spec progress samples)
