-- What stages that are fed one after another make of frames.
use Rattle.std.specs.Prelude.{◌≡◌, ◌≤◌, ℕ, ◌*◌, ℤ, List, [], ◌∷◌, length, take}
use Rattle.pcm_format.specs.Frames.{Frame}
use Rattle.pcm_feeder.specs.declared.stage.Gain.{Gain}
use Rattle.pcm_feeder.specs.declared.stage.Spec.{Spec}
use Rattle.pcm_feeder.specs.declared.stage.Spec.TheVariants.{Hold, Linear, Poly}
use Rattle.pcm_feeder.specs.Filters.{Filters}
use Rattle.pcm_feeder.specs.Kept.{Kept, IsFitted}
use Rattle.pcm_feeder.specs.Limits.{IsGain, IsSpec, HasTable}
use Rattle.pcm_feeder.specs.Streams.{frames_of, written}
use Rattle.pcm_feeder.specs.Turns.{Turn, turn, fed}
use Rattle.pcm_feeder.specs.Stages.{channels_in, channels_out}
use Rattle.pcm_feeder.specs.declared.rack.SevenOf.{SevenOf}
use Rattle.pcm_sequence.specs.Fixed.{fixed_items}
use Rattle.pcm_plan.specs.Fits.{Follow, HaveBits}
use Rattle.pcm_chain.specs.declared.staging.Staging.{Staging}
use Rattle.pcm_chain.specs.Bits.{bits_left}
use Rattle.pcm_chain.specs.Boxes.{kept_in}

-- the first n frames of samples
abbrev pub first_frames : ℕ → ℕ → List ℤ → List Frame
first_frames n channels samples = frames_of channels (take (n * channels) samples)

-- the first n frames of a staging
abbrev pub first_staged : ℕ → ℕ → Staging → List Frame
first_staged n channels staging = first_frames n channels (fixed_items staging.now)

-- how many frames a stage is asked for: a converter for those that are wanted, another for as many as it is offered
abbrev pub asked : Spec → ℕ → ℕ → ℕ
asked (Hold src dst channels) want offered = want
asked (Linear src dst channels) want offered = want
asked (Poly src dst channels table taps) want offered = want
asked _ want offered = offered

-- what a stage does that is offered frames
abbrev pub turn_in : (Spec → Kept) → Filters → Gain → ℕ → Spec → List Frame → Turn
turn_in keeps tables gain want spec input = turn (keeps spec) tables gain input (asked spec want (length input))

-- a feed of the first n samples' frames to the box of a stage
abbrev pub fed_in : {B : Type 0} → (B → Kept) → SevenOf B → Spec → Filters → Gain → ℕ → ℕ → List ℤ → Turn
fed_in kept boxes spec tables gain n want input =
    fed (kept_in kept boxes spec) tables gain (take (n * channels_in spec) input) (asked spec want n)

-- what such a feed asks: a stage within its limits, its box fitted to it, its table, the frames, and room for those that it is asked for
pub record CanFeedIn {B : Type 0} (kept : B → Kept) (boxes : SevenOf B) (spec : Spec) (tables : Filters) (gain : Gain)
    (n want : ℕ) (input output : List ℤ) : Type 0 where
  pub limits : IsSpec spec
  pub fitted : IsFitted spec (kept_in kept boxes spec)
  pub gain_limits : IsGain gain
  pub filter : HasTable spec tables
  pub source : n * channels_in spec ≤ length input
  pub room : asked spec want n * channels_out spec ≤ length output

-- the frames that come out of stages, each offered what the one before it gives
abbrev pub fed_through : (Spec → Kept) → Filters → Gain → ℕ → List Spec → List Frame → List Frame
fed_through keeps tables gain want [] input = input
fed_through keeps tables gain want (spec ∷ specs) input =
    fed_through keeps tables gain want specs (turn_in keeps tables gain want spec input).frames

-- and what each of them keeps then
abbrev pub AreFed : (Spec → Kept) → (Spec → Kept) → Filters → Gain → ℕ → List Spec → List Frame → Type 0
AreFed old new tables gain want [] input = Unit {0}
AreFed old new tables gain want (spec ∷ specs) input =
    (new spec ≡ (turn_in old tables gain want spec input).kept)
    × AreFed old new tables gain want specs (turn_in old tables gain want spec input).frames

-- Frames went through stages: each keeps what it does then, and `count` frames came out, of as many bits as
-- these leave, and stand at the front of an output.
pub record GoneThrough (old new : Spec → Kept) (tables : Filters) (gain : Gain) (want : ℕ)
    (stages : List Spec) (input : List Frame) (count : ℕ) (before after : List ℤ) : Type 0 where
  pub fed : AreFed old new tables gain want stages input
  pub given : count ≡ length (fed_through old tables gain want stages input)
  pub bits : HaveBits (bits_left stages) (fed_through old tables gain want stages input)
  pub out : after ≡ written (fed_through old tables gain want stages input) before

-- stages that take frames of `source` channels, and whose last one has room for `want` frames
pub record HaveRoom (source : ℕ) (specs : List Spec) (want room : ℕ) : Type 0 where
  pub target : ℕ
  pub follow : Follow source specs target
  pub room_is : want * target ≤ room
