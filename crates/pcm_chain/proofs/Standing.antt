-- What a chain stands for: at the begin, and after more frames went through its stages.
use Rattle.std.proofs.Common.{◌≡◌, ◌<◌, ◌≤◌, ◌⊎◌, ◌+◌, ◌-◌, ℕ, List, [], ◌∷◌, ◌++◌, length, take, get_or, All, inl, inr, refl, sym, ap, ◌∙◌, subst, arith}
use Rattle.std.proofs.lemmas.Bool.{cases_lt}
use Rattle.std.proofs.lemmas.Int.{ints}
use Rattle.std.proofs.lemmas.List.{length-append, get_or_append_left, get_or-append_right}
use Rattle.std.proofs.lemmas.List.Elements.{All-nil, All-head, All-tail, All-cons, All-append}
use Rattle.std.proofs.lemmas.List.FromFn.{get_or-map-range_with_len}
use Rattle.pcm_format.specs.Frames.{Frame}
use Rattle.pcm_rate.proofs.Counts.{need_grows}
use Rattle.pcm_feeder.specs.declared.stage.Gain.{Gain}
use Rattle.pcm_feeder.specs.declared.stage.Spec.{Spec}
use Rattle.pcm_feeder.specs.Filters.{Filters}
use Rattle.pcm_feeder.specs.Kept.{Kept, fresh, StandsFor, IsFitted}
use Rattle.pcm_feeder.specs.Limits.{IsSpec}
use Rattle.pcm_feeder.specs.Stages.{rate_of, channels_in, channels_out, conv}
use Rattle.pcm_feeder.specs.Streams.{Stream, stream_of}
use Rattle.pcm_feeder.specs.Turns.{Turn, Continues}
use Rattle.pcm_feeder.proofs.Fitted.{StandsFor-fitted, fresh-stands}
use Rattle.pcm_feeder.proofs.Outputs.{dst-above, conv-local}
use Rattle.pcm_feeder.proofs.Streams.{stream-append}
use Rattle.pcm_chain.specs.declared.chain.ChainOf.{ChainOf}
use Rattle.pcm_chain.specs.Boxes.{kept_in}
use Rattle.pcm_chain.specs.Chains.{AreFitted, IsOutput, HasGiven, StagesStand, ChainStands}

-- ---- at the begin

-- boxes that were just fitted stand for no frames
pub fresh-stages : (keeps : Spec → Kept) (tables : Filters) (specs : List Spec) → All (λ spec. keeps spec ≡ fresh spec) specs → All IsSpec specs → StagesStand keeps tables specs [] 0
fresh-stages keeps tables [] are limits = refl
fresh-stages keeps tables (spec ∷ specs) are limits =
    let P : Spec → Type 0 = λ s. keeps s ≡ fresh s in (
      [],
      rw (All-head P spec specs are) (fresh-stands spec tables (All-head IsSpec spec specs limits)),
      record { channels = All-nil (λ (frame : Frame). length frame ≡ channels_out spec); frames = λ k other below. absurd (omega arith) },
      fresh-stages keeps tables specs (All-tail P spec specs are) (All-tail IsSpec spec specs limits),
    )

-- ---- what stands is fitted

stages-fitted : (keeps : Spec → Kept) (tables : Filters) (specs : List Spec) (x : List Frame) (given : ℕ) → All IsSpec specs → StagesStand keeps tables specs x given
    → All (λ spec. IsFitted spec (keeps spec)) specs
stages-fitted keeps tables [] x given limits h = All-nil (λ spec. IsFitted spec (keeps spec))
stages-fitted keeps tables (spec ∷ specs) x given limits h =
    All-cons (λ s. IsFitted s (keeps s)) spec specs
    (StandsFor-fitted spec tables (keeps spec) x (length h.0) (All-head IsSpec spec specs limits) h.1)
    (stages-fitted keeps tables specs h.0 given (All-tail IsSpec spec specs limits) h.3)

-- the stages of a chain that stands for frames have their boxes fitted to them
pub stands-fitted : {B : Type 0} (kept : B → Kept) (tables : Filters) (chain : ChainOf B) (x : List Frame) (silent given : ℕ) → ChainStands kept tables chain x silent given → AreFitted kept chain
stands-fitted kept tables chain x silent given h = stages-fitted (kept_in kept chain.boxes) tables chain.plan.stages _ given h.fits.specs h.stages

-- ---- after more frames

-- what a stage has given stays its output when it has eaten more
output-stays : (spec : Spec) (kept : Kept) (tables : Filters) (x more : List Frame) (given k : ℕ) (frame : Frame) → IsSpec spec → StandsFor spec tables kept x given → k < given
    → IsOutput spec tables (stream_of (channels_in spec) x) k frame → IsOutput spec tables (stream_of (channels_in spec) (x ++ more)) k frame
output-stays spec kept tables x more given k frame is h below output = (
  output.0,
  output.1 ∙ sym (conv-local spec tables output.0 (stream_of (channels_in spec) (x ++ more)) (stream_of (channels_in spec) x) k is
      (λ place within. stream-append (channels_in spec) x more place (omega (arith, ints, h.least, need_grows (rate_of spec) (k + 1) given (dst-above spec is) (omega arith))))),
)

-- and what it gives next is so too
pub given-grows : (spec : Spec) (kept : Kept) (tables : Filters) (gain : Gain) (x input middle : List Frame) (want : ℕ) (turned : Turn) → IsSpec spec → StandsFor spec tables kept x (length middle)
    → HasGiven spec tables x middle → Continues spec tables gain x (length middle) input want turned
    → HasGiven spec tables (x ++ take turned.eaten input) (middle ++ turned.frames)
given-grows spec kept tables gain x input middle want turned is h has goes = record {
  channels = All-append (λ (frame : Frame). length frame ≡ channels_out spec) middle turned.frames has.channels goes.channels;
  frames = λ k other below. given-at k other below (cases_lt k (length middle));
}
  where
    all : Stream
    all = stream_of (channels_in spec) (x ++ take turned.eaten input)

    given-at : (k : ℕ) (other : Frame) → k < length (middle ++ turned.frames) → (k < length middle) ⊎ (length middle ≤ k)
        → IsOutput spec tables all k (get_or (middle ++ turned.frames) k other)
    given-at k other below (inl early) =
        let P : Frame → Type 0 = IsOutput spec tables all k in
        subst P (sym (get_or_append_left middle turned.frames other k early))
        (output-stays spec kept tables x (take turned.eaten input) (length middle) k (get_or middle k other) is h early (has.frames k other early))
    given-at k other below (inr late) = (
      gain,
      get_or-append_right middle turned.frames (length middle) k other refl late
          ∙ ap (λ list. get_or list (k - length middle) other) goes.frames
          ∙ get_or-map-range_with_len (conv spec tables gain all) (length middle) turned.given (k - length middle) k other (omega (arith, length-append middle turned.frames, goes.count)) (omega arith),
    )
