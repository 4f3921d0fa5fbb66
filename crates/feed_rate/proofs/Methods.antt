-- What holds of each method, case by case.
use Rattle.std.proofs.Common.{◌≡◌, ◌-◌, ◌*◌, ◌/◌, ℕ, ℤ, pos, ◌+ℤ◌, ◌*ℤ◌, List, ◌++◌, length, refl, sym, ap, ◌∙◌}
use Rattle.std.proofs.lemmas.List.Elements.{All-append}
use Rattle.std.proofs.lemmas.List.FromFn.{length-map-range_with_len}
use Rattle.std.proofs.lemmas.Simd.{length-zip2}
use Rattle.pcm_num.specs.Floor.{floor_div}
use Rattle.pcm_format.specs.Frames.{Frame}
use Rattle.pcm_rate.specs.declared.rate.Rate.{Rate}
use Rattle.pcm_feeder.specs.declared.pace.Pace.{Pace}
use Rattle.pcm_feeder.specs.declared.stage.Gain.{Gain}
use Rattle.pcm_feeder.specs.Filters.{Filters}
use Rattle.pcm_feeder.specs.Kept.{past_after}
use Rattle.pcm_feeder.specs.Limits.{HasTable}
use Rattle.pcm_feeder.specs.Pace.{rate_by}
use Rattle.pcm_feeder.specs.Stages.{rate_of, channels_in, channels_out, blended, filtered, table_at}
use Rattle.pcm_feeder.specs.Streams.{Stream, frames_of, stream_of, HaveChannels, moved_on}
use Rattle.pcm_feeder.specs.Turns.{frames_by}
use Rattle.pcm_feeder.proofs.Frames.{frames_of-channels}
use Rattle.pcm_feeder.proofs.Streams.{stream-channels}
use Rattle.feed_rate.specs.Methods.{Method, spec_of, channels_by, lookahead_by, converter_by, HasFilter}
use Rattle.feed_rate.specs.Methods.Method.{ByFrame, ByLine, ByFilter}
use Rattle.feed_rate.specs.Outputs.{around_place, next_frames}
use Rattle.feed_rate.specs.Feeders.{kept_at}

-- the spec has the method's channels, and gives as many
pub channels-are : (method : Method) (rate : Rate) → channels_in (spec_of method rate) ≡ channels_by method
channels-are (ByFrame channels) rate = refl
channels-are (ByLine channels) rate = refl
channels-are (ByFilter channels table taps) rate = refl

pub channels-given : (method : Method) (rate : Rate) → channels_out (spec_of method rate) ≡ channels_by method
channels-given (ByFrame channels) rate = refl
channels-given (ByLine channels) rate = refl
channels-given (ByFilter channels table taps) rate = refl

-- and its rate, which looks as far ahead as the method
pub rate-is : (method : Method) (rate : Rate) → rate.lookahead ≡ lookahead_by method → rate ≡ rate_of (spec_of method rate)
rate-is (ByFrame channels) rate level = ap (λ n. record { src = rate.src; dst = rate.dst; lookahead = n }) level
rate-is (ByLine channels) rate level = ap (λ n. record { src = rate.src; dst = rate.dst; lookahead = n }) level
rate-is (ByFilter channels table taps) rate level = ap (λ n. record { src = rate.src; dst = rate.dst; lookahead = n }) level

-- its filter is there where the method's is
pub filter-is : (method : Method) (rate : Rate) (tables : Filters) → HasTable (spec_of method rate) tables → HasFilter method tables
filter-is (ByFrame channels) rate tables has = has
filter-is (ByLine channels) rate tables has = has
filter-is (ByFilter channels table taps) rate tables has = has

-- what is kept of the past moves on
pub past-is : (method : Method) (rate : Rate) (tables : Filters) (tail eaten : List Frame) → past_after (spec_of method rate) tables tail eaten ≡ moved_on tail eaten
past-is (ByFrame channels) rate tables tail eaten = refl
past-is (ByLine channels) rate tables tail eaten = refl
past-is (ByFilter channels table taps) rate tables tail eaten = refl

-- the frames of a feed are the next ones
pub frames-are : (method : Method) (pace : Pace) (tail : List Frame) (tables : Filters) (gain : Gain) (input : List ℤ) (given : ℕ)
    → frames_by (spec_of method (rate_by pace)) (kept_at pace method tail) tables gain (frames_of (channels_by method) input) given ≡ next_frames method tables pace tail input given
frames-are (ByFrame channels) pace tail tables gain input given = refl
frames-are (ByLine channels) pace tail tables gain input given = refl
frames-are (ByFilter channels table taps) pace tail tables gain input given = refl

-- ---- an output has the channels of the frames around it

-- one on a line, those of its ends
length-blended : (dst f c : ℕ) (frame next : Frame) → length frame ≡ c → length next ≡ c → length (blended dst f frame next) ≡ c
length-blended dst f c frame next here there =
    length-zip2 (λ a b. floor_div (a *ℤ pos (dst - f) +ℤ b *ℤ pos f) dst) frame next (here ∙ sym there) ∙ here

pub output-channels : (method : Method) (tables : Filters) (dst parts : ℕ) (before : List Frame) (input : List ℤ) (place : ℤ) → HaveChannels (channels_by method) (before ++ frames_of (channels_by method) input)
    → length (converter_by method tables dst parts (around_place method before input place)) ≡ channels_by method
output-channels (ByFrame channels) tables dst parts before input place have = stream-channels channels (before ++ frames_of channels input) (place +ℤ pos 0) have
output-channels (ByLine channels) tables dst parts before input place have =
    let near : Stream = λ a. stream_of channels (before ++ frames_of channels input) (place +ℤ a) in
    length-blended dst parts channels (near (pos 0)) (near (pos 1))
    (stream-channels channels (before ++ frames_of channels input) (place +ℤ pos 0) have) (stream-channels channels (before ++ frames_of channels input) (place +ℤ pos 1) have)
output-channels (ByFilter channels table taps) tables dst parts before input place have =
    let filter = table_at tables table in
    length-map-range_with_len (filtered filter taps (parts * filter.phases / dst) (λ a. stream_of channels (before ++ frames_of channels input) (place +ℤ a))) 0 channels

-- frames that come after frames kept
pub all-channels : (c : ℕ) (before : List Frame) (input : List ℤ) → HaveChannels c before → HaveChannels c (before ++ frames_of c input)
all-channels c before input kept =
    let P : Frame → Type 0 = λ f. length f ≡ c in
    All-append P before (frames_of c input) kept (frames_of-channels c input)
