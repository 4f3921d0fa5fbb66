-- What comes out of stages: it uses only the frames that the counts name, and has the channels of the last stage.
use Rattle.std.proofs.Common.{get_or, ◌≡◌, ◌<◌, ◌≤◌, ◌+◌, ℕ, ℤ, pos, negsuc, ◌<ℤ◌, List, [], ◌∷◌, ◌++◌, length, map, refl, sym, ap, ◌∙◌, arith}
use Rattle.std.specs.Prelude.{All}
use Rattle.std.specs.List.{range_with_len}
use Rattle.std.proofs.Math.Path.{fun_ext}
use Rattle.std.proofs.lemmas.Int.{ints}
use Rattle.std.proofs.lemmas.List.{length-replicate}
use Rattle.std.proofs.lemmas.List.FromFn.{length-map-range_with_len}
use Rattle.std.proofs.lemmas.List.Elements.{All-head, All-tail, All-map}
use Rattle.pcm_format.specs.Frames.{Frame}
use Rattle.pcm_format.specs.Layouts.{channels_of}
use Rattle.pcm_format.proofs.Ranges.{map-range-same, map-range-shift, map-range-add}
use Rattle.pcm_rate.specs.Rates.{need, can}
use Rattle.pcm_rate.proofs.Counts.{can-greatest, need_grows, need-unchanged}
use Rattle.pcm_feeder.specs.declared.stage.Gain.{Gain}
use Rattle.pcm_feeder.specs.declared.stage.Spec.{Spec}
use Rattle.pcm_feeder.specs.declared.stage.Spec.TheVariants.{Matrix, Hold, Linear, Poly, Volume, Depth, Eq}
use Rattle.pcm_feeder.specs.Filters.{Filters}
use Rattle.pcm_feeder.specs.Limits.{IsSpec}
use Rattle.pcm_feeder.specs.Stages.{rate_of, channels_out, all_outputs}
use Rattle.pcm_feeder.specs.Streams.{Stream, stream_of, HaveChannels}
use Rattle.pcm_feeder.proofs.Outputs.{conv-local, dst-above}
use Rattle.pcm_feeder.proofs.Streams.{stream-append, stream-channels}
use Rattle.pcm_feeder.proofs.Turns.{length-conv}
use Rattle.pcm_plan.specs.Fits.{Follow, IsUnrated, HaveOneRate, IsPlan}
use Rattle.pcm_plan.specs.Plans.{PlanSeen, rate_among, rate_in_plan}
use Rattle.pcm_plan.specs.Through.{through, out, outs}
use Rattle.pcm_plan.proofs.Fits.{ratio-in}

-- streams that are the same at each place stay the same
pub through-same : (tables : Filters) (gain : Gain) (specs : List Spec) (x y : Stream) → ((place : ℤ) → x place ≡ y place)
    → (place : ℤ) → through tables gain specs x place ≡ through tables gain specs y place
through-same tables gain specs x y same place = ap (λ (stream : Stream). through tables gain specs stream place) (fun_ext same)

-- ---- the frames that an output uses

-- how many frames c outputs of all stages use
abbrev pub need_through : List Spec → ℕ → ℕ
need_through [] c = c
need_through (spec ∷ specs) c = need (rate_of spec) (need_through specs c)

-- streams that agree on them give the same outputs
pub through-local : (tables : Filters) (gain : Gain) (specs : List Spec) (x y : Stream) (c : ℕ) → All IsSpec specs
    → ((place : ℤ) → place <ℤ pos (need_through specs c) → x place ≡ y place)
    → (place : ℤ) → place <ℤ pos c → through tables gain specs x place ≡ through tables gain specs y place
through-local tables gain [] x y c are same place below = same place below
through-local tables gain (spec ∷ specs) x y c are same place below =
    let is = All-head IsSpec spec specs are in
    through-local tables gain specs (all_outputs spec tables gain x) (all_outputs spec tables gain y) c (All-tail IsSpec spec specs are) (λ at within. agree is at within) place below
  where
    agree : IsSpec spec → (at : ℤ) → at <ℤ pos (need_through specs c) → all_outputs spec tables gain x at ≡ all_outputs spec tables gain y at
    agree is (pos k) within =
        let first : k + 1 ≤ need_through specs c = omega (arith, ints) in
        let grows = need_grows (rate_of spec) (k + 1) (need_through specs c) (dst-above spec is) first in
        conv-local spec tables gain x y k is (λ before least. same before (omega (arith, ints)))
    agree is (negsuc k) within = refl

need_through-unrated : (specs : List Spec) (c : ℕ) → All IsUnrated specs → need_through specs c ≡ c
need_through-unrated [] c all = refl
need_through-unrated (spec ∷ specs) c all =
    ap (need (rate_of spec)) (need_through-unrated specs c (All-tail IsUnrated spec specs all)) ∙ ap (λ rate. need rate c) (All-head IsUnrated spec specs all) ∙ need-unchanged c

-- that is what the one rate of the stages needs
pub need_through-rate : (specs : List Spec) (c : ℕ) → HaveOneRate specs → need_through specs c ≡ need (rate_among specs) c
need_through-rate [] c one = sym (need-unchanged c)
need_through-rate (Matrix from to ∷ specs) c one = need-unchanged (need_through specs c) ∙ need_through-rate specs c one
need_through-rate (Hold src dst channels ∷ specs) c one = ap (need (rate_of (Hold src dst channels))) (need_through-unrated specs c one)
need_through-rate (Linear src dst channels ∷ specs) c one = ap (need (rate_of (Linear src dst channels))) (need_through-unrated specs c one)
need_through-rate (Poly src dst channels table taps ∷ specs) c one = ap (need (rate_of (Poly src dst channels table taps))) (need_through-unrated specs c one)
need_through-rate (Volume layout ∷ specs) c one = need-unchanged (need_through specs c) ∙ need_through-rate specs c one
need_through-rate (Depth bits channels ∷ specs) c one = need-unchanged (need_through specs c) ∙ need_through-rate specs c one
need_through-rate (Eq channels sections ∷ specs) c one = need-unchanged (need_through specs c) ∙ need_through-rate specs c one

-- an output that frames allow is the same when more follow them
pub out-append : (plan : PlanSeen) (tables : Filters) (frames more : List Frame) (k : ℕ) (gain : Gain) → IsPlan plan → k < can (rate_in_plan plan) (length frames)
    → out plan tables (frames ++ more) k gain ≡ out plan tables frames k gain
out-append plan tables frames more k gain is allowed =
    let c = channels_of plan.source in
    let rate = rate_in_plan plan in
    let ratio = ratio-in plan is in
    let first : k + 1 ≤ can rate (length frames) = omega arith in
    let fits : need rate (k + 1) ≤ length frames = (can-greatest rate ratio.src ratio.dst (k + 1) (length frames)).1 first in
    through-local tables gain plan.stages (stream_of c (frames ++ more)) (stream_of c frames) (k + 1) is.specs
    (λ place below. stream-append c frames more place (omega (arith, ints, need_through-rate plan.stages (k + 1) is.one_rate))) (pos k) (omega (arith, ints))

-- so are several
pub outs-append : (plan : PlanSeen) (tables : Filters) (gain : Gain) (frames more : List Frame) (from count : ℕ) → IsPlan plan → from + count ≤ can (rate_in_plan plan) (length frames)
    → outs plan tables gain (frames ++ more) from count ≡ outs plan tables gain frames from count
outs-append plan tables gain frames more from count is allowed =
    let none : from + 0 ≡ from = omega arith in
    let before : ℕ → Frame = λ (k : ℕ). out plan tables (frames ++ more) k gain in
    let after : ℕ → Frame = λ (k : ℕ). out plan tables frames k gain in
    ap (λ s. map before (range_with_len s count)) (sym none)
    ∙ sym (map-range-shift before from 0 count)
    ∙ map-range-same (λ j. before (from + j)) (λ j. after (from + j)) count (λ j below. out-append plan tables frames more (from + j) gain is (omega arith))
    ∙ map-range-shift after from 0 count
    ∙ ap (λ s. map after (range_with_len s count)) none

-- frames given in two parts
pub outs-add : (plan : PlanSeen) (tables : Filters) (gain : Gain) (frames : List Frame) (from n m : ℕ)
    → outs plan tables gain frames from (n + m) ≡ outs plan tables gain frames from n ++ outs plan tables gain frames (from + n) m
outs-add plan tables gain frames from n m = map-range-add (λ k. out plan tables frames k gain) from n m

-- ---- channels

-- a stream through stages has the channels of the last one
through-channels : (tables : Filters) (gain : Gain) (specs : List Spec) (x : Stream) (c d : ℕ) → Follow c specs d → ((place : ℤ) → length (x place) ≡ c)
    → (place : ℤ) → length (through tables gain specs x place) ≡ d
through-channels tables gain [] x c d follow have place = have place ∙ follow
through-channels tables gain (spec ∷ specs) x c d follow have place =
    through-channels tables gain specs (all_outputs spec tables gain x) (channels_out spec) d follow.1 (λ at. given at) place
  where
    given : (at : ℤ) → length (all_outputs spec tables gain x at) ≡ channels_out spec
    given (pos k) = length-conv spec tables gain x k (λ at. have at ∙ sym follow.0)
    given (negsuc k) = length-replicate (channels_out spec) (pos 0)

-- a frame that a plan gives has the channels of its target
pub length-out : (plan : PlanSeen) (tables : Filters) (frames : List Frame) (k : ℕ) (gain : Gain) → IsPlan plan → HaveChannels (channels_of plan.source) frames
    → length (out plan tables frames k gain) ≡ channels_of plan.target
length-out plan tables frames k gain is have =
    let c = channels_of plan.source in
    through-channels tables gain plan.stages (stream_of c frames) c (channels_of plan.target) is.follow (λ place. stream-channels c frames place have) (pos k)

pub outs-channels : (plan : PlanSeen) (tables : Filters) (gain : Gain) (frames : List Frame) (from count : ℕ) → IsPlan plan → HaveChannels (channels_of plan.source) frames
    → HaveChannels (channels_of plan.target) (outs plan tables gain frames from count)
outs-channels plan tables gain frames from count is have =
    All-map (λ (frame : Frame). length frame ≡ channels_of plan.target) (λ k. out plan tables frames k gain) (range_with_len from count)
    (λ i d below. length-out plan tables frames (get_or (range_with_len from count) i d) gain is have)

-- and there are as many as were asked for
pub length-outs : (plan : PlanSeen) (tables : Filters) (gain : Gain) (frames : List Frame) (from count : ℕ) → length (outs plan tables gain frames from count) ≡ count
length-outs plan tables gain frames from count = length-map-range_with_len (λ k. out plan tables frames k gain) from count
