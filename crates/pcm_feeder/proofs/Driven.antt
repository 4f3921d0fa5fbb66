-- What a caller that drives one stage after another needs: buffers with frames at their front, and stages that follow each other.
use Rattle.std.proofs.Common.{◌≡◌, ◌≤◌, ◌<◌, ◌+◌, ◌*◌, ◌%◌, ℕ, ℤ, pos, negsuc, ◌<ℤ◌, List, ◌++◌, length, take, drop, map, get_or, refl, sym, ap, ◌∙◌, arith}
use Rattle.std.proofs.Math.Nat.{mul-le-mul_right, mul-mod_left}
use Rattle.std.proofs.lemmas.Int.{ints}
use Rattle.std.proofs.lemmas.List.{length-append, length-take-le, take_at}
use Rattle.std.proofs.Math.ListN.{get_or-map}
use Rattle.std.proofs.lemmas.List.FromFn.{get_or-map-range_with_len}
use Rattle.pcm_format.specs.declared.layout.Layout.{Layout}
use Rattle.pcm_format.specs.Layouts.{channels_of}
use Rattle.pcm_format.specs.Frames.{Frame}
use Rattle.pcm_format.proofs.Streams.{channels_of-above}
use Rattle.pcm_feeder.specs.declared.stage.Gain.{Gain}
use Rattle.pcm_feeder.specs.declared.stage.Spec.{Spec}
use Rattle.pcm_feeder.specs.declared.stage.Spec.TheVariants.{Matrix, Hold, Linear, Poly, Volume, Depth, Eq}
use Rattle.pcm_feeder.specs.Filters.{Filters}
use Rattle.pcm_feeder.specs.Kept.{Kept, StandsFor}
use Rattle.pcm_feeder.specs.Limits.{IsSpec}
use Rattle.pcm_rate.specs.Rates.{need, unchanged}
use Rattle.pcm_feeder.specs.Streams.{Stream, silence, stream_of, frames_of, interleaved, written, HaveChannels}
use Rattle.pcm_feeder.specs.Layouts.{in_layout, at_gain}
use Rattle.pcm_feeder.specs.Stages.{rate_of, channels_in, channels_out, at_bits, conv, outputs, all_outputs}
use Rattle.pcm_feeder.specs.Turns.{Turn, Continues}
use Rattle.pcm_rate.proofs.Counts.{need-unchanged}
use Rattle.pcm_feeder.proofs.Frames.{frames_of-interleaved, length-interleaved}
use Rattle.pcm_feeder.proofs.Outputs.{outputs-add, outputs-local}
use Rattle.pcm_feeder.proofs.Silence.{in_layout-silence, at_gain-silence, at_bits-silence}
use Rattle.pcm_feeder.proofs.Streams.{stream-append}
use Rattle.pcm_feeder.proofs.Turns.{given-unchanged}
use Rattle.pcm_feeder.proofs.Unrated.{conv-matrix, conv-volume, conv-depth}

-- ---- buffers

-- a stage has channels
pub channels_in-above : (spec : Spec) → IsSpec spec → 0 < channels_in spec
channels_in-above (Matrix from to) is = channels_of-above from
channels_in-above (Hold src dst channels) is = omega (arith, is.within.least)
channels_in-above (Linear src dst channels) is = omega (arith, is.within.least)
channels_in-above (Poly src dst channels table taps) is = omega (arith, is.change.within.least)
channels_in-above (Volume layout) is = channels_of-above layout
channels_in-above (Depth bits channels) is = omega (arith, is.within.least)
channels_in-above (Eq channels sections) is = omega (arith, is.within.least)

-- the front of a buffer that has room for more frames is whole frames
pub whole-front : (n room c : ℕ) (samples : List ℤ) → n ≤ room → room * c ≤ length samples → length (take (n * c) samples) % c ≡ 0
whole-front n room c samples within has =
    let fits = mul-le-mul_right {m = n} {n = room} c within in
    ap (λ k. k % c) (length-take-le (n * c) samples (omega arith)) ∙ mul-mod_left n c

-- the front of a buffer that frames were written to is these frames
pub frames-written : (c n : ℕ) (frames : List Frame) (old : List ℤ) → 0 < c → HaveChannels c frames → length frames ≡ n
    → frames_of c (take (n * c) (written frames old)) ≡ frames
frames-written c n frames old above have count =
    let long : length (interleaved frames) ≡ n * c = length-interleaved c frames have ∙ ap (λ k. k * c) count in
    ap (frames_of c) (take_at (interleaved frames) (drop (length (interleaved frames)) old) (n * c) long)
    ∙ frames_of-interleaved c frames above have

-- ---- stages

-- what a stage has given stays its output when more was eaten
pub outputs-stay : (spec : Spec) (kept : Kept) (tables : Filters) (gain : Gain) (x more : List Frame) (given : ℕ) → IsSpec spec → StandsFor spec tables kept x given
    → outputs spec tables gain (stream_of (channels_in spec) (x ++ more)) 0 given ≡ outputs spec tables gain (stream_of (channels_in spec) x) 0 given
outputs-stay spec kept tables gain x more given is h =
    let none : 0 + given ≡ given = omega arith in
    outputs-local spec tables gain (stream_of (channels_in spec) (x ++ more)) (stream_of (channels_in spec) x) 0 given is
    (λ place below. stream-append (channels_in spec) x more place (omega (arith, ints, h.least, ap (need (rate_of spec)) none)))

-- so what it gives next goes on from there
pub outputs-continue : (spec : Spec) (kept : Kept) (tables : Filters) (gain : Gain) (x middle input : List Frame) (want : ℕ) (turned : Turn) → IsSpec spec → StandsFor spec tables kept x (length middle)
    → middle ≡ outputs spec tables gain (stream_of (channels_in spec) x) 0 (length middle)
    → Continues spec tables gain x (length middle) input want turned
    → middle ++ turned.frames ≡ outputs spec tables gain (stream_of (channels_in spec) (x ++ take turned.eaten input)) 0 (length (middle ++ turned.frames))
outputs-continue spec kept tables gain x middle input want turned is h are c =
    let all = stream_of (channels_in spec) (x ++ take turned.eaten input) in
    let start : length middle ≡ 0 + length middle = omega arith in
    let long : length middle + turned.given ≡ length (middle ++ turned.frames) = omega (arith, length-append middle turned.frames, c.count) in
    ap (λ list. list ++ turned.frames) (are ∙ sym (outputs-stay spec kept tables gain x (take turned.eaten input) (length middle) is h))
    ∙ ap (λ list. outputs spec tables gain all 0 (length middle) ++ list) c.frames
    ∙ ap (λ s. outputs spec tables gain all 0 (length middle) ++ outputs spec tables gain all s turned.given) start
    ∙ sym (outputs-add spec tables gain all 0 (length middle) turned.given)
    ∙ ap (outputs spec tables gain all 0) long

-- a stage without a change of rate eats all that it is offered, where as much is wanted
pub eaten-unchanged : (spec : Spec) (kept : Kept) (tables : Filters) (gain : Gain) (x input : List Frame) (given want : ℕ) (turned : Turn) → rate_of spec ≡ unchanged → StandsFor spec tables kept x given
    → Continues spec tables gain x given input want turned → length input ≤ want → turned.eaten ≡ length input
eaten-unchanged spec kept tables gain x input given want turned level h c room =
    let same = given-unchanged spec tables kept x given level h in
    let all = ap (λ r. need r (given + want)) level ∙ need-unchanged (given + want) in
    omega (arith, same, c.eaten, all)

-- ---- streams of outputs

-- a list of all outputs up to a count is the stage's stream up to there
pub stream_of-outputs : (spec : Spec) (tables : Filters) (gain : Gain) (x : Stream) (n : ℕ) (place : ℤ) → place <ℤ pos n
    → stream_of (channels_out spec) (outputs spec tables gain x 0 n) place ≡ all_outputs spec tables gain x place
stream_of-outputs spec tables gain x n (pos k) below = get_or-map-range_with_len (conv spec tables gain x) 0 n k k (silence (channels_out spec)) (omega (arith, ints)) (omega arith)
stream_of-outputs spec tables gain x n (negsuc k) below = refl

-- a function of each frame that keeps silence, on a list of frames
stream-map : (c d : ℕ) (f : Frame → Frame) (list : List Frame) (place : ℤ) → f (silence c) ≡ silence d → f (stream_of c list place) ≡ stream_of d (map f list) place
stream-map c d f list (negsuc k) keeps = keeps
stream-map c d f list (pos k) keeps =
    sym (get_or-map f list k (silence c)) ∙ ap (get_or (map f list) k) keeps

-- a stage without a change of rate over a list of frames is a list of frames
pub all_outputs-matrix : (from to : Layout) (tables : Filters) (gain : Gain) (list : List Frame) (place : ℤ)
    → all_outputs (Matrix from to) tables gain (stream_of (channels_of from) list) place ≡ stream_of (channels_of to) (map (in_layout from to) list) place
all_outputs-matrix from to tables gain list (negsuc k) = refl
all_outputs-matrix from to tables gain list (pos k) =
    conv-matrix from to tables gain (stream_of (channels_of from) list) k ∙ stream-map (channels_of from) (channels_of to) (in_layout from to) list (pos k) (in_layout-silence from to)

pub all_outputs-volume : (layout : Layout) (tables : Filters) (gain : Gain) (list : List Frame) (place : ℤ)
    → all_outputs (Volume layout) tables gain (stream_of (channels_of layout) list) place ≡ stream_of (channels_of layout) (map (at_gain layout gain) list) place
all_outputs-volume layout tables gain list (negsuc k) = refl
all_outputs-volume layout tables gain list (pos k) =
    conv-volume layout tables gain (stream_of (channels_of layout) list) k ∙ stream-map (channels_of layout) (channels_of layout) (at_gain layout gain) list (pos k) (at_gain-silence layout gain)

pub all_outputs-depth : (bits channels : ℕ) (tables : Filters) (gain : Gain) (list : List Frame) (place : ℤ)
    → all_outputs (Depth bits channels) tables gain (stream_of channels list) place ≡ stream_of channels (map (at_bits bits) list) place
all_outputs-depth bits channels tables gain list (negsuc k) = refl
all_outputs-depth bits channels tables gain list (pos k) =
    conv-depth bits channels tables gain (stream_of channels list) k ∙ stream-map channels channels (at_bits bits) list (pos k) (at_bits-silence bits channels)
