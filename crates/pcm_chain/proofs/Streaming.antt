-- What stages stand for after a block went through them, and what it gave.
use Rattle.std.proofs.Common.{◌≡◌, ◌≢◌, ◌≤◌, ◌<◌, ◌+◌, ℕ, ℤ, pos, negsuc, ◌<ℤ◌, List, [], ◌∷◌, ◌++◌, length, take, get_or, All, refl, sym, ap, ◌∙◌, subst, arith}
use Rattle.std.proofs.lemmas.Int.{ints}
use Rattle.std.proofs.lemmas.List.{take_all, length-append, get_or-append-add}
use Rattle.std.proofs.lemmas.List.Elements.{All-head, All-tail, All-weaker}
use Rattle.std.proofs.lemmas.List.FromFn.{get_or-map-range_with_len}
use Rattle.pcm_format.specs.Frames.{Frame}
use Rattle.pcm_rate.specs.declared.rate.Rate.{Rate}
use Rattle.pcm_rate.specs.Rates.{can, unchanged, IsRatio}
use Rattle.pcm_rate.proofs.Counts.{can-greatest}
use Rattle.pcm_feeder.specs.declared.kind.Kind.TheVariants as kinds
use Rattle.pcm_feeder.specs.declared.stage.Gain.{Gain}
use Rattle.pcm_feeder.specs.declared.stage.Spec.{Spec}
use Rattle.pcm_feeder.specs.declared.stage.Spec.TheVariants.{Matrix, Hold, Linear, Poly, Volume, Depth, Eq}
use Rattle.pcm_feeder.specs.Filters.{Filters}
use Rattle.pcm_feeder.specs.Kept.{Kept, StandsFor}
use Rattle.pcm_feeder.specs.Kinds.{kind_of}
use Rattle.pcm_feeder.specs.Layouts.{in_layout, at_gain}
use Rattle.pcm_feeder.specs.Limits.{IsSpec}
use Rattle.pcm_feeder.specs.Stages.{channels_in, channels_out, at_bits, conv, all_outputs}
use Rattle.pcm_feeder.specs.Streams.{Stream, silence, stream_of, HaveChannels}
use Rattle.pcm_feeder.specs.Turns.{Turn, Continues}
use Rattle.pcm_feeder.proofs.Outputs.{conv-gain, src-above, dst-above}
use Rattle.pcm_feeder.proofs.Turns.{turn-continues}
use Rattle.pcm_feeder.proofs.Unrated.{conv-matrix, conv-volume, conv-depth}
use Rattle.pcm_plan.specs.Plans.{rate_among}
use Rattle.pcm_plan.specs.Fits.{Follow, IsUnrated, HaveOneRate, TurnsEach, GainIsLate}
use Rattle.pcm_plan.specs.Through.{through}
use Rattle.pcm_plan.proofs.Through.{through-local, need_through-rate}
use Rattle.pcm_chain.specs.Chains.{HasGiven, StagesStand}
use Rattle.pcm_chain.specs.Feeds.{asked, turn_in, fed_through, AreFed}
use Rattle.pcm_chain.proofs.Far.{stands-far, stages-far, stages-level, rate-unrated, level-asks, Asks, HeadFar, head-far}
use Rattle.pcm_chain.proofs.Standing.{given-grows}

-- ---- the first stage

-- what the first stage does with a block, and what it leaves to the others
record HeadGoes (keeps : Spec → Kept) (tables : Filters) (gain : Gain) (want : ℕ) (spec : Spec) (specs : List Spec) (x middle input : List Frame) (before m : ℕ) : Type 0 where
  goes : Continues spec tables gain x (length middle) input (asked spec want (length input)) (turn_in keeps tables gain want spec input)
  far : HeadFar keeps tables gain want spec specs (length x) (length middle) input before m

head-goes : (keeps : Spec → Kept) (tables : Filters) (gain : Gain) (want : ℕ) (spec : Spec) (specs : List Spec) (x middle input : List Frame) (before m : ℕ) → All IsSpec (spec ∷ specs) → HaveOneRate (spec ∷ specs)
    → StandsFor spec tables (keeps spec) x (length middle) → StagesStand keeps tables specs middle before → HaveChannels (channels_in spec) input
    → Asks (rate_among (spec ∷ specs)) (length x) before (length input) want m → HeadGoes keeps tables gain want spec specs x middle input before m
head-goes keeps tables gain want spec specs x middle input before m limits one stands rest have asks =
    let is = All-head IsSpec spec specs limits in
    record {
      goes = turn-continues spec (keeps spec) tables gain x input (length middle) (asked spec want (length input)) is stands have;
      far = head-far keeps tables gain want spec specs (length x) (length middle) input before m is one (stands-far spec tables (keeps spec) x (length middle) is stands)
          (stages-far keeps tables specs middle before (All-tail IsSpec spec specs limits) rest) have asks;
    }

-- what it stands for then, and what it has given
head-given : (keeps : Spec → Kept) (tables : Filters) (gain : Gain) (want : ℕ) (spec : Spec) (specs : List Spec) (x middle input : List Frame) (before m : ℕ) → IsSpec spec
    → StandsFor spec tables (keeps spec) x (length middle) → HasGiven spec tables x middle → HeadGoes keeps tables gain want spec specs x middle input before m
    → HasGiven spec tables (x ++ input) (middle ++ (turn_in keeps tables gain want spec input).frames)
head-given keeps tables gain want spec specs x middle input before m is stands has h =
    let turned = turn_in keeps tables gain want spec input in
    let whole : take turned.eaten input ≡ input = take_all turned.eaten input (omega (arith, h.far.eaten)) in
    rw whole at (given-grows spec (keeps spec) tables gain x input middle (asked spec want (length input)) turned is stands has h.goes)

head-stands : (keeps : Spec → Kept) (tables : Filters) (gain : Gain) (want : ℕ) (spec : Spec) (specs : List Spec) (x middle input : List Frame) (before m : ℕ) (kept : Kept)
    → HeadGoes keeps tables gain want spec specs x middle input before m → kept ≡ (turn_in keeps tables gain want spec input).kept
    → StandsFor spec tables kept (x ++ input) (length (middle ++ (turn_in keeps tables gain want spec input).frames))
head-stands keeps tables gain want spec specs x middle input before m kept h same =
    let turned = turn_in keeps tables gain want spec input in
    let whole : take turned.eaten input ≡ input = take_all turned.eaten input (omega (arith, h.far.eaten)) in
    let long : length middle + turned.given ≡ length (middle ++ turned.frames) = omega (arith, length-append middle turned.frames, h.goes.count) in
    rw (same, ← long) (rw whole at h.goes.stands)

-- ---- all stages

-- stages that were offered a block stand for the frames with it, and have given m more
pub stages-fed : (keeps now : Spec → Kept) (tables : Filters) (gain : Gain) (want : ℕ) (specs : List Spec) (c d : ℕ) (x input : List Frame) (before m : ℕ) → All IsSpec specs → HaveOneRate specs → Follow c specs d
    → StagesStand keeps tables specs x before → HaveChannels c input → Asks (rate_among specs) (length x) before (length input) want m → AreFed keeps now tables gain want specs input
    → StagesStand now tables specs (x ++ input) (before + m) × (length (fed_through keeps tables gain want specs input) ≡ m)
stages-fed keeps now tables gain want [] c d x input before m limits one follow h have asks fed =
    let level : Asks unchanged (length x) (length x) (length input) want m = subst (λ n. Asks unchanged (length x) n (length input) want m) (sym h) asks in
    let same = level-asks (length x) (length input) want m level in
    (omega (arith, length-append x input, h, same), sym same)
stages-fed keeps now tables gain want (spec ∷ specs) c d x input before m limits one follow h have asks fed =
    let is = All-head IsSpec spec specs limits in
    let turned = turn_in keeps tables gain want spec input in
    let head = head-goes keeps tables gain want spec specs x h.0 input before m limits one h.1 h.3 (rw follow.0 have) asks in
    let rest = stages-fed keeps now tables gain want specs (channels_out spec) d h.0 turned.frames before m (All-tail IsSpec spec specs limits) head.far.one follow.1 h.3 head.goes.channels head.far.asks fed.1 in (
      (
        h.0 ++ turned.frames,
        head-stands keeps tables gain want spec specs x h.0 input before m (now spec) head fed.0,
        head-given keeps tables gain want spec specs x h.0 input before m is h.1 h.2 head,
        rest.0,
      ),
      rest.1,
    )

-- ---- the frames that come out

-- stages that turn each frame by itself
through-point : (tables : Filters) (gain : Gain) (specs : List Spec) (x y : Stream) (p : ℕ) → All IsSpec specs → All TurnsEach specs → x (pos p) ≡ y (pos p)
    → through tables gain specs x (pos p) ≡ through tables gain specs y (pos p)
through-point tables gain [] x y p limits level same = same
through-point tables gain (spec ∷ specs) x y p limits level same =
    through-point tables gain specs (all_outputs spec tables gain x) (all_outputs spec tables gain y) p (All-tail IsSpec spec specs limits) (All-tail TurnsEach spec specs level)
    (point spec (All-head IsSpec spec specs limits) (All-head TurnsEach spec specs level))
  where
    point : (spec : Spec) → IsSpec spec → TurnsEach spec → conv spec tables gain x p ≡ conv spec tables gain y p
    point (Matrix from to) is level = conv-matrix from to tables gain x p ∙ ap (in_layout from to) same ∙ sym (conv-matrix from to tables gain y p)
    point (Hold src dst channels) is level = absurd (omega (arith, is.source.least, ap (λ (r : Rate). r.src) level.unrated))
    point (Linear src dst channels) is level = absurd (omega (arith, is.source.least, ap (λ (r : Rate). r.src) level.unrated))
    point (Poly src dst channels table taps) is level = absurd (omega (arith, is.change.source.least, ap (λ (r : Rate). r.src) level.unrated))
    point (Volume layout) is level = conv-volume layout tables gain x p ∙ ap (at_gain layout gain) same ∙ sym (conv-volume layout tables gain y p)
    point (Depth bits channels) is level = conv-depth bits channels tables gain x p ∙ ap (at_bits bits) same ∙ sym (conv-depth bits channels tables gain y p)
    point (Eq channels sections) is level = absurd (omega (arith, level.nothing))

-- the rate of stages has both parts above 0
ratio-among : (specs : List Spec) → All IsSpec specs → IsRatio (rate_among specs)
ratio-among [] limits = record { src = omega arith; dst = omega arith }
ratio-among (Matrix from to ∷ specs) limits = ratio-among specs (All-tail IsSpec (Matrix from to) specs limits)
ratio-among (Hold src dst channels ∷ specs) limits = let is = All-head IsSpec (Hold src dst channels) specs limits in record { src = src-above (Hold src dst channels) is; dst = dst-above (Hold src dst channels) is }
ratio-among (Linear src dst channels ∷ specs) limits = let is = All-head IsSpec (Linear src dst channels) specs limits in record { src = src-above (Linear src dst channels) is; dst = dst-above (Linear src dst channels) is }
ratio-among (Poly src dst channels table taps ∷ specs) limits =
    let is = All-head IsSpec (Poly src dst channels table taps) specs limits in record { src = src-above (Poly src dst channels table taps) is; dst = dst-above (Poly src dst channels table taps) is }
ratio-among (Volume layout ∷ specs) limits = ratio-among specs (All-tail IsSpec (Volume layout) specs limits)
ratio-among (Depth bits channels ∷ specs) limits = ratio-among specs (All-tail IsSpec (Depth bits channels) specs limits)
ratio-among (Eq channels sections ∷ specs) limits = ratio-among specs (All-tail IsSpec (Eq channels sections) specs limits)

-- what a stage has given, as a stream, is its stream of outputs up to there, where the gain has no part in it
given-stream : (spec : Spec) (tables : Filters) (gain : Gain) (x given : List Frame) (place : ℤ) → kind_of spec ≢ kinds.Volume → HasGiven spec tables x given → place <ℤ pos (length given)
    → stream_of (channels_out spec) given place ≡ all_outputs spec tables gain (stream_of (channels_in spec) x) place
given-stream spec tables gain x given (negsuc k) fixed has below = refl
given-stream spec tables gain x given (pos k) fixed has below =
    let output = has.frames k (silence (channels_out spec)) (omega (arith, ints)) in
    output.1 ∙ conv-gain spec tables output.0 gain (stream_of (channels_in spec) x) k fixed

-- what the stages after the first one make of what it gave
record IsHeard (tables : Filters) (gain : Gain) (spec : Spec) (specs : List Spec) (x given : List Frame) (before m : ℕ) : Type 0 where
  heard : (k : ℕ) → k < m → through tables gain specs (stream_of (channels_out spec) given) (pos (before + k))
      ≡ through tables gain specs (all_outputs spec tables gain (stream_of (channels_in spec) x)) (pos (before + k))

-- a stage before the volume
heard-early : (keeps : Spec → Kept) (tables : Filters) (gain : Gain) (want : ℕ) (spec : Spec) (specs : List Spec) (x middle input : List Frame) (before m : ℕ) → kind_of spec ≢ kinds.Volume → All IsSpec specs
    → HasGiven spec tables (x ++ input) (middle ++ (turn_in keeps tables gain want spec input).frames) → HeadGoes keeps tables gain want spec specs x middle input before m
    → IsHeard tables gain spec specs (x ++ input) (middle ++ (turn_in keeps tables gain want spec input).frames) before m
heard-early keeps tables gain want spec specs x middle input before m fixed limits has h = record { heard = heard }
  where
    given : List Frame
    given = middle ++ (turn_in keeps tables gain want spec input).frames

    heard : (k : ℕ) → k < m → through tables gain specs (stream_of (channels_out spec) given) (pos (before + k))
        ≡ through tables gain specs (all_outputs spec tables gain (stream_of (channels_in spec) (x ++ input))) (pos (before + k))
    heard k below =
        let ratio = ratio-among specs limits in
        let asks = h.far.asks in
        let long = length-append middle (turn_in keeps tables gain want spec input).frames in
        let allowed : before + m ≤ can (rate_among specs) (length given) = omega (arith, asks.gives, long, ap (can (rate_among specs)) long) in
        let enough = (can-greatest (rate_among specs) ratio.src ratio.dst (before + m) (length given)).1 allowed in
        through-local tables gain specs (stream_of (channels_out spec) given) (all_outputs spec tables gain (stream_of (channels_in spec) (x ++ input))) (before + m) limits
        (λ place within. given-stream spec tables gain (x ++ input) given place fixed has (omega (arith, ints, need_through-rate specs (before + m) h.far.one, enough)))
        (pos (before + k)) (omega (arith, ints))

-- the volume itself
heard-late : (keeps : Spec → Kept) (tables : Filters) (gain : Gain) (want : ℕ) (spec : Spec) (specs : List Spec) (x middle input : List Frame) (before m : ℕ) → All IsSpec specs → All TurnsEach specs
    → length middle ≡ before → HeadGoes keeps tables gain want spec specs x middle input before m
    → IsHeard tables gain spec specs (x ++ input) (middle ++ (turn_in keeps tables gain want spec input).frames) before m
heard-late keeps tables gain want spec specs x middle input before m limits level same h = record { heard = heard }
  where
    turned : Turn
    turned = turn_in keeps tables gain want spec input

    heard : (k : ℕ) → k < m → through tables gain specs (stream_of (channels_out spec) (middle ++ turned.frames)) (pos (before + k))
        ≡ through tables gain specs (all_outputs spec tables gain (stream_of (channels_in spec) (x ++ input))) (pos (before + k))
    heard k below =
        let d = silence (channels_out spec) in
        let whole : take turned.eaten input ≡ input = take_all turned.eaten input (omega (arith, h.far.eaten)) in
        let asks = subst (λ r. Asks r (length middle) before (length turned.frames) want m) (rate-unrated specs (All-weaker TurnsEach IsUnrated (λ s each. each.unrated) specs level)) h.far.asks in
        let count = level-asks (length middle) (length turned.frames) want m (rw (← same) at asks) in
        through-point tables gain specs (stream_of (channels_out spec) (middle ++ turned.frames)) (all_outputs spec tables gain (stream_of (channels_in spec) (x ++ input))) (before + k) limits level
        (ap (λ n. get_or (middle ++ turned.frames) (n + k) d) (sym same)
        ∙ get_or-append-add middle turned.frames k d
        ∙ ap (λ list. get_or list k d) h.goes.frames
        ∙ get_or-map-range_with_len (conv spec tables gain (stream_of (channels_in spec) (x ++ take turned.eaten input))) (length middle) turned.given k (before + k) d (omega (arith, count, h.goes.count)) (omega (arith, same))
        ∙ ap (λ list. conv spec tables gain (stream_of (channels_in spec) (x ++ list)) (before + k)) whole)

heard-by : (keeps : Spec → Kept) (tables : Filters) (gain : Gain) (want : ℕ) (spec : Spec) (specs : List Spec) (x middle input : List Frame) (before m : ℕ) → All IsSpec specs → GainIsLate (spec ∷ specs)
    → StagesStand keeps tables specs middle before → HasGiven spec tables (x ++ input) (middle ++ (turn_in keeps tables gain want spec input).frames) → HeadGoes keeps tables gain want spec specs x middle input before m
    → IsHeard tables gain spec specs (x ++ input) (middle ++ (turn_in keeps tables gain want spec input).frames) before m
heard-by keeps tables gain want (Matrix from to) specs x middle input before m limits late rest has h =
    heard-early keeps tables gain want (Matrix from to) specs x middle input before m (λ (same : kinds.Matrix ≡ kinds.Volume). cc) limits has h
heard-by keeps tables gain want (Hold src dst channels) specs x middle input before m limits late rest has h =
    heard-early keeps tables gain want (Hold src dst channels) specs x middle input before m (λ (same : kinds.Hold ≡ kinds.Volume). cc) limits has h
heard-by keeps tables gain want (Linear src dst channels) specs x middle input before m limits late rest has h =
    heard-early keeps tables gain want (Linear src dst channels) specs x middle input before m (λ (same : kinds.Linear ≡ kinds.Volume). cc) limits has h
heard-by keeps tables gain want (Poly src dst channels table taps) specs x middle input before m limits late rest has h =
    heard-early keeps tables gain want (Poly src dst channels table taps) specs x middle input before m (λ (same : kinds.Poly ≡ kinds.Volume). cc) limits has h
heard-by keeps tables gain want (Volume layout) specs x middle input before m limits late rest has h =
    heard-late keeps tables gain want (Volume layout) specs x middle input before m limits late (stages-level keeps tables specs (length middle) before (All-weaker TurnsEach IsUnrated (λ s each. each.unrated) specs late) (stages-far keeps tables specs middle before limits rest)) h
heard-by keeps tables gain want (Depth bits channels) specs x middle input before m limits late rest has h =
    heard-early keeps tables gain want (Depth bits channels) specs x middle input before m (λ (same : kinds.Depth ≡ kinds.Volume). cc) limits has h
heard-by keeps tables gain want (Eq channels sections) specs x middle input before m limits late rest has h =
    heard-early keeps tables gain want (Eq channels sections) specs x middle input before m (λ (same : kinds.Eq ≡ kinds.Volume). cc) limits has h

-- the gain is late after the first stage too
late-tail : (spec : Spec) (specs : List Spec) → GainIsLate (spec ∷ specs) → GainIsLate specs
late-tail (Matrix from to) specs late = late
late-tail (Hold src dst channels) specs late = late
late-tail (Linear src dst channels) specs late = late
late-tail (Poly src dst channels table taps) specs late = late
late-tail (Volume layout) specs late = each-late specs late
  where
    each-late : (list : List Spec) → All TurnsEach list → GainIsLate list
    each-late [] level = tt
    each-late (Matrix from to ∷ list) level = each-late list (All-tail TurnsEach (Matrix from to) list level)
    each-late (Hold src dst channels ∷ list) level = each-late list (All-tail TurnsEach (Hold src dst channels) list level)
    each-late (Linear src dst channels ∷ list) level = each-late list (All-tail TurnsEach (Linear src dst channels) list level)
    each-late (Poly src dst channels table taps ∷ list) level = each-late list (All-tail TurnsEach (Poly src dst channels table taps) list level)
    each-late (Volume layout ∷ list) level = All-tail TurnsEach (Volume layout) list level
    each-late (Depth bits channels ∷ list) level = each-late list (All-tail TurnsEach (Depth bits channels) list level)
    each-late (Eq channels sections ∷ list) level = each-late list (All-tail TurnsEach (Eq channels sections) list level)
late-tail (Depth bits channels) specs late = late
late-tail (Eq channels sections) specs late = late

-- what comes out is what the stages make of all frames
pub comes-out : (keeps : Spec → Kept) (tables : Filters) (gain : Gain) (want : ℕ) (specs : List Spec) (c d : ℕ) (x input : List Frame) (before m : ℕ) → All IsSpec specs → HaveOneRate specs → GainIsLate specs → Follow c specs d
    → StagesStand keeps tables specs x before → HaveChannels c input → Asks (rate_among specs) (length x) before (length input) want m
    → (k : ℕ) → k < m → get_or (fed_through keeps tables gain want specs input) k (silence d) ≡ through tables gain specs (stream_of c (x ++ input)) (pos (before + k))
comes-out keeps tables gain want [] c d x input before m limits one late follow h have asks k below =
    ap (λ n. get_or input k (silence n)) (sym follow)
    ∙ sym (get_or-append-add x input k (silence c))
    ∙ ap (λ n. get_or (x ++ input) (n + k) (silence c)) h
comes-out keeps tables gain want (spec ∷ specs) c d x input before m limits one late follow h have asks k below =
    let is = All-head IsSpec spec specs limits in
    let rest = All-tail IsSpec spec specs limits in
    let turned = turn_in keeps tables gain want spec input in
    let head = head-goes keeps tables gain want spec specs x h.0 input before m limits one h.1 h.3 (rw follow.0 have) asks in
    let has = head-given keeps tables gain want spec specs x h.0 input before m is h.1 h.2 head in
    let next = late-tail spec specs late in
    let heard = heard-by keeps tables gain want spec specs x h.0 input before m rest late h.3 has head in
    comes-out keeps tables gain want specs (channels_out spec) d h.0 turned.frames before m rest head.far.one next follow.1 h.3 head.goes.channels head.far.asks k below
    ∙ heard.heard k below
    ∙ ap (λ n. through tables gain specs (all_outputs spec tables gain (stream_of n (x ++ input))) (pos (before + k))) follow.0
