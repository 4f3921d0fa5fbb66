-- Stages that were told what they keep of the past, and how far their converter is: they are so far, and keep these samples.
use Rattle.std.proofs.Common.{◌≡◌, ◌≢◌, ◌<◌, ◌≤◌, ◌+◌, ◌-◌, ◌*◌, ◌/◌, ◌%◌, max, ℕ, zero, suc, ℤ, pos, neg_ℤ, ◌≤ℤ◌, List, [], ◌∷◌, ◌++◌, length, take, drop, All, Fits, w64, refl, sym, ap, ◌∙◌, subst, arith}
use Rattle.std.proofs.Math.Nat.{mod-lt, mul-div_cancel, mul-mod_left, mul-le-mul, add-mul-mod_self_right}
use Rattle.std.proofs.lemmas.Int.{ints}
use Rattle.std.proofs.lemmas.List.{length-replicate, length-drop, length-take-le, nil_from_length, take_all, take-append-drop}
use Rattle.std.proofs.lemmas.List.Elements.{All-nil, All-cons, All-head, All-tail, All-replicate, All-weaker}
use Rattle.pcm_format.specs.Frames.{Frame}
use Rattle.pcm_format.proofs.Streams.{channels_of-most}
use Rattle.pcm_rate.specs.declared.rate.Rate.{Rate}
use Rattle.pcm_rate.specs.Rates.{unchanged, need, IsRatio}
use Rattle.pcm_rate.proofs.Counts.{div_more, need_grows, need-unchanged}
use Rattle.pcm_feeder.specs.declared.kind.Kind.{Kind}
use Rattle.pcm_feeder.specs.declared.rack.SevenOf.{SevenOf}
use Rattle.pcm_feeder.specs.declared.stage.Progress.{Progress}
use Rattle.pcm_feeder.specs.declared.stage.Spec.{Spec}
use Rattle.pcm_feeder.specs.declared.stage.Spec.TheVariants.{Matrix, Hold, Linear, Poly, Volume, Depth, Eq}
use Rattle.pcm_feeder.specs.declared.stage.TheConstants.{AT_REST}
use Rattle.pcm_feeder.specs.Filters.{Filters}
use Rattle.pcm_feeder.specs.Fractions.{IsPhase}
use Rattle.pcm_feeder.specs.Kept.{Kept, resumed, CanResume, IsFitted}
use Rattle.pcm_feeder.specs.Kinds.{kind_of}
use Rattle.pcm_feeder.specs.Limits.{IsSpec}
use Rattle.pcm_feeder.specs.Racks.{HaveKinds}
use Rattle.pcm_feeder.specs.Stages.{channels_in, history, rate_of}
use Rattle.pcm_feeder.specs.Streams.{silence, frames_of, interleaved}
use Rattle.pcm_feeder.proofs.Driven.{channels_in-above}
use Rattle.pcm_feeder.proofs.Fitted.{step-more, step-zero}
use Rattle.pcm_feeder.proofs.Frames.{length-frames_of, frames_of-channels, interleaved-frames_of}
use Rattle.pcm_feeder.proofs.Resumed.{phase-behind, phase-first}
use Rattle.pcm_plan.specs.Plans.{PlanSeen, rate_among, rate_in_plan}
use Rattle.pcm_plan.specs.Fits.{IsPlan, IsUnrated, HaveOneRate}
use Rattle.pcm_plan.proofs.Fits.{ratio-in}
use Rattle.pcm_chain.specs.declared.chain.ChainOf.{ChainOf}
use Rattle.pcm_chain.specs.declared.counts.Counts.{Counts}
use Rattle.pcm_chain.specs.Boxes.{kept_in, HasResumed}
use Rattle.pcm_chain.specs.Chains.{boxes_in, counts_in, plan_in}
use Rattle.pcm_chain.specs.Counts.{fed_in_all, InTime, IsProgress, StandFor}
use Rattle.pcm_chain.specs.Far.{IsSoFar, AreSoFar}
use Rattle.pcm_chain.specs.Pasts.{past_in, past_size, past_sizes, progress_in, IsProgressWithin, CanHaveProgress, CanTellAll, GoesBy, HasTold, HaveTold}
use Rattle.pcm_chain.proofs.Counting.{fed-real}

-- ---- sizes

channels-most : (spec : Spec) → IsSpec spec → channels_in spec ≤ 8
channels-most (Matrix from to) is = channels_of-most from
channels-most (Hold src dst channels) is = is.within.most
channels-most (Linear src dst channels) is = is.within.most
channels-most (Poly src dst channels table taps) is = is.change.within.most
channels-most (Volume layout) is = channels_of-most layout
channels-most (Depth bits channels) is = is.within.most
channels-most (Eq channels sections) is = is.within.most

history-most : (spec : Spec) → IsSpec spec → history spec ≤ 64
history-most (Matrix from to) is = omega arith
history-most (Hold src dst channels) is = omega arith
history-most (Linear src dst channels) is = omega arith
history-most (Poly src dst channels table taps) is = is.row.most
history-most (Volume layout) is = omega arith
history-most (Depth bits channels) is = omega arith
history-most (Eq channels sections) is = omega (arith, is.most)

-- a stage keeps at most 64 frames of eight channels
past-most : (spec : Spec) → IsSpec spec → past_size spec ≤ 512
past-most spec is = mul-le-mul (history-most spec is) (channels-most spec is)

-- and stages as many each
pub pasts-most : (specs : List Spec) → All IsSpec specs → past_sizes specs ≤ 512 * length specs
pasts-most [] limits = omega arith
pasts-most (spec ∷ specs) limits =
    omega (arith, past-most spec (All-head IsSpec spec specs limits), pasts-most specs (All-tail IsSpec spec specs limits))

-- so the sizes of few fit, that of the first stage and those of the others
pub sizes-fit : (specs : List Spec) (spec : Spec) (rest : List Spec) → specs ≡ spec ∷ rest → All IsSpec specs → length specs ≤ 5 → Fits w64 (past_size spec + past_sizes rest)
sizes-fit specs spec rest cut limits few = omega (arith, ap past_sizes cut, pasts-most specs limits, few)

-- ---- what boxes are told

-- samples, as many as a stage keeps, are those of the frames that they are cut into
cut-joined : (spec : Spec) (samples : List ℤ) → length samples ≡ past_size spec → interleaved (frames_of (channels_in spec) samples) ≡ samples
cut-joined spec samples size = interleaved-frames_of (channels_in spec) samples (ap (λ n. n % channels_in spec) size ∙ mul-mod_left (history spec) (channels_in spec))

-- a stage can go on from a progress within its bounds, and from as many samples as it keeps
can-resume : (spec : Spec) (progress : Progress) (samples : List ℤ) → IsSpec spec → IsProgressWithin (rate_of spec) progress → length samples ≡ past_size spec → CanResume spec progress samples
can-resume spec progress samples is bounds size =
    let ahead = bounds.ahead in
    record {
      limits = is;
      size = size;
      fitted = record {
        fitted = refl;
        phase = bounds.phase;
        least = ahead.least;
        most = ahead.most;
        unrated = bounds.unrated;
        count = length-frames_of (channels_in spec) samples ∙ ap (λ n. n / channels_in spec) size ∙ mul-div_cancel (history spec) (channels_in-above spec is);
        frames = frames_of-channels (channels_in spec) samples;
      };
    }

-- what the first stage is told, and what that leaves to the others
pub record TellsHead {B : Type 0} (kind : B → Kind) (spec : Spec) (rest : List Spec) (progress : Progress) (samples : List ℤ) : Type 0 where
  pub within : past_size spec ≤ length samples
  pub can : CanResume spec (progress_in spec progress) (take (past_size spec) samples)
  pub others : (boxes : SevenOf B) → HaveKinds kind boxes → CanTellAll kind rest progress (take (length samples - past_size spec) (drop (past_size spec) samples)) boxes

head-tells : {B : Type 0} (kind : B → Kind) (spec : Spec) (rest : List Spec) (progress : Progress) (samples : List ℤ) (boxes : SevenOf B) → CanTellAll kind (spec ∷ rest) progress samples boxes
    → TellsHead kind spec rest progress samples
head-tells kind spec rest progress samples boxes h =
    let P : Spec → Type 0 = λ s. IsProgressWithin (rate_of s) (progress_in s progress) in
    let size = past_size spec in
    let within : size ≤ length samples = omega (arith, h.size) in
    let behind = drop size samples in
    let left = length-drop size samples in
    record {
      within = within;
      can = can-resume spec (progress_in spec progress) (take size samples) (All-head IsSpec spec rest h.limits) (All-head P spec rest h.bounds)
          (length-take-le size samples within);
      others = λ others kinds. record {
        kinds = kinds;
        limits = All-tail IsSpec spec rest h.limits;
        distinct = (let distinct = h.distinct in distinct.1);
        bounds = All-tail P spec rest h.bounds;
        size = omega (arith, length-take-le (length samples - size) behind (omega (arith, left)), h.size);
      };
    }

pub tells-head : {B : Type 0} (kind : B → Kind) (specs : List Spec) (spec : Spec) (rest : List Spec) (progress : Progress) (samples : List ℤ) (boxes : SevenOf B) → specs ≡ spec ∷ rest → CanTellAll kind specs progress samples boxes
    → TellsHead kind spec rest progress samples
tells-head kind specs spec rest progress samples boxes cut h =
    head-tells kind spec rest progress samples boxes (subst (λ list. CanTellAll kind list progress samples boxes) cut h)

-- so all were told
head-told : {B : Type 0} (kind : B → Kind) (kept : B → Kept) (mark : B → ℕ) (spec : Spec) (rest : List Spec) (progress : Progress) (samples : List ℤ) (old mid new : SevenOf B)
    → CanTellAll kind (spec ∷ rest) progress samples old → HasResumed kind kept mark spec (progress_in spec progress) (take (past_size spec) samples) old mid
    → HaveTold kind kept mark rest progress (take (length samples - past_size spec) (drop (past_size spec) samples)) mid new
    → HaveTold kind kept mark (spec ∷ rest) progress samples old new
head-told kind kept mark spec rest progress samples old mid new h first others =
    let P : Spec → Type 0 = λ s. GoesBy progress s (kept_in kept new s) in
    let tells = head-tells kind spec rest progress samples old h in
    let size = past_size spec in
    let front = take size samples in
    let distinct = h.distinct in
    let told : kept_in kept new spec ≡ resumed spec (progress_in spec progress) front = others.others spec distinct.0 ∙ first.told in
    let can = tells.can in
    let left = length-drop size samples in
    record {
      kinds = others.kinds;
      marks = others.marks ∙ first.marks;
      others = λ other differ. others.others other (All-tail (λ s. kind_of other ≢ kind_of s) spec rest differ) ∙ first.others other (All-head (λ s. kind_of other ≢ kind_of s) spec rest differ);
      go = All-cons P spec rest (rw told (record { fitted = can.fitted; phase = refl; ahead = refl })) others.go;
      keeps = ap (λ k. interleaved k.tail ++ past_in (kept_in kept new) rest) told
          ∙ ap (λ list. list ++ past_in (kept_in kept new) rest) (cut-joined spec front (length-take-le size samples tells.within))
          ∙ ap (λ list. front ++ list) (others.keeps ∙ take_all (length samples - size) (drop size samples) (omega (arith, left)))
          ∙ take-append-drop size samples;
    }

pub tells-all : {B : Type 0} (kind : B → Kind) (kept : B → Kept) (mark : B → ℕ) (specs : List Spec) (spec : Spec) (rest : List Spec) (progress : Progress) (samples : List ℤ) (old mid new : SevenOf B)
    → specs ≡ spec ∷ rest → CanTellAll kind specs progress samples old → HasResumed kind kept mark spec (progress_in spec progress) (take (past_size spec) samples) old mid
    → HaveTold kind kept mark rest progress (take (length samples - past_size spec) (drop (past_size spec) samples)) mid new
    → HaveTold kind kept mark specs progress samples old new
tells-all kind kept mark specs spec rest progress samples old mid new cut h first others =
    subst (λ list. HaveTold kind kept mark list progress samples old new) (sym cut)
    (head-told kind kept mark spec rest progress samples old mid new (subst (λ list. CanTellAll kind list progress samples old) cut h) first others)

-- no stage is told nothing
pub tells-none : {B : Type 0} (kind : B → Kind) (kept : B → Kept) (mark : B → ℕ) (specs : List Spec) (progress : Progress) (samples : List ℤ) (boxes : SevenOf B) → length specs ≡ 0 → CanTellAll kind specs progress samples boxes
    → HaveTold kind kept mark specs progress samples boxes boxes
tells-none kind kept mark [] progress samples boxes none h = record {
  kinds = h.kinds;
  marks = refl;
  others = λ other differ. refl;
  go = All-nil (λ s. GoesBy progress s (kept_in kept boxes s));
  keeps = sym (nil_from_length samples h.size);
}
tells-none kind kept mark (spec ∷ rest) progress samples boxes none h = absurd (omega (arith, none))

-- ---- how far a converter is

-- frames eaten are those that the outputs given need, and none that the next one needs last
pub record Steps (rate : Rate) (progress : Progress) (eaten given : ℕ) : Type 0 where
  pub at : IsProgress rate eaten given progress
  pub least : need rate given ≤ eaten
  pub most : eaten ≤ max (need rate given) (need rate (given + 1) - 1)

-- counts in time take such steps
pub in-step : (rate : Rate) (counts : Counts) (progress : Progress) → InTime rate counts → IsProgress rate (fed_in_all rate counts) counts.given progress → Steps rate progress (fed_in_all rate counts) counts.given
in-step rate counts progress t at = record { at = at; least = omega arith; most = omega (arith, t.early) }

-- a progress by counts without whole periods is that of all frames
pub progress-real : (rate : Rate) (counts : Counts) (eaten given : ℕ) (progress : Progress) → StandFor rate counts eaten given → IsProgress rate (fed_in_all rate counts) counts.given progress
    → IsProgress rate (fed_in_all rate (record { eaten = eaten; given = given })) given progress
progress-real rate counts eaten given progress h at =
    let s = h.eaten_before in
    let period = h.period in
    let parts : given * rate.src ≡ counts.given * rate.src + s * rate.dst = omega (arith, ap (λ n. n * rate.src) h.given_is, period.same) in
    let places = div_more (counts.given * rate.src) (given * rate.src) rate.dst s period.dst_above parts in
    record {
      phase = at.phase ∙ sym (ap (λ n. n % rate.dst) parts ∙ add-mul-mod_self_right (counts.given * rate.src) s rate.dst);
      ahead = omega (arith, ints, at.ahead, places, fed-real rate counts eaten given h);
    }

-- such a progress is within the bounds of the rate
ahead-least : (rate : Rate) (progress : Progress) (eaten given : ℕ) → 0 < rate.dst → Steps rate progress eaten given → neg_ℤ (pos (rate.src / rate.dst)) ≤ℤ progress.ahead
ahead-least rate progress eaten zero dst h =
    let at = h.at in
    omega (arith, ints, at.ahead, step-zero rate 0 dst)
ahead-least rate progress eaten (suc given) dst h =
    let at = h.at in
    let start : (0 + suc given * rate.src) / rate.dst ≡ suc given * rate.src / rate.dst = ap (λ z. z / rate.dst) (omega arith) in
    let before : (0 + given * rate.src) / rate.dst ≡ given * rate.src / rate.dst = ap (λ z. z / rate.dst) (omega arith) in
    omega (arith, ints, at.ahead, h.least, step-more rate 0 given dst)

next-need : (rate : Rate) (given : ℕ) → need rate (given + 1) ≡ given * rate.src / rate.dst + 1 + rate.lookahead
next-need rate given = let next : given + 1 ≡ suc given = omega arith in ap (need rate) next

place-unchanged : (n : ℕ) → n * 1 / 1 ≡ n
place-unchanged n = let all = need-unchanged (suc n) in omega (arith, all)

pub steps-within : (rate : Rate) (progress : Progress) (eaten given : ℕ) → IsRatio rate → Steps rate progress eaten given → IsProgressWithin rate progress
steps-within rate progress eaten given ratio h =
    let at = h.at in
    let more = need_grows rate given (given + 1) ratio.dst (omega arith) in
    record {
      phase = subst (IsPhase rate) (sym at.phase) (phase-behind rate given ratio.dst);
      ahead = record {
        least = ahead-least rate progress eaten given ratio.dst h;
        most = omega (arith, ints, at.ahead, h.most, more, next-need rate given);
      };
      unrated = λ level.
          let flat = subst (λ r. Steps r progress eaten given) level h in
          let even = flat.at in
          omega (arith, ints, even.ahead, flat.least, flat.most, need-unchanged given, need-unchanged (given + 1), place-unchanged given);
    }

-- ---- what stages can be told

at-rest : IsProgressWithin unchanged AT_REST
at-rest = record {
  phase = phase-first unchanged (omega arith);
  ahead = record { least = omega (arith, ints); most = omega (arith, ints) };
  unrated = λ level. refl;
}

-- a stage that keeps the rate is at rest
rests : (spec : Spec) (progress : Progress) → IsSpec spec → IsUnrated spec → IsProgressWithin (rate_of spec) (progress_in spec progress)
rests (Matrix from to) progress is level = at-rest
rests (Hold src dst channels) progress is level = absurd (omega (arith, is.source.least, ap (λ (r : Rate). r.src) level))
rests (Linear src dst channels) progress is level = absurd (omega (arith, is.source.least, ap (λ (r : Rate). r.src) level))
rests (Poly src dst channels table taps) progress is level = absurd (omega (arith, is.change.source.least, ap (λ (r : Rate). r.src) level))
rests (Volume layout) progress is level = at-rest
rests (Depth bits channels) progress is level = at-rest
rests (Eq channels sections) progress is level = at-rest

all-rest : (progress : Progress) (specs : List Spec) → All IsSpec specs → All IsUnrated specs → CanHaveProgress progress specs
all-rest progress [] limits level = All-nil (λ s. IsProgressWithin (rate_of s) (progress_in s progress))
all-rest progress (spec ∷ specs) limits level =
    All-cons (λ s. IsProgressWithin (rate_of s) (progress_in s progress)) spec specs
    (rests spec progress (All-head IsSpec spec specs limits) (All-head IsUnrated spec specs level))
    (all-rest progress specs (All-tail IsSpec spec specs limits) (All-tail IsUnrated spec specs level))

-- each stage can have the progress of the rate among them
pub can-have : (progress : Progress) (specs : List Spec) → All IsSpec specs → HaveOneRate specs → IsProgressWithin (rate_among specs) progress → CanHaveProgress progress specs
can-have progress [] limits one bounds = All-nil (λ s. IsProgressWithin (rate_of s) (progress_in s progress))
can-have progress (Matrix from to ∷ specs) limits one bounds =
    All-cons (λ s. IsProgressWithin (rate_of s) (progress_in s progress)) (Matrix from to) specs at-rest (can-have progress specs (All-tail IsSpec (Matrix from to) specs limits) one bounds)
can-have progress (Hold src dst channels ∷ specs) limits one bounds =
    All-cons (λ s. IsProgressWithin (rate_of s) (progress_in s progress)) (Hold src dst channels) specs bounds (all-rest progress specs (All-tail IsSpec (Hold src dst channels) specs limits) one)
can-have progress (Linear src dst channels ∷ specs) limits one bounds =
    All-cons (λ s. IsProgressWithin (rate_of s) (progress_in s progress)) (Linear src dst channels) specs bounds (all-rest progress specs (All-tail IsSpec (Linear src dst channels) specs limits) one)
can-have progress (Poly src dst channels table taps ∷ specs) limits one bounds =
    All-cons (λ s. IsProgressWithin (rate_of s) (progress_in s progress)) (Poly src dst channels table taps) specs bounds (all-rest progress specs (All-tail IsSpec (Poly src dst channels table taps) specs limits) one)
can-have progress (Volume layout ∷ specs) limits one bounds =
    All-cons (λ s. IsProgressWithin (rate_of s) (progress_in s progress)) (Volume layout) specs at-rest (can-have progress specs (All-tail IsSpec (Volume layout) specs limits) one bounds)
can-have progress (Depth bits channels ∷ specs) limits one bounds =
    All-cons (λ s. IsProgressWithin (rate_of s) (progress_in s progress)) (Depth bits channels) specs at-rest (can-have progress specs (All-tail IsSpec (Depth bits channels) specs limits) one bounds)
can-have progress (Eq channels sections ∷ specs) limits one bounds =
    All-cons (λ s. IsProgressWithin (rate_of s) (progress_in s progress)) (Eq channels sections) specs at-rest (can-have progress specs (All-tail IsSpec (Eq channels sections) specs limits) one bounds)

-- ---- how far stages are

-- a stage whose box keeps the progress of so many frames is so far
far-at : (spec : Spec) (tables : Filters) (kept : Kept) (eaten given : ℕ) → IsFitted spec kept → Steps (rate_of spec) (record { phase = kept.phase; ahead = kept.ahead }) eaten given → IsSoFar spec tables kept eaten given
far-at spec tables kept eaten given fits h =
    let s = silence (channels_in spec) in
    let count = length-replicate eaten s in
    let at = h.at in
    record {
      fitted = fits;
      stands = record {
        fitted = fits.fitted;
        phase = at.phase;
        ahead = at.ahead ∙ ap pos (sym count);
        least = omega (arith, h.least, count);
        most = omega (arith, h.most, count);
        tail = refl;
        frames = All-replicate (λ (frame : Frame). length frame ≡ channels_in spec) eaten s (length-replicate (channels_in spec) (pos 0));
      };
    }

-- one that keeps the rate has eaten as many as it has given, however many
level-at : (spec : Spec) (tables : Filters) (kept : Kept) (n : ℕ) → IsUnrated spec → IsFitted spec kept → IsSoFar spec tables kept n n
level-at spec tables kept n level fits =
    far-at spec tables kept n n fits (rw level (record {
      at = record { phase = phase; ahead = omega (arith, ints, fits.unrated level, place-unchanged n) };
      least = omega (arith, need-unchanged n);
      most = omega (arith, need-unchanged n);
    }))
  where
    phase : kept.phase ≡ n * 1 % 1
    phase =
        let within = subst (λ (r : Rate). IsPhase r kept.phase) level fits.phase in
        let small : n * 1 % 1 < 1 = mod-lt (n * 1) (omega arith) in
        omega (arith, within.below, small)

levels-at : (keeps : Spec → Kept) (tables : Filters) (progress : Progress) (specs : List Spec) (n : ℕ) → All IsUnrated specs → All (λ spec. GoesBy progress spec (keeps spec)) specs → AreSoFar keeps tables specs n n
levels-at keeps tables progress [] n level go = refl
levels-at keeps tables progress (spec ∷ specs) n level go =
    let P : Spec → Type 0 = λ s. GoesBy progress s (keeps s) in
    let here = All-head P spec specs go in (
      n,
      level-at spec tables (keeps spec) n (All-head IsUnrated spec specs level) here.fitted,
      levels-at keeps tables progress specs n (All-tail IsUnrated spec specs level) (All-tail P spec specs go),
    )

first-fitted : (keeps : Spec → Kept) (progress : Progress) (spec : Spec) (specs : List Spec) → All (λ s. GoesBy progress s (keeps s)) (spec ∷ specs) → IsFitted spec (keeps spec)
first-fitted keeps progress spec specs go =
    let here = All-head (λ s. GoesBy progress s (keeps s)) spec specs go in
    here.fitted

-- a converter that goes by the progress of so many frames is so far, and those behind it
rated-far : (keeps : Spec → Kept) (tables : Filters) (progress : Progress) (spec : Spec) (specs : List Spec) (eaten given : ℕ) → progress_in spec progress ≡ progress → All IsUnrated specs
    → All (λ s. GoesBy progress s (keeps s)) (spec ∷ specs) → Steps (rate_of spec) progress eaten given → AreSoFar keeps tables (spec ∷ specs) eaten given
rated-far keeps tables progress spec specs eaten given own level go h =
    let P : Spec → Type 0 = λ s. GoesBy progress s (keeps s) in
    let here = All-head P spec specs go in (
      given,
      far-at spec tables (keeps spec) eaten given here.fitted
          (rw (here.phase, here.ahead, own) h),
      levels-at keeps tables progress specs given level (All-tail P spec specs go),
    )

-- stages that go by the progress of so many frames are so far
pub go-far : (keeps : Spec → Kept) (tables : Filters) (progress : Progress) (specs : List Spec) (eaten given : ℕ) → HaveOneRate specs → All (λ spec. GoesBy progress spec (keeps spec)) specs → Steps (rate_among specs) progress eaten given
    → AreSoFar keeps tables specs eaten given
go-far keeps tables progress [] eaten given one go h = omega (arith, h.least, h.most, need-unchanged given, need-unchanged (given + 1))
go-far keeps tables progress (Matrix from to ∷ specs) eaten given one go h = (
  eaten,
  level-at (Matrix from to) tables (keeps (Matrix from to)) eaten refl (first-fitted keeps progress (Matrix from to) specs go),
  go-far keeps tables progress specs eaten given one (All-tail (λ s. GoesBy progress s (keeps s)) (Matrix from to) specs go) h,
)
go-far keeps tables progress (Hold src dst channels ∷ specs) eaten given one go h = rated-far keeps tables progress (Hold src dst channels) specs eaten given refl one go h
go-far keeps tables progress (Linear src dst channels ∷ specs) eaten given one go h = rated-far keeps tables progress (Linear src dst channels) specs eaten given refl one go h
go-far keeps tables progress (Poly src dst channels table taps ∷ specs) eaten given one go h = rated-far keeps tables progress (Poly src dst channels table taps) specs eaten given refl one go h
go-far keeps tables progress (Volume layout ∷ specs) eaten given one go h = (
  eaten,
  level-at (Volume layout) tables (keeps (Volume layout)) eaten refl (first-fitted keeps progress (Volume layout) specs go),
  go-far keeps tables progress specs eaten given one (All-tail (λ s. GoesBy progress s (keeps s)) (Volume layout) specs go) h,
)
go-far keeps tables progress (Depth bits channels ∷ specs) eaten given one go h = (
  eaten,
  level-at (Depth bits channels) tables (keeps (Depth bits channels)) eaten refl (first-fitted keeps progress (Depth bits channels) specs go),
  go-far keeps tables progress specs eaten given one (All-tail (λ s. GoesBy progress s (keeps s)) (Depth bits channels) specs go) h,
)
go-far keeps tables progress (Eq channels sections ∷ specs) eaten given one go h = (
  eaten,
  level-at (Eq channels sections) tables (keeps (Eq channels sections)) eaten refl (first-fitted keeps progress (Eq channels sections) specs go),
  go-far keeps tables progress specs eaten given one (All-tail (λ s. GoesBy progress s (keeps s)) (Eq channels sections) specs go) h,
)

-- ---- a chain

-- its stages can be told a progress by its counts
pub can-told : (plan : PlanSeen) (counts : Counts) (progress : Progress) → IsPlan plan → InTime (rate_in_plan plan) counts
    → IsProgress (rate_in_plan plan) (fed_in_all (rate_in_plan plan) counts) counts.given progress → CanHaveProgress progress plan.stages
can-told plan counts progress fits t at =
    can-have progress plan.stages fits.specs fits.one_rate
    (steps-within (rate_in_plan plan) progress (fed_in_all (rate_in_plan plan) counts) counts.given (ratio-in plan fits) (in-step (rate_in_plan plan) counts progress t at))

-- a chain whose stages were told is so far by its own plan
chain-is : {B : Type 0} (kind : B → Kind) (kept : B → Kept) (mark : B → ℕ) (eaten given : ℕ) (samples : List ℤ) (progress : Progress) (old new : ChainOf B) → IsPlan (plan_in new)
    → InTime (rate_in_plan (plan_in new)) (record { eaten = eaten; given = given }) → StandFor (rate_in_plan (plan_in new)) (counts_in new) eaten given
    → IsProgress (rate_in_plan (plan_in new)) (fed_in_all (rate_in_plan (plan_in new)) (counts_in new)) (counts_in new).given progress
    → HaveTold kind kept mark (plan_in new).stages progress samples (boxes_in old) (boxes_in new) → HasTold kind kept mark (plan_in new) eaten given samples old new
chain-is kind kept mark eaten given samples progress old new fits t counts at told =
    let plan = plan_in new in
    let rate = rate_in_plan plan in
    let keeps = kept_in kept (boxes_in new) in
    let all : Counts = record { eaten = eaten; given = given } in
    let total : fed_in_all rate all ≡ eaten + (need rate given - eaten) = omega arith in
    record {
      plan_is = refl;
      kinds = told.kinds;
      marks = told.marks;
      fitted = All-weaker (λ s. GoesBy progress s (keeps s)) (λ s. IsFitted s (keeps s)) (λ s goes. goes.fitted) plan.stages told.go;
      keeps = told.keeps;
      far = λ tables. record {
        fits = fits;
        counts = counts;
        silent = refl;
        stages = subst (λ n. AreSoFar keeps tables plan.stages n given) total
            (go-far keeps tables progress plan.stages (fed_in_all rate all) given fits.one_rate told.go
            (in-step rate all progress t (progress-real rate (counts_in new) eaten given progress counts at)));
      };
    }

-- and so by the plan that it was told
pub chain-told : {B : Type 0} (kind : B → Kind) (kept : B → Kept) (mark : B → ℕ) (plan : PlanSeen) (eaten given : ℕ) (samples : List ℤ) (progress : Progress) (old new : ChainOf B) → plan_in new ≡ plan → IsPlan (plan_in new)
    → InTime (rate_in_plan plan) (record { eaten = eaten; given = given }) → StandFor (rate_in_plan (plan_in new)) (counts_in new) eaten given
    → IsProgress (rate_in_plan (plan_in new)) (fed_in_all (rate_in_plan (plan_in new)) (counts_in new)) (counts_in new).given progress
    → HaveTold kind kept mark (plan_in new).stages progress samples (boxes_in old) (boxes_in new) → HasTold kind kept mark plan eaten given samples old new
chain-told kind kept mark plan eaten given samples progress old new same fits t counts at told =
    let all : Counts = record { eaten = eaten; given = given } in
    subst (λ p. HasTold kind kept mark p eaten given samples old new) same
    (chain-is kind kept mark eaten given samples progress old new fits (subst (λ p. InTime (rate_in_plan p) all) (sym same) t) counts at told)
