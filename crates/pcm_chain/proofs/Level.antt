-- Stages that keep the rate and no sound: they stand for all frames that pass them by, as if these had been fed.
use Rattle.std.proofs.Common.{◌≡◌, ◌+◌, ℕ, pos, List, [], ◌∷◌, ◌++◌, length, All, Some, refl, sym, ap, ◌∙◌, subst, arith}
use Rattle.std.proofs.lemmas.List.{append-nil, length-append, nil_from_length}
use Rattle.std.proofs.lemmas.List.Elements.{All-append, All-head, All-tail, All-weaker}
use Rattle.pcm_format.specs.Frames.{Frame}
use Rattle.pcm_format.specs.Layouts.{channels_of}
use Rattle.pcm_rate.specs.declared.rate.Rate.{Rate}
use Rattle.pcm_rate.specs.Rates.{need, can, unchanged}
use Rattle.pcm_rate.proofs.Counts.{need-unchanged, can-unchanged}
use Rattle.pcm_feeder.specs.declared.stage.Gain.{Gain}
use Rattle.pcm_feeder.specs.declared.stage.Spec.{Spec}
use Rattle.pcm_feeder.specs.declared.stage.Spec.TheVariants.{Matrix, Hold, Linear, Poly, Volume, Depth, Eq}
use Rattle.pcm_feeder.specs.Filters.{Filters}
use Rattle.pcm_feeder.specs.Kept.{Kept, IsFitted, fresh}
use Rattle.pcm_feeder.specs.Fractions.{IsPhase}
use Rattle.pcm_feeder.specs.Layouts.{unity}
use Rattle.pcm_feeder.specs.Limits.{IsSpec}
use Rattle.pcm_feeder.specs.Stages.{rate_of, history}
use Rattle.pcm_feeder.specs.Streams.{HaveChannels}
use Rattle.pcm_feeder.specs.Turns.{turn}
use Rattle.pcm_feeder.proofs.Unrated.{maps-depth, maps-matrix, maps-volume}
use Rattle.pcm_plan.specs.Plans.{PlanSeen, rate_in_plan}
use Rattle.pcm_plan.specs.Fits.{IsPlan, IsUnrated, TurnsEach}
use Rattle.pcm_chain.specs.Boxes.{kept_in}
use Rattle.pcm_chain.specs.Chains.{boxes_in, counts_in, plan_in, StagesStand}
use Rattle.pcm_chain.specs.Feeds.{asked, turn_in, AreFed}
use Rattle.pcm_chain.specs.Far.{AreSoFar}
use Rattle.pcm_chain.specs.Gives.{GivesExactly, IsJustSoFar}
use Rattle.pcm_chain.specs.declared.chain.ChainOf.{ChainOf}
use Rattle.pcm_chain.proofs.Counting.{stands-level}
use Rattle.pcm_chain.proofs.Far.{Asks, chain-far, far-fitted, fed-far, rate-unrated}
use Rattle.pcm_chain.proofs.Streaming.{stages-fed}

-- what such a stage keeps is what it began with
keeps-fresh : (spec : Spec) (kept : Kept) → rate_of spec ≡ unchanged → (fresh spec).tail ≡ [] → history spec ≡ 0 → IsFitted spec kept → kept ≡ fresh spec
keeps-fresh spec kept level begins none h =
    ap (λ s. record { spec = s; phase = kept.phase; ahead = kept.ahead; tail = kept.tail }) h.fitted
    ∙ ap (λ n. record { spec = Some spec; phase = n; ahead = kept.ahead; tail = kept.tail }) phase
    ∙ ap (λ z. record { spec = Some spec; phase = 0; ahead = z; tail = kept.tail }) ahead
    ∙ ap (λ list. record { spec = Some spec; phase = 0; ahead = pos 0; tail = list }) (quiet ∙ sym begins)
  where
    phase : kept.phase ≡ 0
    phase = let within = subst (λ (r : Rate). IsPhase r kept.phase) level h.phase in omega (arith, within)

    ahead : kept.ahead ≡ pos 0
    ahead = h.unrated level

    quiet : kept.tail ≡ []
    quiet = nil_from_length kept.tail (h.count ∙ none)

-- a feed leaves it so
keeps-same : (spec : Spec) (tables : Filters) (gain : Gain) (kept : Kept) (input : List Frame) (want : ℕ) → IsSpec spec → TurnsEach spec → IsFitted spec kept
    → kept ≡ (turn kept tables gain input want).kept
keeps-same (Matrix from to) tables gain kept input want is each h =
    let goes = maps-matrix from to tables gain input want in
    subst (λ k. k ≡ (turn k tables gain input want).kept) (sym (keeps-fresh (Matrix from to) kept refl refl refl h)) (sym goes.kept)
keeps-same (Hold src dst channels) tables gain kept input want is each h = absurd (omega (arith, is.source.least, ap (λ (r : Rate). r.src) each.unrated))
keeps-same (Linear src dst channels) tables gain kept input want is each h = absurd (omega (arith, is.source.least, ap (λ (r : Rate). r.src) each.unrated))
keeps-same (Poly src dst channels table taps) tables gain kept input want is each h = absurd (omega (arith, is.change.source.least, ap (λ (r : Rate). r.src) each.unrated))
keeps-same (Volume layout) tables gain kept input want is each h =
    let goes = maps-volume layout tables gain input want in
    subst (λ k. k ≡ (turn k tables gain input want).kept) (sym (keeps-fresh (Volume layout) kept refl refl refl h)) (sym goes.kept)
keeps-same (Depth bits channels) tables gain kept input want is each h =
    let goes = maps-depth bits channels tables gain input want in
    subst (λ k. k ≡ (turn k tables gain input want).kept) (sym (keeps-fresh (Depth bits channels) kept refl refl refl h)) (sym goes.kept)
keeps-same (Eq channels sections) tables gain kept input want is each h = absurd (omega (arith, each.nothing))

-- so stages that are left alone keep what a feed would leave
fed-alone : (keeps : Spec → Kept) (tables : Filters) (gain : Gain) (want : ℕ) (specs : List Spec) (input : List Frame) → All IsSpec specs → All TurnsEach specs → All (λ spec. IsFitted spec (keeps spec)) specs
    → AreFed keeps keeps tables gain want specs input
fed-alone keeps tables gain want [] input limits each h = tt
fed-alone keeps tables gain want (spec ∷ specs) input limits each h =
    let P : Spec → Type 0 = λ s. IsFitted s (keeps s) in
    let turned = turn_in keeps tables gain want spec input in (
      keeps-same spec tables gain (keeps spec) input (asked spec want (length input)) (All-head IsSpec spec specs limits) (All-head TurnsEach spec specs each) (All-head P spec specs h),
      fed-alone keeps tables gain want specs turned.frames (All-tail IsSpec spec specs limits) (All-tail TurnsEach spec specs each) (All-tail P spec specs h),
    )

-- ---- a chain

-- what such a plan's rate needs and allows
module _ (plan : PlanSeen) (each : All TurnsEach plan.stages) where
  unrated : rate_in_plan plan ≡ unchanged
  unrated = rate-unrated plan.stages (All-weaker TurnsEach IsUnrated (λ spec one. one.unrated) plan.stages each)

  needs : (n : ℕ) → need (rate_in_plan plan) n ≡ n
  needs n = ap (λ r. need r n) unrated ∙ need-unchanged n

  allows : (n : ℕ) → can (rate_in_plan plan) n ≡ n
  allows n = ap (λ r. can r n) unrated ∙ can-unchanged n

  -- frames that pass it by are all eaten and given
  passes : (eaten given more : ℕ) → eaten ≡ given → Asks (rate_in_plan plan) eaten given more more more
  passes eaten given more same = record { all = omega (arith, same, needs (given + more)); gives = omega (arith, same, allows (eaten + more)) }

-- a chain of such stages that is left alone is as far as if it had been fed the frames that pass it by
pub passed-far : {B : Type 0} (kept : B → Kept) (tables : Filters) (chain : ChainOf B) (more : List Frame) (eaten given : ℕ) → All TurnsEach (plan_in chain).stages → HaveChannels (channels_of (plan_in chain).source) more
    → IsJustSoFar kept tables chain eaten given → IsJustSoFar kept tables chain (eaten + length more) (given + length more)
passed-far kept tables chain more eaten given each have h =
    let plan = plan_in chain in
    let limits = h.far.fits in
    let same = h.exact ∙ needs plan each given in
    let none : eaten + 0 ≡ eaten = omega arith in
    let still : eaten + length more ≡ eaten + length more + 0 = omega arith in
    let exact : eaten + length more ≡ need (rate_in_plan plan) (given + length more) = omega (arith, same, needs plan each (given + length more)) in
    let before = subst (λ n. AreSoFar (kept_in kept (boxes_in chain)) tables plan.stages n given) none h.far.stages in
    let done = fed-far (kept_in kept (boxes_in chain)) (kept_in kept (boxes_in chain)) tables unity (length more) plan.stages (channels_of plan.source) (channels_of plan.target) eaten more given (length more)
    limits.specs limits.one_rate limits.follow before have (passes plan each eaten given (length more) same)
    (fed-alone (kept_in kept (boxes_in chain)) tables unity (length more) plan.stages more limits.specs each (far-fitted kept tables chain eaten 0 given h.far)) in
    record {
      far = record {
        fits = limits;
        counts = stands-level (rate_in_plan plan) (counts_in chain) eaten given (length more) (unrated plan each) h.far.counts;
        silent = omega (arith, exact);
        stages = subst (λ n. AreSoFar (kept_in kept (boxes_in chain)) tables plan.stages n (given + length more)) still done.far;
      };
      exact = exact;
    }

-- a chain of such stages that is left alone stands for the frames that pass it by, too
pub passed-by : {B : Type 0} (kept : B → Kept) (tables : Filters) (chain : ChainOf B) (x more : List Frame) (given : ℕ) → All TurnsEach (plan_in chain).stages → HaveChannels (channels_of (plan_in chain).source) more
    → GivesExactly kept tables chain x given → GivesExactly kept tables chain (x ++ more) (given + length more)
passed-by kept tables chain x more given each have h = record {
  stands = record {
    fits = h.stands.fits;
    frames = All-append (λ (frame : Frame). length frame ≡ c) x more h.stands.frames have;
    counts = far.far.counts;
    silent = far.far.silent;
    stages = subst (λ list. StagesStand keeps tables plan.stages list (given + length more)) (sym (append-nil (x ++ more))) stages;
  };
  exact = far.exact;
}
  where
    plan : PlanSeen
    plan = plan_in chain

    c : ℕ
    c = channels_of plan.source

    keeps : Spec → Kept
    keeps = kept_in kept (boxes_in chain)

    far : IsJustSoFar kept tables chain (length (x ++ more)) (given + length more)
    far = subst (λ n. IsJustSoFar kept tables chain n (given + length more)) (sym (length-append x more))
        (passed-far kept tables chain more (length x) given each have (record { far = chain-far kept tables chain x 0 given h.stands; exact = h.exact }))

    same : length x ≡ given
    same = h.exact ∙ needs plan each given

    before : StagesStand keeps tables plan.stages x given
    before = subst (λ list. StagesStand keeps tables plan.stages list given) (append-nil x) h.stands.stages

    limits : IsPlan plan
    limits = h.stands.fits

    stages : StagesStand keeps tables plan.stages (x ++ more) (given + length more)
    stages =
        (stages-fed keeps keeps tables unity (length more) plan.stages c (channels_of plan.target) x more given (length more) limits.specs limits.one_rate limits.follow before have
        (passes plan each (length x) given (length more) same)
        (fed-alone keeps tables unity (length more) plan.stages more limits.specs each (far-fitted kept tables chain (length x) 0 given (chain-far kept tables chain x 0 given h.stands)))).0
