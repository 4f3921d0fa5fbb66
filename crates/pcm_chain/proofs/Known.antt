-- A chain is known by its plan, its counts and the samples that it keeps of the past.
use Rattle.std.proofs.Common.{◌≡◌, ◌+◌, ◌-◌, ◌*◌, ◌/◌, ℕ, ℤ, pos, ◌-ℤ◌, List, [], ◌∷◌, ◌++◌, length, take, drop, replicate, All, refl, sym, ap, ◌∙◌, subst, arith}
use Rattle.std.proofs.lemmas.List.{length-append, length-replicate}
use Rattle.std.proofs.lemmas.List.Elements.{All-nil, All-cons, All-head, All-tail}
use Rattle.std.proofs.Math.Seq.{take-append_seam, drop-append_seam}
use Rattle.std.proofs.Math.IntN.{+ℤ-neg_ℤ_cancel}
use Rattle.pcm_format.specs.Frames.{Frame}
use Rattle.pcm_format.specs.Layouts.{channels_of}
use Rattle.pcm_rate.specs.Rates.{need, unchanged}
use Rattle.pcm_rate.proofs.Counts.{need-unchanged}
use Rattle.pcm_feeder.specs.declared.stage.Progress.{Progress}
use Rattle.pcm_feeder.specs.declared.stage.Spec.{Spec}
use Rattle.pcm_feeder.specs.declared.stage.Spec.TheVariants.{Matrix, Hold, Linear, Poly, Volume, Depth, Eq}
use Rattle.pcm_feeder.specs.Filters.{Filters}
use Rattle.pcm_feeder.specs.Kept.{Kept, IsFitted}
use Rattle.pcm_feeder.specs.Limits.{IsSpec}
use Rattle.pcm_feeder.specs.Stages.{rate_of, channels_in}
use Rattle.pcm_feeder.specs.Streams.{interleaved, silence, HaveChannels}
use Rattle.pcm_feeder.proofs.Frames.{length-interleaved}
use Rattle.pcm_feeder.proofs.Resumed.{resumes}
use Rattle.pcm_plan.specs.Plans.{PlanSeen, rate_in_plan}
use Rattle.pcm_plan.specs.Fits.{HaveOneRate, IsUnrated}
use Rattle.pcm_plan.proofs.Fits.{one-rate-unrated}
use Rattle.pcm_chain.specs.declared.chain.ChainOf.{ChainOf}
use Rattle.pcm_chain.specs.Boxes.{kept_in}
use Rattle.pcm_chain.specs.Chains.{plan_in, AreFitted, StagesStand}
use Rattle.pcm_chain.specs.Counts.{StandFor}
use Rattle.pcm_chain.specs.Far.{AreSoFar, ChainIsSoFar, IsSoFar}
use Rattle.pcm_chain.specs.Pasts.{past_in, past_of, past_size, past_sizes, ChainsAreAlike, StandsAlike}
use Rattle.pcm_chain.proofs.Resuming.{stages-alike}

-- ---- whichever the filters are

-- how far a feeder is doesn't depend on the filters
stage-anyhow : (spec : Spec) (tables other : Filters) (kept : Kept) (eaten given : ℕ) → IsSoFar spec tables kept eaten given → IsSoFar spec other kept eaten given
stage-anyhow spec tables other kept eaten given h = record {
  fitted = h.fitted;
  stands = record {
    fitted = h.stands.fitted;
    phase = h.stands.phase;
    ahead = h.stands.ahead;
    least = h.stands.least;
    most = h.stands.most;
    tail = refl;
    frames = h.stands.frames;
  };
}

stages-anyhow : (keeps : Spec → Kept) (tables other : Filters) (specs : List Spec) (eaten given : ℕ) → AreSoFar keeps tables specs eaten given → AreSoFar keeps other specs eaten given
stages-anyhow keeps tables other [] eaten given h = h
stages-anyhow keeps tables other (spec ∷ specs) eaten given h = (
  h.0,
  stage-anyhow spec tables other (keeps spec) eaten h.0 h.1,
  stages-anyhow keeps tables other specs h.0 given h.2,
)

-- nor does it of a chain
pub far-anyhow : {B : Type 0} (kept : B → Kept) (tables other : Filters) (chain : ChainOf B) (eaten zeros given : ℕ) → ChainIsSoFar kept tables chain eaten zeros given
    → ChainIsSoFar kept other chain eaten zeros given
far-anyhow kept tables other chain eaten zeros given h = record {
  fits = h.fits;
  counts = h.counts;
  silent = h.silent;
  stages = stages-anyhow (kept_in kept chain.boxes) tables other chain.plan.stages (eaten + zeros) given h.stages;
}

-- ---- what feeders keep that are as far

-- two lists that begin with as many items are the same where both parts are
append-parts : {A : Type 0} (a b c d : List A) → length a ≡ length b → a ++ c ≡ b ++ d → (a ≡ b) × (c ≡ d)
append-parts a b c d long same = (
  sym (take-append_seam a c) ∙ ap (take (length a)) same ∙ ap (λ n. take n (b ++ d)) long ∙ take-append_seam b d,
  sym (drop-append_seam a c) ∙ ap (drop (length a)) same ∙ ap (λ n. drop n (b ++ d)) long ∙ drop-append_seam b d,
)

same-kept : (spec : Spec) (tables : Filters) (one other : Kept) (eaten given : ℕ) → IsSpec spec → IsSoFar spec tables one eaten given → IsSoFar spec tables other eaten given
    → interleaved other.tail ≡ interleaved one.tail → other ≡ one
same-kept spec tables one other eaten given is a b same =
    let progress : Progress = record { phase = one.phase; ahead = one.ahead } in
    let samples = interleaved one.tail in
    let given_ahead : ℤ = pos (given * (rate_of spec).src / (rate_of spec).dst) in
    let ahead : one.ahead ≡ other.ahead =
    sym (+ℤ-neg_ℤ_cancel one.ahead given_ahead) ∙ ap (λ z. z -ℤ given_ahead) (a.stands.ahead ∙ sym b.stands.ahead) ∙ +ℤ-neg_ℤ_cancel other.ahead given_ahead in
    sym (resumes spec is other progress samples b.fitted (record { phase = a.stands.phase ∙ sym b.stands.phase; ahead = ahead; tail = sym same })).1
    ∙ (resumes spec is one progress samples a.fitted (record { phase = refl; ahead = refl; tail = refl })).1

-- how many samples a fitted feeder keeps
pub length-past : (spec : Spec) (kept : Kept) → IsFitted spec kept → length (interleaved kept.tail) ≡ past_size spec
length-past spec kept fits = length-interleaved (channels_in spec) kept.tail fits.frames ∙ ap (λ n. n * channels_in spec) fits.count

length-pasts : (keeps : Spec → Kept) (specs : List Spec) → All (λ spec. IsFitted spec (keeps spec)) specs → length (past_in keeps specs) ≡ past_sizes specs
length-pasts keeps [] fits = refl
length-pasts keeps (spec ∷ specs) fits =
    let P : Spec → Type 0 = λ s. IsFitted s (keeps s) in
    omega (arith, length-append (interleaved (keeps spec).tail) (past_in keeps specs), length-past spec (keeps spec) (All-head P spec specs fits), length-pasts keeps specs (All-tail P spec specs fits))

-- and a chain that is fitted
pub length-past-of : {B : Type 0} (kept : B → Kept) (chain : ChainOf B) → AreFitted kept chain → length (past_of kept chain) ≡ past_sizes (plan_in chain).stages
length-past-of kept chain fits = length-pasts (kept_in kept chain.boxes) chain.plan.stages fits

-- ---- counts between stages

level-stage : (spec : Spec) (tables : Filters) (kept : Kept) (eaten given : ℕ) → rate_of spec ≡ unchanged → IsSoFar spec tables kept eaten given → eaten ≡ given
level-stage spec tables kept eaten given rate h =
    let long = length-replicate eaten (silence (channels_in spec)) in
    let one = ap (λ r. need r given) rate ∙ need-unchanged given in
    let next = ap (λ r. need r (given + 1)) rate ∙ need-unchanged (given + 1) in
    omega (arith, h.stands.least, h.stands.most, long, one, next)

-- stages that keep the rate have eaten what they gave
level-stages : (keeps : Spec → Kept) (tables : Filters) (specs : List Spec) (eaten given : ℕ) → All IsUnrated specs → AreSoFar keeps tables specs eaten given → eaten ≡ given
level-stages keeps tables [] eaten given level h = h
level-stages keeps tables (spec ∷ specs) eaten given level h =
    level-stage spec tables (keeps spec) eaten h.0 (All-head IsUnrated spec specs level) h.1
    ∙ level-stages keeps tables specs h.0 given (All-tail IsUnrated spec specs level) h.2

-- so what lies between two stages follows from the ends
behind : (one other : Spec → Kept) (tables : Filters) (specs : List Spec) (m n given : ℕ) → All IsUnrated specs → AreSoFar one tables specs m given → AreSoFar other tables specs n given → n ≡ m
behind one other tables specs m n given level a b = level-stages other tables specs n given level b ∙ sym (level-stages one tables specs m given level a)

before : (spec : Spec) (tables : Filters) (one other : Kept) (eaten m n : ℕ) → rate_of spec ≡ unchanged → IsSoFar spec tables one eaten m → IsSoFar spec tables other eaten n → n ≡ m
before spec tables one other eaten m n rate a b = sym (level-stage spec tables other eaten n rate b) ∙ level-stage spec tables one eaten m rate a

same-middle : (one other : Spec → Kept) (tables : Filters) (spec : Spec) (specs : List Spec) (eaten given : ℕ) → HaveOneRate (spec ∷ specs)
    → (a : AreSoFar one tables (spec ∷ specs) eaten given) (b : AreSoFar other tables (spec ∷ specs) eaten given) → b.0 ≡ a.0
same-middle one other tables (Matrix from to) specs eaten given rates a b = before (Matrix from to) tables (one (Matrix from to)) (other (Matrix from to)) eaten a.0 b.0 refl a.1 b.1
same-middle one other tables (Hold src dst channels) specs eaten given rates a b = behind one other tables specs a.0 b.0 given rates a.2 b.2
same-middle one other tables (Linear src dst channels) specs eaten given rates a b = behind one other tables specs a.0 b.0 given rates a.2 b.2
same-middle one other tables (Poly src dst channels table taps) specs eaten given rates a b = behind one other tables specs a.0 b.0 given rates a.2 b.2
same-middle one other tables (Volume layout) specs eaten given rates a b = before (Volume layout) tables (one (Volume layout)) (other (Volume layout)) eaten a.0 b.0 refl a.1 b.1
same-middle one other tables (Depth bits channels) specs eaten given rates a b = before (Depth bits channels) tables (one (Depth bits channels)) (other (Depth bits channels)) eaten a.0 b.0 refl a.1 b.1
same-middle one other tables (Eq channels sections) specs eaten given rates a b = before (Eq channels sections) tables (one (Eq channels sections)) (other (Eq channels sections)) eaten a.0 b.0 refl a.1 b.1

one-rate-tail : (spec : Spec) (specs : List Spec) → HaveOneRate (spec ∷ specs) → HaveOneRate specs
one-rate-tail (Matrix from to) specs rates = rates
one-rate-tail (Hold src dst channels) specs rates = one-rate-unrated specs rates
one-rate-tail (Linear src dst channels) specs rates = one-rate-unrated specs rates
one-rate-tail (Poly src dst channels table taps) specs rates = one-rate-unrated specs rates
one-rate-tail (Volume layout) specs rates = rates
one-rate-tail (Depth bits channels) specs rates = rates
one-rate-tail (Eq channels sections) specs rates = rates

-- ---- stages, and a chain

stages-known : (one other : Spec → Kept) (tables : Filters) (specs : List Spec) (eaten given : ℕ) → All IsSpec specs → HaveOneRate specs
    → AreSoFar one tables specs eaten given → AreSoFar other tables specs eaten given → past_in other specs ≡ past_in one specs
    → All (λ spec. other spec ≡ one spec) specs
stages-known one other tables [] eaten given limits rates a b same = All-nil (λ spec. other spec ≡ one spec)
stages-known one other tables (spec ∷ specs) eaten given limits rates a b same =
    let between = same-middle one other tables spec specs eaten given rates a b in
    let b_here = subst (λ n. IsSoFar spec tables (other spec) eaten n) between b.1 in
    let b_rest = subst (λ n. AreSoFar other tables specs n given) between b.2 in
    let long = length-past spec (other spec) b.1.fitted ∙ sym (length-past spec (one spec) a.1.fitted) in
    let parts = append-parts (interleaved (other spec).tail) (interleaved (one spec).tail) (past_in other specs) (past_in one specs) long same in
    All-cons (λ s. other s ≡ one s) spec specs
    (same-kept spec tables (one spec) (other spec) eaten a.0 (All-head IsSpec spec specs limits) a.1 b_here parts.0)
    (stages-known one other tables specs a.0 given (All-tail IsSpec spec specs limits) (one-rate-tail spec specs rates) a.2 b_rest parts.1)

-- Two chains that are as far by one plan, and keep the same samples: whatever frames the one has eaten, the other has eaten too.
pub chain-known : {B : Type 0} (kept : B → Kept) (tables : Filters) (one other : ChainOf B) (eaten zeros given : ℕ)
    → ChainIsSoFar kept tables one eaten zeros given → ChainIsSoFar kept tables other eaten zeros given → ChainsAreAlike kept one other
    → StandsAlike kept eaten given one other
chain-known kept tables one other eaten zeros given a b alike filters x silent long h =
    let a_stages = subst (λ (p : PlanSeen). AreSoFar (kept_in kept one.boxes) tables p.stages (eaten + zeros) given) (sym alike.plan) a.stages in
    let keeps = alike.keeps ∙ ap (λ (p : PlanSeen). past_in (kept_in kept one.boxes) p.stages) (sym alike.plan) in
    let same = stages-known (kept_in kept one.boxes) (kept_in kept other.boxes) tables other.plan.stages (eaten + zeros) given b.fits.specs b.fits.one_rate a_stages b.stages keeps in
    record {
      fits = b.fits;
      frames = subst (λ (p : PlanSeen). HaveChannels (channels_of p.source) x) (sym alike.plan) h.frames;
      counts = subst (λ n. StandFor (rate_in_plan other.plan) other.counts n given) (sym long) b.counts;
      silent = subst (λ (p : PlanSeen). silent ≡ need (rate_in_plan p) given - length x) (sym alike.plan) h.silent;
      stages = stages-alike (kept_in kept other.boxes) (kept_in kept one.boxes) filters other.plan.stages (fed other.plan) given same
          (subst (λ (p : PlanSeen). StagesStand (kept_in kept one.boxes) filters p.stages (fed p) given) (sym alike.plan) h.stages);
    }
  where
    fed : PlanSeen → List Frame
    fed p = x ++ replicate silent (silence (channels_of p.source))
