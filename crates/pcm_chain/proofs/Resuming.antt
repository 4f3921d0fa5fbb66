-- Boxes that keep what others keep: how they come to it, and that they stand for the same frames.
use Rattle.std.proofs.Common.{◌≡◌, ◌<◌, ℕ, ℤ, List, [], ◌∷◌, ◌++◌, ◌+◌, ◌-◌, length, replicate, get_or, All, sym, subst}
use Rattle.std.proofs.lemmas.List.Elements.{All-head, All-tail}
use Rattle.pcm_format.specs.Frames.{Frame}
use Rattle.pcm_format.specs.Layouts.{channels_of}
use Rattle.pcm_rate.specs.Rates.{need, can}
use Rattle.pcm_feeder.specs.declared.kind.Kind.{Kind}
use Rattle.pcm_feeder.specs.declared.rack.SevenOf.{SevenOf}
use Rattle.pcm_feeder.specs.declared.stage.Progress.{Progress}
use Rattle.pcm_feeder.specs.declared.stage.Spec.{Spec}
use Rattle.pcm_feeder.specs.Filters.{Filters}
use Rattle.pcm_feeder.specs.Kept.{Kept, resumed, CanResume, IsKeptAs}
use Rattle.pcm_feeder.specs.Limits.{IsSpec}
use Rattle.pcm_feeder.specs.Streams.{silence, HaveChannels}
use Rattle.pcm_feeder.proofs.Resumed.{resumes}
use Rattle.pcm_plan.specs.Fits.{IsPlan}
use Rattle.pcm_plan.specs.Plans.{PlanSeen, rate_in_plan}
use Rattle.pcm_chain.specs.declared.chain.ChainOf.{ChainOf}
use Rattle.pcm_chain.specs.Boxes.{kept_in, HaveFitted, HaveResumed, KeepAlike}
use Rattle.pcm_chain.specs.Chains.{boxes_in, counts_in, plan_in, AreFitted, ChainStands, StagesStand}
use Rattle.pcm_chain.specs.Counts.{StandFor}
use Rattle.pcm_chain.specs.Far.{AreSoFar}
use Rattle.pcm_chain.specs.Resumes.{IsAsFar, Resumes, StandsAs}

-- ---- a stage, and stages

-- what the box of a stage keeps can be resumed, and nothing of it is lost
pub resumes-at : {B : Type 0} (kept : B → Kept) (others : SevenOf B) (specs : List Spec) (i : ℕ) (d : Spec) (progress : Progress) (samples : List ℤ) → All IsSpec specs
    → HaveFitted kept others specs → i < length specs → IsKeptAs (kept_in kept others (get_or specs i d)) progress samples
    → CanResume (get_or specs i d) progress samples × (resumed (get_or specs i d) progress samples ≡ kept_in kept others (get_or specs i d))
resumes-at kept others specs i d progress samples limits fits within told =
    resumes (get_or specs i d) (limits i d within) (kept_in kept others (get_or specs i d)) progress samples (fits i d within) told

-- stages whose boxes keep the same stand for the same
pub stages-alike : (keeps others : Spec → Kept) (tables : Filters) (specs : List Spec) (x : List Frame) (given : ℕ) → All (λ spec. keeps spec ≡ others spec) specs
    → StagesStand others tables specs x given → StagesStand keeps tables specs x given
stages-alike keeps others tables [] x given alike h = h
stages-alike keeps others tables (spec ∷ specs) x given alike h =
    let P : Spec → Type 0 = λ s. keeps s ≡ others s in (
      h.0,
      rw (All-head P spec specs alike) h.1,
      h.2,
      stages-alike keeps others tables specs h.0 given (All-tail P spec specs alike) h.3,
    )

-- and are as far
far-alike : (keeps others : Spec → Kept) (tables : Filters) (specs : List Spec) (eaten given : ℕ) → All (λ spec. keeps spec ≡ others spec) specs
    → AreSoFar others tables specs eaten given → AreSoFar keeps tables specs eaten given
far-alike keeps others tables [] eaten given alike h = h
far-alike keeps others tables (spec ∷ specs) eaten given alike h =
    let P : Spec → Type 0 = λ s. keeps s ≡ others s in (
      h.0,
      rw (All-head P spec specs alike) h.1,
      far-alike keeps others tables specs h.0 given (All-tail P spec specs alike) h.2,
    )

-- and are fitted as these
fitted-alike : {B : Type 0} (kept : B → Kept) (boxes others : SevenOf B) (specs : List Spec) → KeepAlike kept specs boxes others → HaveFitted kept others specs → HaveFitted kept boxes specs
fitted-alike kept boxes others specs alike fits i d below = rw (alike i d below) (fits i d below)

-- ---- a chain

-- a chain by another's plan and counts, whose boxes keep what that one's keep, stands for the same
chain-alike : {B : Type 0} (kept : B → Kept) (other chain : ChainOf B) → plan_in chain ≡ plan_in other → counts_in chain ≡ counts_in other
    → KeepAlike kept (plan_in chain).stages (boxes_in chain) (boxes_in other) → StandsAs kept other chain
chain-alike kept other chain plan counts alike tables x zeros given h = record {
  fits = subst IsPlan (sym plan) h.fits;
  frames = subst (λ p. HaveChannels (channels_of p.source) x) (sym plan) h.frames;
  counts = subst (λ n. StandFor (rate_in_plan chain.plan) n (length x) given) (sym counts)
      (subst (λ p. StandFor (rate_in_plan p) other.counts (length x) given) (sym plan) h.counts);
  silent = subst (λ p. zeros ≡ need (rate_in_plan p) given - length x) (sym plan) h.silent;
  stages = stages-alike (kept_in kept chain.boxes) (kept_in kept other.boxes) tables chain.plan.stages (fed chain.plan) given alike
      (subst (λ p. StagesStand (kept_in kept other.boxes) tables p.stages (fed p) given) (sym plan) h.stages);
}
  where
    fed : PlanSeen → List Frame
    fed p = x ++ replicate zeros (silence (channels_of p.source))

-- and is as far
chain-as-far : {B : Type 0} (kept : B → Kept) (other chain : ChainOf B) → plan_in chain ≡ plan_in other → counts_in chain ≡ counts_in other
    → KeepAlike kept (plan_in chain).stages (boxes_in chain) (boxes_in other) → IsAsFar kept other chain
chain-as-far kept other chain plan counts alike tables eaten zeros given h = record {
  fits = subst IsPlan (sym plan) h.fits;
  counts = subst (λ n. StandFor (rate_in_plan chain.plan) n eaten given) (sym counts)
      (subst (λ p. StandFor (rate_in_plan p) other.counts eaten given) (sym plan) h.counts);
  silent = subst (λ p. zeros ≡ need (rate_in_plan p) given - eaten) (sym plan) h.silent;
  stages = far-alike (kept_in kept chain.boxes) (kept_in kept other.boxes) tables chain.plan.stages (eaten + zeros) given alike
      (subst (λ p. AreSoFar (kept_in kept other.boxes) tables p.stages (eaten + zeros) given) (sym plan) h.stages);
}

-- and so it has resumed
pub chain-resumes : {B : Type 0} (kind : B → Kind) (kept : B → Kept) (mark : B → ℕ) (other old chain : ChainOf B) → AreFitted kept other → plan_in chain ≡ plan_in other
    → counts_in chain ≡ counts_in other → HaveResumed kind kept mark (plan_in chain).stages (boxes_in other) (boxes_in old) (boxes_in chain)
    → Resumes kind kept mark other old chain
chain-resumes kind kept mark other old chain fits plan counts boxes =
    let stands = chain-alike kept other chain plan counts boxes.alike in
    record {
      plan = plan;
      kinds = boxes.kinds;
      marks = boxes.marks;
      fitted = fitted-alike kept chain.boxes other.boxes chain.plan.stages boxes.alike
          (subst (λ p. HaveFitted kept other.boxes p.stages) (sym plan) fits);
      far = chain-as-far kept other chain plan counts boxes.alike;
      stands = stands;
      records = λ tables x h. subst (λ p. ChainStands kept tables chain x 0 (can (rate_in_plan p) (length x))) (sym plan)
          (stands tables x 0 (can (rate_in_plan other.plan) (length x)) h);
      exactly = λ tables x given h. record {
        stands = stands tables x 0 given h.stands;
        exact = subst (λ p. length x ≡ need (rate_in_plan p) given) (sym plan) h.exact;
      };
    }
