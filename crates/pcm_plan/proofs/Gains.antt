-- Without a volume the gain changes no output.
use Rattle.std.proofs.Common.{◌≡◌, ◌≢◌, ℕ, ℤ, pos, negsuc, List, [], ◌∷◌, map, refl, ap, ◌∙◌}
use Rattle.std.specs.List.{range_with_len}
use Rattle.std.proofs.Math.Path.{fun_ext}
use Rattle.std.proofs.lemmas.List.Elements.{All-head, All-tail}
use Rattle.pcm_format.specs.Frames.{Frame}
use Rattle.pcm_format.specs.Layouts.{channels_of}
use Rattle.pcm_feeder.specs.declared.kind.Kind.TheVariants as kinds
use Rattle.pcm_feeder.specs.declared.stage.Gain.{Gain}
use Rattle.pcm_feeder.specs.declared.stage.Spec.{Spec}
use Rattle.pcm_feeder.specs.Filters.{Filters}
use Rattle.pcm_feeder.specs.Kinds.{kind_of}
use Rattle.pcm_feeder.specs.Layouts.{unity}
use Rattle.pcm_feeder.specs.Stages.{all_outputs}
use Rattle.pcm_feeder.specs.Streams.{Stream, stream_of}
use Rattle.pcm_feeder.proofs.Outputs.{conv-gain}
use Rattle.pcm_plan.specs.Fits.{HaveNoVolume}
use Rattle.pcm_plan.specs.Plans.{PlanSeen}
use Rattle.pcm_plan.specs.Through.{through, out, outs, rec, recs}
use Rattle.pcm_plan.proofs.Through.{through-same}

-- what comes out of stages without a volume is the same at every gain
through-gain : (tables : Filters) (gain other : Gain) (specs : List Spec) (x : Stream) → HaveNoVolume specs
    → (place : ℤ) → through tables gain specs x place ≡ through tables other specs x place
through-gain tables gain other [] x none place = refl
through-gain tables gain other (spec ∷ specs) x none place =
    let P : Spec → Type 0 = λ s. kind_of s ≢ kinds.Volume in
    through-same tables gain specs (all_outputs spec tables gain x) (all_outputs spec tables other x) same place
    ∙ through-gain tables gain other specs (all_outputs spec tables other x) (All-tail P spec specs none) place
  where
    same : (at : ℤ) → all_outputs spec tables gain x at ≡ all_outputs spec tables other x at
    same (pos k) = conv-gain spec tables gain other x k (All-head (λ s. kind_of s ≢ kinds.Volume) spec specs none)
    same (negsuc k) = refl

-- so is a frame that a plan without a volume gives
pub rec-out : (plan : PlanSeen) (tables : Filters) (frames : List Frame) (k : ℕ) (gain : Gain) → HaveNoVolume plan.stages
    → rec plan tables frames k ≡ out plan tables frames k gain
rec-out plan tables frames k gain none = through-gain tables unity gain plan.stages (stream_of (channels_of plan.source) frames) none (pos k)

-- and so are several
pub recs-outs : (plan : PlanSeen) (tables : Filters) (gain : Gain) (frames : List Frame) (from count : ℕ) → HaveNoVolume plan.stages
    → recs plan tables frames from count ≡ outs plan tables gain frames from count
recs-outs plan tables gain frames from count none =
    ap (λ (f : ℕ → Frame). map f (range_with_len from count)) (fun_ext (λ k. rec-out plan tables frames k gain none))
