-- What comes out of stages: the composition of their functions over whole streams.
use Rattle.std.specs.Prelude.{ℕ, pos, List, [], ◌∷◌, map}
use Rattle.std.specs.List.{range_with_len}
use Rattle.pcm_format.specs.Layouts.{channels_of}
use Rattle.pcm_format.specs.Frames.{Frame}
use Rattle.pcm_feeder.specs.declared.stage.Gain.{Gain}
use Rattle.pcm_feeder.specs.declared.stage.Spec.{Spec}
use Rattle.pcm_feeder.specs.Filters.{Filters}
use Rattle.pcm_feeder.specs.Layouts.{unity}
use Rattle.pcm_feeder.specs.Streams.{Stream, stream_of}
use Rattle.pcm_feeder.specs.Stages.{all_outputs}
use Rattle.pcm_plan.specs.Plans.{PlanSeen}

-- a stream put through stages, one after another
abbrev pub through : Filters → Gain → List Spec → Stream → Stream
through tables gain [] x = x
through tables gain (spec ∷ specs) x = through tables gain specs (all_outputs spec tables gain x)

-- frame k that a plan gives for a whole list of frames, at a gain
abbrev pub out : PlanSeen → Filters → List Frame → ℕ → Gain → Frame
out plan tables frames k gain =
    through tables gain plan.stages (stream_of (channels_of plan.source) frames) (pos k)

-- `count` of them, from frame `from` on, at one gain
abbrev pub outs : PlanSeen → Filters → Gain → List Frame → ℕ → ℕ → List Frame
outs plan tables gain frames from count =
    map (λ k. out plan tables frames k gain) (range_with_len from count)

-- frame k that a plan without a volume gives
abbrev pub rec : PlanSeen → Filters → List Frame → ℕ → Frame
rec plan tables frames k = out plan tables frames k unity

-- `count` of them, from frame `from` on
abbrev pub recs : PlanSeen → Filters → List Frame → ℕ → ℕ → List Frame
recs plan tables frames from count = map (rec plan tables frames) (range_with_len from count)
