-- Plans between settings, and what one gives.
use Rattle.std.specs.Prelude.{ℕ, List, [], ◌∷◌, ◌++◌, pos}
use Rattle.pcm_format.specs.declared.format.Format.TheVariants.{S16Le, S32Le}
use Rattle.pcm_format.specs.declared.layout.Layout.{Layout}
use Rattle.pcm_format.specs.declared.layout.Layout.TheVariants.{One, Two, Six}
use Rattle.pcm_format.specs.declared.settings.Settings.{Settings}
use Rattle.pcm_format.specs.Frames.{Frame}
use Rattle.pcm_format.specs.Layouts.{channels_of}
use Rattle.pcm_desk.specs.Usual.{usual_device}
use Rattle.pcm_desk.specs.Device.{DeviceSeen}
use Rattle.pcm_feeder.specs.Filters.{no_filters, Filters}
use Rattle.pcm_feeder.specs.declared.stage.Spec.{Spec}
use Rattle.pcm_feeder.specs.declared.stage.Spec.TheVariants.{Matrix, Linear, Volume, Depth}
use Rattle.pcm_feeder.specs.Layouts.{unity}
use Rattle.pcm_plan.specs.Plans.{PlanSeen, plan_play}
use Rattle.pcm_plan.specs.Through.{outs}
use Rattle.pcm_rows.specs.Calls.{device_in}
use Rattle.pcm_rows.specs.Stages.{levels}

-- settings of 16 bits
abbrev pub sixteen_bits : Layout → ℕ → Settings
sixteen_bits layout rate = record { format = S16Le; layout = layout; rate = rate }

-- six channels of 16 bits at the rate of the device
abbrev pub six_settings : Settings
six_settings = sixteen_bits Six 48000

-- a plan between two layouts
abbrev pub plan_of : Layout → Layout → List Spec → PlanSeen
plan_of source target stages = record { source = source; target = target; stages = stages }

-- a plan to a device of 16 bits, whose volume and depth come last
abbrev pub plan_16 : Layout → Layout → List Spec → PlanSeen
plan_16 source target stages = plan_of source target (stages ++ Volume target ∷ Depth 16 (channels_of target) ∷ [])

-- the stages from one channel to two of 16 bits, of which the first is given
abbrev pub stages_after : Spec → List Spec
stages_after first = first ∷ Matrix One Two ∷ Volume Two ∷ Depth 16 2 ∷ []

-- a device of 32 bits
abbrev pub wide_device : DeviceSeen
wide_device = device_in (record { format = S32Le; layout = Two; rate = 48000 }) usual_device

-- a plan whose converter draws lines
abbrev pub plan_by_lines : Settings → Settings → PlanSeen
plan_by_lines client device = plan_play no_filters 1 client device

-- one channel at 24000 to two at 48000, by a quality and filters
abbrev pub doubling_plan : Filters → ℕ → PlanSeen
doubling_plan tables quality = plan_play tables quality (sixteen_bits One 24000) (sixteen_bits Two 48000)

-- 0 and 100 of 16 bits, at 32 bits
abbrev pub high_step : List Frame
high_step = levels (0 ∷ 6553600 ∷ [])

-- the first frames of a plan without a filter, at a gain of one
abbrev pub first_outs : PlanSeen → List Frame → ℕ → List Frame
first_outs plan frames count = outs plan no_filters unity frames 0 count

-- two channels of 32 bits at 24000 to one at 48000
abbrev pub downmix_plan : PlanSeen
downmix_plan = plan_by_lines (record { format = S32Le; layout = Two; rate = 24000 }) (record { format = S32Le; layout = One; rate = 48000 })

-- the same stages with the rate before the matrix, which is no plan of a client
abbrev pub late_downmix_plan : PlanSeen
late_downmix_plan = plan_of Two One (Linear 24000 48000 2 ∷ Matrix Two One ∷ Volume One ∷ [])

-- 1 and 0, and then 1 and 2
abbrev pub downmix_frames : List Frame
downmix_frames = (pos 1 ∷ pos 0 ∷ []) ∷ (pos 1 ∷ pos 2 ∷ []) ∷ []
