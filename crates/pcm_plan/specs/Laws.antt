-- What holds of all plans, one claim each.
use Rattle.std.specs.Prelude.{◌≡◌, ◌<◌, ◌≤◌, ◌+◌, ℕ, List, ◌++◌, length}
use Rattle.pcm_format.specs.declared.settings.Settings.{Settings}
use Rattle.pcm_format.specs.Formats.{bits_of}
use Rattle.pcm_format.specs.Frames.{Frame}
use Rattle.pcm_format.specs.Layouts.{channels_of}
use Rattle.pcm_rate.specs.Rates.{can}
use Rattle.pcm_feeder.specs.declared.stage.Gain.{Gain}
use Rattle.pcm_feeder.specs.Filters.{Filters}
use Rattle.pcm_feeder.specs.Limits.{IsRate, AreFilters}
use Rattle.pcm_feeder.specs.Streams.{HaveChannels}
use Rattle.pcm_plan.specs.Plans.{PlanSeen, plan_record, rate_in_plan}
use Rattle.pcm_plan.specs.Fits.{HaveNoVolume, HaveBits}
use Rattle.pcm_plan.specs.Through.{out, outs, rec, recs}

-- ---- plans between settings

-- how a plan is made, by filters and a quality, between a client's settings and a device's
abbrev pub Planning : Type 0
Planning = Filters → ℕ → Settings → Settings → PlanSeen

-- this holds of each plan that is made between rates within the limits
abbrev pub HoldsOfPlans : Planning → (PlanSeen → Filters → Type 0) → Type 0
HoldsOfPlans planned P = (tables : Filters) (quality : ℕ) (client device : Settings)
    → AreFilters tables → IsRate client.rate → IsRate device.rate
    → P (planned tables quality client device) tables

-- no plan that is made has a volume
abbrev pub PlansNoVolume : Planning → Type 0
PlansNoVolume planned = (tables : Filters) (quality : ℕ) (client device : Settings)
    → HaveNoVolume (planned tables quality client device).stages

-- what a client records of frames of 32 bits has the bits of its format
abbrev pub RecordsItsBits : Settings → Type 0
RecordsItsBits client = (tables : Filters) (quality : ℕ) (device : Settings) (frames : List Frame)
    (from count : ℕ) → HaveBits 32 frames → HaveBits (bits_of client.format)
    (recs (plan_record tables quality client device) tables frames from count)

-- ---- what a plan gives

-- each frame that it gives for some frames stays the same when more follow them
abbrev pub KeepsEachOutput : PlanSeen → Type 0
KeepsEachOutput plan = (tables : Filters) (frames more : List Frame) (k : ℕ) (gain : Gain)
    → k < can (rate_in_plan plan) (length frames)
    → out plan tables (frames ++ more) k gain ≡ out plan tables frames k gain

-- and so do several at once
abbrev pub KeepsOutputs : PlanSeen → Type 0
KeepsOutputs plan = (tables : Filters) (gain : Gain) (frames more : List Frame) (from count : ℕ)
    → from + count ≤ can (rate_in_plan plan) (length frames)
    → outs plan tables gain (frames ++ more) from count ≡ outs plan tables gain frames from count

-- what it gives without a volume is what it gives at any gain
abbrev pub GivesEachAtAnyGain : PlanSeen → Type 0
GivesEachAtAnyGain plan = (tables : Filters) (frames : List Frame) (k : ℕ) (gain : Gain)
    → rec plan tables frames k ≡ out plan tables frames k gain

-- and so do several at once
abbrev pub GivesAllAtAnyGain : PlanSeen → Type 0
GivesAllAtAnyGain plan = (tables : Filters) (gain : Gain) (frames : List Frame) (from count : ℕ)
    → recs plan tables frames from count ≡ outs plan tables gain frames from count

-- it gives as many frames as it is asked for
abbrev pub GivesTheCount : PlanSeen → Type 0
GivesTheCount plan = (tables : Filters) (gain : Gain) (frames : List Frame) (from count : ℕ)
    → length (outs plan tables gain frames from count) ≡ count

-- what it gives for frames of its source has the channels of its target
abbrev pub GivesTargetChannels : PlanSeen → Type 0
GivesTargetChannels plan = (tables : Filters) (gain : Gain) (frames : List Frame) (from count : ℕ)
    → HaveChannels (channels_of plan.source) frames
    → HaveChannels (channels_of plan.target) (outs plan tables gain frames from count)

-- it gives in parts what it gives at once
abbrev pub GivesInParts : PlanSeen → Type 0
GivesInParts plan = (tables : Filters) (gain : Gain) (frames : List Frame) (from n m : ℕ)
    → outs plan tables gain frames from (n + m)
    ≡ outs plan tables gain frames from n ++ outs plan tables gain frames (from + n) m
