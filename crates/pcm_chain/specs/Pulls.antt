-- What a pull eats and gives.
use Rattle.std.specs.Prelude.{◌≡◌, ◌<◌, ◌≤◌, ℕ, ◌+◌, ◌-◌, ◌*◌, min, max, ℤ, Bool, IsTrue, List, [], ◌++◌, length, take, All}
use Rattle.pcm_num.specs.Limit.{FitsBits}
use Rattle.pcm_format.specs.declared.format.Format.{Format}
use Rattle.pcm_format.specs.Frames.{Frame}
use Rattle.pcm_format.specs.Layouts.{channels_of}
use Rattle.pcm_format.specs.Samples.{samples}
use Rattle.pcm_rate.specs.declared.rate.Rate.{Rate}
use Rattle.pcm_rate.specs.Rates.{need}
use Rattle.pcm_feeder.specs.declared.kind.Kind.{Kind}
use Rattle.pcm_feeder.specs.declared.stage.Gain.{Gain}
use Rattle.pcm_feeder.specs.Filters.{Filters}
use Rattle.pcm_feeder.specs.Kept.{Kept}
use Rattle.pcm_feeder.specs.Limits.{IsGain}
use Rattle.pcm_feeder.specs.Streams.{frames_of, written}
use Rattle.pcm_plan.specs.Plans.{PlanSeen, rate_in_plan}
use Rattle.pcm_plan.specs.Fits.{HaveBits, HaveTables}
use Rattle.pcm_plan.specs.Through.{outs}
use Rattle.pcm_ring.specs.Ring.{Ring}
use Rattle.pcm_chain.specs.declared.chain.ChainOf.{ChainOf}
use Rattle.pcm_chain.specs.declared.chain.Pulled.{Pulled}
use Rattle.pcm_chain.specs.Bits.{bits_left}
use Rattle.pcm_chain.specs.Chains.{plan_in, AreFitted, ChainStands, StaysFitted}
use Rattle.pcm_chain.specs.Counts.{allowed_in_all}
use Rattle.pcm_chain.specs.Far.{ChainIsSoFar}
use Rattle.pcm_chain.specs.Rings.{taken_bytes, without_bytes}

-- the whole frames that wait in a ring, in a plan's layout and a format
abbrev pub waiting_frames : PlanSeen → Format → List ℕ → List Frame
waiting_frames plan format bytes = frames_of (channels_of plan.source) (samples format bytes)

-- `want` frames can be pulled: the stages have boxes that are fitted, and their tables, and an output has room for these frames
pub record CanPull {B : Type 0} (kept : B → Kept) (tables : Filters) (gain : Gain) (chain : ChainOf B)
    (want size : ℕ) : Type 0 where
  pub fitted : AreFitted kept chain
  pub limits : IsGain gain
  pub filters : HaveTables (plan_in chain).stages tables
  pub room : want * channels_of (plan_in chain).target ≤ size

-- silence was eaten only where nothing more comes, and no frame waits
abbrev pub IsPastTheEnd : Bool → ℕ → List Frame → Type 0
IsPastTheEnd ended zeros waiting = 0 < zeros → IsTrue ended × (waiting ≡ [])

-- How far a pull goes where n frames were eaten and `before` frames given before it, and `waiting`
-- frames wait.
pub record PullsAsFar (rate : Rate) (ended : Bool) (want n waiting before : ℕ) (pulled : Pulled)
    : Type 0 where
  pub given : pulled.given ≡ min want (allowed_in_all ended rate (n + waiting) - before)
  pub eaten : n + pulled.eaten ≡ max n (min (n + waiting) (need rate (before + want)))

-- how far a chain is after a pull where `waiting` frames waited: silence was eaten only where nothing more comes and all
-- that waited was eaten
pub record IsFarBehind {B : Type 0} (kept : B → Kept) (tables : Filters) (ended : Bool)
    (waiting : ℕ) (chain : ChainOf B) (n before : ℕ) (pulled : Pulled) : Type 0 where
  pub zeros : ℕ
  pub far : ChainIsSoFar kept tables chain (n + pulled.eaten) zeros (before + pulled.given)
  pub ends : 0 < zeros → IsTrue ended × (pulled.eaten ≡ waiting)

-- What a pull does to a chain that has eaten n frames and given `before`, whatever these were: it goes as far
-- as the counts say, and the frames given are of as many bits as its plan leaves.
pub record GoesFar {B : Type 0} (kept : B → Kept) (tables : Filters) (ended : Bool) (want waiting : ℕ)
    (old new : ChainOf B) (n before : ℕ) (pulled : Pulled) (out : List ℤ) : Type 0 where
  pub far : PullsAsFar (rate_in_plan (plan_in old)) ended want n waiting before pulled
  pub bits : All (FitsBits (bits_left (plan_in old).stages)) (take (pulled.given * channels_of (plan_in old).target) out)
  pub behind : IsFarBehind kept tables ended waiting new n before pulled

-- where a chain stands after a pull: silence was eaten only where nothing more comes and all that waited was eaten
pub record StandsBehind {B : Type 0} (kept : B → Kept) (tables : Filters) (ended : Bool)
    (waiting : List Frame) (chain : ChainOf B) (x : List Frame) (before : ℕ) (pulled : Pulled)
    : Type 0 where
  pub zeros : ℕ
  pub stands : ChainStands kept tables chain (x ++ take pulled.eaten waiting) zeros (before + pulled.given)
  pub ends : 0 < zeros → IsTrue ended × (pulled.eaten ≡ length waiting)

-- What a pull does to a chain that has eaten the frames x and given `before` frames: it goes as far
-- as the counts say, and the frames given are the plan's over all frames, of as many bits as it leaves.
pub record Pulls {B : Type 0} (kept : B → Kept) (tables : Filters) (gain : Gain) (ended : Bool)
    (want : ℕ) (waiting : List Frame) (old new : ChainOf B) (x : List Frame) (before : ℕ)
    (pulled : Pulled) (out_old out_new : List ℤ) : Type 0 where
  pub far : PullsAsFar (rate_in_plan (plan_in old)) ended want (length x) (length waiting) before pulled
  pub frames : out_new ≡ written (outs (plan_in old) tables gain (x ++ waiting) before pulled.given) out_old
  pub bits : HaveBits (bits_left (plan_in old).stages) (outs (plan_in old) tables gain (x ++ waiting) before pulled.given)
  pub stands : StandsBehind kept tables ended waiting new x before pulled

-- what a pull leaves: a chain that goes on, and a ring without the frames eaten
pub record LeavesBehind {B : Type 0} (kind : B → Kind) (kept : B → Kept) (format : Format) (want : ℕ)
    (old new : ChainOf B) (pulled : Pulled) (ring_old ring_new : Ring) : Type 0 where
  pub stays : StaysFitted kind kept old new
  pub most : pulled.given ≤ want
  pub ring : ring_new ≡ without_bytes (taken_bytes (plan_in old) format pulled.eaten) ring_old

-- a pull does that, however far the chain is, where silence was eaten only past the end
abbrev pub GoesOnFar : {B : Type 0} → (B → Kept) → Filters → Bool → ℕ → Format → Ring
    → ChainOf B → ChainOf B → Pulled → List ℤ → Type 0
GoesOnFar kept tables ended want format ring old new pulled out =
    (n zeros before : ℕ) → ChainIsSoFar kept tables old n zeros before
    → IsPastTheEnd ended zeros (waiting_frames (plan_in old) format ring.bytes)
    → GoesFar kept tables ended want (length (waiting_frames (plan_in old) format ring.bytes))
    old new n before pulled out

-- and the frames that it gives, whatever the frames x and `before`, where silence was eaten only past the end
abbrev pub PullsOn : {B : Type 0} → (B → Kept) → Filters → Gain → Bool → ℕ → Format → Ring
    → ChainOf B → ChainOf B → Pulled → List ℤ → List ℤ → Type 0
PullsOn kept tables gain ended want format ring old new pulled out_old out_new =
    (x : List Frame) (zeros before : ℕ) → ChainStands kept tables old x zeros before
    → IsPastTheEnd ended zeros (waiting_frames (plan_in old) format ring.bytes)
    → Pulls kept tables gain ended want (waiting_frames (plan_in old) format ring.bytes)
    old new x before pulled out_old out_new
