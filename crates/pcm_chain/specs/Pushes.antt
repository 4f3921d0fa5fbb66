-- What a push eats, gives and keeps.
use Rattle.std.specs.Prelude.{◌≡◌, ℕ, ◌+◌, ◌-◌, ◌*◌, ◌/◌, ℤ, List, ◌++◌, length}
use Rattle.pcm_format.specs.declared.format.Format.{Format}
use Rattle.pcm_format.specs.Formats.{bits_of, bytes_of}
use Rattle.pcm_format.specs.Frames.{Frame, spelled_frames}
use Rattle.pcm_format.specs.Layouts.{channels_of}
use Rattle.pcm_rate.specs.Rates.{can}
use Rattle.pcm_feeder.specs.declared.kind.Kind.{Kind}
use Rattle.pcm_feeder.specs.Filters.{Filters}
use Rattle.pcm_feeder.specs.Kept.{Kept}
use Rattle.pcm_feeder.specs.Streams.{frames_of}
use Rattle.pcm_plan.specs.Fits.{HaveTables}
use Rattle.pcm_plan.specs.Plans.{PlanSeen, rate_in_plan}
use Rattle.pcm_plan.specs.Through.{recs}
use Rattle.pcm_ring.specs.Ring.{Ring, free_bytes}
use Rattle.pcm_chain.specs.declared.chain.ChainOf.{ChainOf}
use Rattle.pcm_chain.specs.declared.chain.Pushed.{Pushed}
use Rattle.pcm_chain.specs.Bits.{bits_left}
use Rattle.pcm_chain.specs.Chains.{plan_in, ChainStands, IsOfKinds}
use Rattle.pcm_chain.specs.Far.{ChainIsSoFar}

-- A chain that records has eaten the frames x, with no silence after them, and has given all outputs
-- that they allow.
abbrev pub HasRecorded : {B : Type 0} → (B → Kept) → Filters → ChainOf B → List Frame → Type 0
HasRecorded kept tables chain x =
    ChainStands kept tables chain x 0 (can (rate_in_plan (plan_in chain)) (length x))

-- the same by the counts alone: it has eaten so many frames, whatever they were
abbrev pub HasRecordedFar : {B : Type 0} → (B → Kept) → Filters → ChainOf B → ℕ → Type 0
HasRecordedFar kept tables chain eaten =
    ChainIsSoFar kept tables chain eaten 0 (can (rate_in_plan (plan_in chain)) eaten)

-- more can be recorded: some frames were, the stages have their tables, and what comes out of them has the bits of a format
pub record CanRecord {B : Type 0} (kept : B → Kept) (tables : Filters) (format : Format) (chain : ChainOf B)
    : Type 0 where
  pub eaten : ℕ
  pub records : HasRecordedFar kept tables chain eaten
  pub filters : HaveTables (plan_in chain).stages tables
  pub bits : bits_left (plan_in chain).stages ≡ bits_of format

-- What a push of n frames does to a chain that has recorded `eaten` frames, whatever these were: all are eaten, and all frames
-- come that the plan allows by then.
pub record PushesFar {B : Type 0} (kept : B → Kept) (tables : Filters) (n : ℕ) (old new : ChainOf B)
    (pushed : Pushed) (eaten : ℕ) : Type 0 where
  pub came : pushed.came ≡ can (rate_in_plan (plan_in old)) (eaten + n) - can (rate_in_plan (plan_in old)) eaten
  pub records : HasRecordedFar kept tables new (eaten + n)

-- a chain goes on by its plan, with each box in its place, and has recorded n frames more
pub record StaysRecording {B : Type 0} (kind : B → Kind) (kept : B → Kept) (tables : Filters) (n : ℕ)
    (old new : ChainOf B) (pushed : Pushed) : Type 0 where
  pub plan : plan_in new ≡ plan_in old
  pub kinds : IsOfKinds kind old → IsOfKinds kind new
  pub far : (eaten : ℕ) → HasRecordedFar kept tables old eaten → PushesFar kept tables n old new pushed eaten

-- how many frames of a plan's target have room in a ring, in a format
abbrev pub room_for : PlanSeen → Format → Ring → ℕ
room_for plan format ring = free_bytes ring / (channels_of plan.target * bytes_of format)

-- samples of a plan's source as frames
abbrev pub pushed_frames : PlanSeen → List ℤ → List Frame
pushed_frames plan samples = frames_of (channels_of plan.source) samples

-- What a push of frames does to a chain that has recorded the frames x: all are eaten, and all frames
-- come that the plan allows by then. The first ones are kept: they are spelled after the bytes that
-- wait.
pub record Pushes {B : Type 0} (kept : B → Kept) (tables : Filters) (format : Format)
    (input : List Frame) (old new : ChainOf B) (x : List Frame) (pushed : Pushed)
    (bytes_old bytes_new : List ℕ) : Type 0 where
  pub came : pushed.came ≡ can (rate_in_plan (plan_in old)) (length x + length input)
      - can (rate_in_plan (plan_in old)) (length x)
  pub records : HasRecorded kept tables new (x ++ input)
  pub bytes : bytes_new ≡ bytes_old ++ spelled_frames format
      (recs (plan_in old) tables (x ++ input) (can (rate_in_plan (plan_in old)) (length x)) pushed.kept)

-- a push of samples does that, whatever the frames x
abbrev pub PushesOn : {B : Type 0} → (B → Kept) → Filters → Format → List ℤ
    → ChainOf B → ChainOf B → Pushed → Ring → Ring → Type 0
PushesOn kept tables format input old new pushed ring_old ring_new =
    (x : List Frame) → HasRecorded kept tables old x
    → Pushes kept tables format (pushed_frames (plan_in old) input)
    old new x pushed ring_old.bytes ring_new.bytes
