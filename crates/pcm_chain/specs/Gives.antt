-- What a give eats and gives.
use Rattle.std.specs.Prelude.{◌≡◌, ◌≤◌, ℕ, ◌+◌, ◌-◌, ◌/◌, ℤ, false, List, ◌++◌, length, All}
use Rattle.pcm_num.specs.Limit.{FitsBits}
use Rattle.pcm_format.specs.Frames.{Frame}
use Rattle.pcm_format.specs.Layouts.{channels_of}
use Rattle.pcm_rate.specs.Rates.{need}
use Rattle.pcm_feeder.specs.Filters.{Filters}
use Rattle.pcm_feeder.specs.Kept.{Kept}
use Rattle.pcm_feeder.specs.Layouts.{unity}
use Rattle.pcm_feeder.specs.Streams.{interleaved}
use Rattle.pcm_plan.specs.Plans.{PlanSeen, rate_in_plan}
use Rattle.pcm_plan.specs.Through.{recs}
use Rattle.pcm_chain.specs.declared.chain.ChainOf.{ChainOf}
use Rattle.pcm_chain.specs.Chains.{plan_in, ChainStands}
use Rattle.pcm_chain.specs.Bits.{bits_left}
use Rattle.pcm_chain.specs.Far.{ChainIsSoFar}
use Rattle.pcm_chain.specs.Pulls.{GoesFar, Pulls}
use Rattle.pcm_chain.specs.Pushes.{pushed_frames}

-- A chain has eaten just the frames x that those given need, and no silence after them.
pub record GivesExactly {B : Type 0} (kept : B → Kept) (tables : Filters) (chain : ChainOf B)
    (x : List Frame) (given : ℕ) : Type 0 where
  pub stands : ChainStands kept tables chain x 0 given
  pub exact : length x ≡ need (rate_in_plan (plan_in chain)) given

-- how many frames of a plan's target fill a buffer
abbrev pub filling_frames : PlanSeen → List ℤ → ℕ
filling_frames plan out = length out / channels_of plan.target

-- samples are just as many frames as `count` outputs need after those given
abbrev pub AreJustEnough : PlanSeen → List ℤ → ℕ → ℕ → Type 0
AreJustEnough plan input given count = length (pushed_frames plan input)
    ≡ need (rate_in_plan plan) (given + count) - need (rate_in_plan plan) given

-- the same by the counts alone, whatever these frames were
pub record IsJustSoFar {B : Type 0} (kept : B → Kept) (tables : Filters) (chain : ChainOf B)
    (eaten given : ℕ) : Type 0 where
  pub far : ChainIsSoFar kept tables chain eaten 0 given
  pub exact : eaten ≡ need (rate_in_plan (plan_in chain)) given

-- what a chain may be given for `count` frames: it has eaten just the frames that those given need, and these are what the next ones need
pub record CanGive {B : Type 0} (kept : B → Kept) (tables : Filters) (chain : ChainOf B)
    (input : List ℤ) (count : ℕ) : Type 0 where
  pub eaten : ℕ
  pub given : ℕ
  pub gives : IsJustSoFar kept tables chain eaten given
  pub enough : AreJustEnough (plan_in chain) input given count

-- What a give of n frames does to a chain that has eaten and given so many, whatever these were: all are eaten, and the
-- frames that fill the buffer are of as many bits as its plan leaves.
pub record GivesFar {B : Type 0} (kept : B → Kept) (tables : Filters) (n count : ℕ)
    (old new : ChainOf B) (eaten given : ℕ) (out : List ℤ) : Type 0 where
  pub exactly : IsJustSoFar kept tables new (eaten + n) (given + count)
  pub bits : All (FitsBits (bits_left (plan_in old).stages)) out

-- a give of samples does that, however far the chain is
abbrev pub GivesOnFar : {B : Type 0} → (B → Kept) → Filters → List ℤ → ℕ
    → ChainOf B → ChainOf B → List ℤ → Type 0
GivesOnFar kept tables input count old new out =
    (eaten given : ℕ) → IsJustSoFar kept tables old eaten given
    → AreJustEnough (plan_in old) input given count
    → GivesFar kept tables (length (pushed_frames (plan_in old) input)) count old new eaten given out

-- What a give of frames does to a chain that has eaten the frames x and given `given` frames: all are
-- eaten, and the plan's next frames over all of them fill the buffer.
pub record GivesNext {B : Type 0} (kept : B → Kept) (tables : Filters) (input : List Frame) (count : ℕ)
    (old new : ChainOf B) (x : List Frame) (given : ℕ) (out : List ℤ) : Type 0 where
  pub exactly : GivesExactly kept tables new (x ++ input) (given + count)
  pub frames : out ≡ interleaved (recs (plan_in old) tables (x ++ input) given count)

-- a give of samples does that, whatever the frames x and `given`
abbrev pub GivesOn : {B : Type 0} → (B → Kept) → Filters → List ℤ → ℕ
    → ChainOf B → ChainOf B → List ℤ → Type 0
GivesOn kept tables input count old new out =
    (x : List Frame) (given : ℕ) → GivesExactly kept tables old x given
    → AreJustEnough (plan_in old) input given count
    → GivesNext kept tables (pushed_frames (plan_in old) input) count old new x given out

-- a block is a pull at a gain of one that gives all that it is asked for, where the input suffices
abbrev pub GivesABlock : {B : Type 0} → (B → Kept) → Filters → ℕ → List ℤ
    → ChainOf B → ChainOf B → ℕ → List ℤ → List ℤ → Type 0
GivesABlock kept tables want input old new eaten out_old out_new =
    (x : List Frame) (given : ℕ) → ChainStands kept tables old x 0 given
    → need (rate_in_plan (plan_in old)) (given + want)
    ≤ length x + length (pushed_frames (plan_in old) input)
    → Pulls kept tables unity false want (pushed_frames (plan_in old) input)
    old new x given (record { given = want; eaten = eaten }) out_old out_new

-- and so it is by the counts, however far the chain is
abbrev pub GivesABlockFar : {B : Type 0} → (B → Kept) → Filters → ℕ → List ℤ
    → ChainOf B → ChainOf B → ℕ → List ℤ → Type 0
GivesABlockFar kept tables want input old new eaten out =
    (n given : ℕ) → ChainIsSoFar kept tables old n 0 given
    → need (rate_in_plan (plan_in old)) (given + want) ≤ n + length (pushed_frames (plan_in old) input)
    → GoesFar kept tables false want (length (pushed_frames (plan_in old) input))
    old new n given (record { given = want; eaten = eaten }) out
