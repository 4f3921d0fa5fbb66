-- The counts of a chain: how many frames it has eaten and given, without whole periods, and what a block moves them by.
use Rattle.std.specs.Prelude.{◌≡◌, ◌⊎◌, ◌<◌, ◌≤◌, ℕ, ◌+◌, ◌-◌, ◌*◌, ◌/◌, ◌%◌, min, max, pos, ◌+ℤ◌, Bool, if◌then◌else◌}
use Rattle.pcm_format.specs.declared.settings.TheConstants.{RATE_LEAST, RATE_MOST}
use Rattle.pcm_feeder.specs.declared.stage.Progress.{Progress}
use Rattle.pcm_rate.specs.declared.rate.Rate.{Rate}
use Rattle.pcm_rate.specs.Rates.{unchanged, IsRatio, IsPeriod, need, can, len}
use Rattle.pcm_chain.specs.declared.staging.TheConstants.{BLOCK_FRAMES}
use Rattle.pcm_chain.specs.declared.counts.Counts.{Counts}
use Rattle.pcm_chain.specs.declared.counts.Advance.{Advance}

-- how many outputs n frames allow: those that last as long where nothing more comes, else those that are sure
abbrev pub allowed_in_all : Bool → Rate → ℕ → ℕ
allowed_in_all ended rate n = if ended then len rate n else can rate n

-- a rate within the limits of a plan
pub record IsNear (rate : Rate) : Type 0 where
  pub ratio : IsRatio rate
  pub src : rate.src * RATE_LEAST ≤ RATE_MOST * rate.dst
  pub spread : rate.dst * RATE_LEAST ≤ RATE_MOST * rate.src
  pub dst : rate.dst ≤ RATE_MOST
  pub lookahead : rate.lookahead ≤ 32

-- no frame was eaten before the next output needs it, and no output was given past the end of what was eaten
pub record InTime (rate : Rate) (counts : Counts) : Type 0 where
  pub early : counts.eaten ≤ max (need rate counts.given) (need rate (counts.given + 1) - 1)
  pub late : counts.given ≤ len rate counts.eaten

-- and so it is with counts that stay small, however long the stream
pub record AreBounded (rate : Rate) (counts : Counts) : Type 0 where
  pub in_time : InTime rate counts
  pub few : counts.given ≤ RATE_MOST

-- how many frames went into the stages: those eaten, and silence after them where outputs needed it
abbrev pub fed_in_all : Rate → Counts → ℕ
fed_in_all rate counts = max counts.eaten (need rate counts.given)

-- `want` more outputs need no more than a block's frames
abbrev pub NeedABlock : Rate → Counts → ℕ → Type 0
NeedABlock rate counts want =
    need rate (counts.given + want) ≤ fed_in_all rate counts + BLOCK_FRAMES

-- `frames` more frames allow fewer outputs than have room in a block
abbrev pub AllowABlock : Rate → Counts → ℕ → Type 0
AllowABlock rate counts frames = can rate (counts.eaten + frames) < counts.given + BLOCK_FRAMES

-- `want` outputs make a block: some, that have room in it and need no more than its frames
pub record MakeABlock (rate : Rate) (counts : Counts) (want : ℕ) : Type 0 where
  pub some : 0 < want
  pub few : want ≤ BLOCK_FRAMES
  pub reach : NeedABlock rate counts want

-- What a block of at most `want` outputs moves, where `waiting` frames wait: it eats what the outputs need, as far as that waits;
-- it gives what is allowed then; and it eats silence where outputs need more.
pub record Goes (rate : Rate) (ended : Bool) (counts : Counts) (waiting want : ℕ) (advance : Advance) : Type 0 where
  pub eaten : advance.eaten ≡ min waiting (need rate (counts.given + want) - fed_in_all rate counts)
  pub given : advance.given ≡ min want (allowed_in_all ended rate (counts.eaten + advance.eaten) - counts.given)
  pub silent : advance.silent ≡ need rate (counts.given + advance.given) - (fed_in_all rate counts + advance.eaten)

-- All frames eaten and given, and the counts that stand for them: on both sides as much was left out as lasts equally long.
-- Where the rate is changed, something is left out only after the first output.
pub record StandFor (rate : Rate) (counts : Counts) (eaten given : ℕ) : Type 0 where
  pub eaten_before : ℕ
  pub given_before : ℕ
  pub period : IsPeriod rate eaten_before given_before
  pub eaten_is : eaten ≡ counts.eaten + eaten_before
  pub given_is : given ≡ counts.given + given_before
  pub begun : 0 < given_before → (0 < counts.given) ⊎ (rate ≡ unchanged)

-- counts stand for all that others stand for
abbrev pub StandsFurther : Rate → Counts → Counts → Type 0
StandsFurther rate counts new = (eaten given : ℕ) → StandFor rate counts eaten given → StandFor rate new eaten given

-- the progress of a stage of a rate that has eaten and given so many frames
pub record IsProgress (rate : Rate) (eaten given : ℕ) (progress : Progress) : Type 0 where
  pub phase : progress.phase ≡ given * rate.src % rate.dst
  pub ahead : progress.ahead +ℤ pos (given * rate.src / rate.dst) ≡ pos eaten

-- counts, moved on by a block
abbrev pub moved_on_by : Counts → Advance → Counts
moved_on_by counts advance =
    record { eaten = counts.eaten + advance.eaten; given = counts.given + advance.given }

-- they stand for all frames after a block too, whatever whole periods were left out then
abbrev pub StandOn : Rate → Counts → Advance → Counts → Type 0
StandOn rate counts advance new = (eaten given : ℕ) → StandFor rate counts eaten given
    → StandFor rate new (eaten + advance.eaten) (given + advance.given)

-- what a block moves that eats `frames` frames, and gives all outputs that are sure then
abbrev pub eats_all : Rate → Counts → ℕ → Advance
eats_all rate counts frames = record {
  eaten = frames;
  silent = 0;
  given = can rate (counts.eaten + frames) - counts.given;
}
