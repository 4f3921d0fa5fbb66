-- What holds of the counts of a book at every moment.
use Rattle.std.specs.Prelude.{◌≡◌, ℕ, ◌+◌, ◌-◌, ◌*◌, ◌^◌, ◌<◌, ◌≤◌, true, false, min, max}
use Rattle.pcm_format.specs.Frames.{frame_bytes}
use Rattle.pcm_oss.specs.Fragments.{AreFragments}
use Rattle.pcm_oss.specs.Volumes.{is_volume}
use Rattle.pcm_rate.specs.declared.rate.Rate.{Rate}
use Rattle.pcm_feeder.specs.Limits.{IsRate}
use Rattle.pcm_rate.specs.Rates.{IsRatio, need, can, len}
use Rattle.pcm_desk.specs.declared.here.Here.{Here}
use Rattle.pcm_desk.specs.Here.{IsHere}
use Rattle.pcm_desk.specs.declared.play_book.PlayBook.{PlayBook}
use Rattle.pcm_desk.specs.declared.play_book.PlayState.{PlayState}
use Rattle.pcm_desk.specs.declared.play_book.PlayState.TheVariants.{Free, Setup, Primed, Running, Draining}
use Rattle.pcm_desk.specs.PlayBooks.{frames_written, is_draining, is_over, is_started, play_fill_of, played_of}
use Rattle.pcm_desk.specs.Openings.{ring_bytes}

-- Of the frames written in a run, how many were eaten, and how many frames of the mix were given for them.

-- no frame is eaten that wasn't written, and none before the next frame of the mix needs it
pub record EatsInTime (rate : Rate) (frames eaten given : ℕ) : Type 0 where
  pub written : eaten ≤ frames
  pub early : eaten ≤ max (need rate given) (need rate (given + 1) - 1)

-- while more may come, all that is given was eaten for and is allowed
pub record IsRunning (rate : Rate) (frames eaten given : ℕ) : Type 0 where
  pub eats : EatsInTime rate frames eaten given
  pub needed : need rate given ≤ eaten
  pub allowed : given ≤ can rate frames

-- once no more comes, silence stands in for what is needed past the last frame, and no more is given than lasts as long
pub record IsDraining (rate : Rate) (frames eaten given : ℕ) : Type 0 where
  pub eats : EatsInTime rate frames eaten given
  pub needed : min frames (need rate given) ≤ eaten
  pub allowed : given ≤ len rate frames

-- nothing was eaten or given
pub record IsPlayUnstarted (eaten given : ℕ) : Type 0 where
  pub eaten_none : eaten ≡ 0
  pub given_none : given ≡ 0

-- the counts of a book in each state
abbrev pub IsPlayInOrder : Rate → PlayState → PlayBook → Type 0
IsPlayInOrder rate Free book = (book.written ≡ 0) × IsPlayUnstarted book.eaten book.given
IsPlayInOrder rate Setup book = (book.written ≡ 0) × IsPlayUnstarted book.eaten book.given
IsPlayInOrder rate Primed book = (0 < book.written) × IsPlayUnstarted book.eaten book.given
IsPlayInOrder rate Running book = IsRunning rate (frames_written book) book.eaten book.given
IsPlayInOrder rate (Draining closed) book = IsDraining rate (frames_written book) book.eaten book.given

-- the counts of a book are in order, no more waits than its ring holds, and what a client may set is within its limits
pub record PlayIsSafe (rate : Rate) (book : PlayBook) : Type 0 where
  pub order : IsPlayInOrder rate book.state book
  pub fill : play_fill_of book ≤ ring_bytes book.opening
  pub fragments : AreFragments book.opening.fragments
  pub volume : is_volume book.volume ≡ true
  -- each position answered was reached
  pub told : book.opening.told ≤ played_of book

-- A book where the mix and the device are: no run gave a frame past what is mixed, and none that drains is over.
pub record PlayIsHere (rate : Rate) (here : Here) (book : PlayBook) : Type 0 where
  pub last : is_started book.state ≡ true → book.last ≤ here.mixed
  pub left : is_draining book.state ≡ true → is_over rate here.passed book ≡ false

-- what is needed to answer a delay, by the rate between the book and the mix, and the rate of the mix
pub record CanTellDelay (rate : Rate) (mix_rate : ℕ) (here : Here) (book : PlayBook) : Type 0 where
  pub ratio : IsRatio rate
  pub client : IsRate book.opening.settings.rate
  pub mix : IsRate mix_rate
  pub place : IsHere here
  pub at : PlayIsHere rate here book

-- ---- what is needed to count

-- what waits: no more was eaten than was written
pub record IsFilled (book : PlayBook) : Type 0 where
  pub eaten : book.eaten * frame_bytes book.opening.settings ≤ book.written
  pub fragments : AreFragments book.opening.fragments

-- and what fits: no more waits than the ring holds
pub record IsPlayCounted (book : PlayBook) : Type 0 where
  pub filled : IsFilled book
  pub fill : play_fill_of book ≤ ring_bytes book.opening

-- the end of a run
pub record CanEnd (rate : Rate) (book : PlayBook) : Type 0 where
  pub ratio : IsRatio rate
  pub count : book.done + book.written < 2 ^ 64

-- n more frames of the mix, after `mixed`
pub record CanRefill (rate : Rate) (mixed n : ℕ) (book : PlayBook) : Type 0 where
  pub ratio : IsRatio rate
  pub given : book.given + n < 2 ^ 64
  pub within : mixed + n < 2 ^ 64
