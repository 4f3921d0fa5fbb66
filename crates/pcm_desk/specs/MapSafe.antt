-- What holds of the counts of a mapped book at every moment.
use Rattle.std.specs.Prelude.{◌≡◌, ℕ, ◌+◌, ◌^◌, ◌<◌, ◌≤◌, true}
use Rattle.pcm_oss.specs.Fragments.{AreFragments}
use Rattle.pcm_oss.specs.Volumes.{is_volume}
use Rattle.pcm_rate.specs.declared.rate.Rate.{Rate}
use Rattle.pcm_rate.specs.Rates.{IsRatio, need}
use Rattle.pcm_desk.specs.declared.map_book.MapBook.{MapBook}
use Rattle.pcm_desk.specs.declared.run_state.RunState.{RunState}
use Rattle.pcm_desk.specs.declared.run_state.RunState.TheVariants.{Running}
use Rattle.pcm_desk.specs.MapBooks.{taken_of}

-- a book that isn't running counts nothing
abbrev pub IsMapInOrder : RunState → MapBook → Type 0
IsMapInOrder Running book = Unit {0}
IsMapInOrder state book = book.given ≡ 0

-- just what the frames given need was taken, and what a client may set is within its limits
pub record MapIsSafe (rate : Rate) (book : MapBook) : Type 0 where
  pub order : IsMapInOrder book.state book
  pub taken : book.eaten ≡ need rate book.given
  pub fragments : AreFragments book.opening.fragments
  pub volume : is_volume book.volume ≡ true
  -- each position answered was reached
  pub told : book.opening.told ≤ taken_of book

-- what is needed to count n more frames of the mix
pub record CanTake (rate : Rate) (n : ℕ) (book : MapBook) : Type 0 where
  pub ratio : IsRatio rate
  pub given : book.given + n < 2 ^ 64
  pub eaten : need rate (book.given + n) < 2 ^ 64
