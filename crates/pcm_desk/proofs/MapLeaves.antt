-- What a request leaves of a mapped book: its counts, or nothing of its run.
use Rattle.std.proofs.Common.{◌≡◌, true, false, ◌⊎◌, arith}
use Rattle.pcm_desk.specs.Types.{MapBook, Rate, Request}
use Rattle.pcm_desk.specs.RunStates.{is_unheld, is_running}
use Rattle.pcm_desk.specs.MapRequests.{map_ask}
use Rattle.pcm_desk.specs.MapSafe.{MapIsSafe}

-- the counts stay, and what runs goes on so
pub record Stays (old new : MapBook) : Type 0 where
  pub settings : new.opening.settings ≡ old.opening.settings
  pub fragments : new.opening.fragments ≡ old.opening.fragments
  pub eaten : new.eaten ≡ old.eaten
  pub given : new.given ≡ old.given
  pub runs : is_running old.state ≡ true → is_running new.state ≡ true
  pub held : is_unheld new.state ≡ false → is_unheld old.state ≡ false

-- nothing is left of a run, which may have had other settings
pub record Ends (old new : MapBook) : Type 0 where
  pub eaten : new.eaten ≡ 0
  pub given : new.given ≡ 0
  pub stopped : is_running new.state ≡ false

pub record Leaves (old new : MapBook) : Type 0 where
  pub counts : Stays old new ⊎ Ends old new

-- A request leaves the counts of a book, or nothing of its run. What it takes in Setup alone leaves nothing, since there is nothing.
pub map-asked-leaves : (rate : Rate) (request : Request) (book : MapBook) → MapIsSafe rate book → Leaves book (map_ask request book).book
map-asked-leaves rate request book s = grind arith
