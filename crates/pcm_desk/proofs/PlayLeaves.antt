-- What a close or a request leaves of a book: its counts, or nothing of its run.
use Rattle.std.proofs.Common.{◌≡◌, ℕ, ℤ, ◌+◌, ◌*◌, ◌<◌, ◌≤◌, Bool, true, false, ◌⊎◌, sym, subst, arith}
use Rattle.std.proofs.lemmas.Bool.Decides.{nat_tests}
use Rattle.pcm_format.specs.Frames.{frame_bytes}
use Rattle.pcm_format.proofs.Whole.{bytes_above, frames_fit}
use Rattle.pcm_desk.specs.Types.{Here, PlayBook, Rate, Request}
use Rattle.pcm_desk.specs.PlayBooks.{accepting, close_turn, drained_in, frames_written, is_draining, is_play_setup, is_started, play_settled}
use Rattle.pcm_desk.specs.PlayRequests.{play_ask, play_roused_in, play_stopped_in, play_with_trigger}
use Rattle.pcm_desk.specs.PlaySafe.{IsPlayInOrder, PlayIsSafe}
use Rattle.pcm_desk.proofs.PlayAsking.{Dropping, Ending, Noting, SettingUp, Starting, Stopping, ask-does}

-- the counts stay, what started or drains goes on so, and what starts has bytes
pub record Stays (old new : PlayBook) : Type 0 where
  pub settings : new.opening.settings ≡ old.opening.settings
  pub fragments : new.opening.fragments ≡ old.opening.fragments
  pub written : new.written ≡ old.written
  pub eaten : new.eaten ≡ old.eaten
  pub given : new.given ≡ old.given
  pub done : new.done ≡ old.done
  pub plays : is_started old.state ≡ true → is_started new.state ≡ true
  pub drains : is_draining old.state ≡ true → is_draining new.state ≡ true
  pub starts : (is_started old.state ≡ true → 0 < old.written) → is_started new.state ≡ true → 0 < new.written

-- nothing is left of a run, which may have had other settings; what was played of it counts no more bytes than it had
pub record Ends (old new : PlayBook) : Type 0 where
  pub written : new.written ≡ 0
  pub stopped : is_started new.state ≡ false
  pub done : new.done ≤ old.done + old.written

pub record Leaves (old new : PlayBook) : Type 0 where
  pub counts : Stays old new ⊎ Ends old new

pub stays-same : (book : PlayBook) → Stays book book
stays-same book = grind arith

-- what is played to its end counts all whole frames
finished_done : (book : PlayBook) → book.done + frames_written book * frame_bytes book.opening.settings ≤ book.done + book.written
finished_done book = let fits = frames_fit book.opening.settings book.written (frames_written book) (omega arith) in omega arith

-- a hand-over
pub settle-leaves : (rate : Rate) (passed : ℤ) (book : PlayBook) → Leaves book (play_settled rate passed book)
settle-leaves rate passed book = let done = finished_done book in grind arith

-- no more comes
pub drain-leaves : (rate : Rate) (here : Here) (book : PlayBook) → Leaves book (drained_in rate here book.state book)
drain-leaves rate here book = let done = finished_done book in grind (arith, bytes_above, nat_tests)

-- a close
pub close-leaves : (rate : Rate) (here : Here) (book : PlayBook) → Leaves book (close_turn rate here book)
close-leaves rate here book = let drained = drain-leaves rate here book in grind arith

-- a close leaves the settings and the fragments
pub record Keeps (old new : PlayBook) : Type 0 where
  pub settings : new.opening.settings ≡ old.opening.settings
  pub fragments : new.opening.fragments ≡ old.opening.fragments

pub close-keeps : (rate : Rate) (here : Here) (book : PlayBook) → Keeps book (close_turn rate here book)
close-keeps rate here book = grind arith

-- and so does a hand-over
pub settle-keeps : (rate : Rate) (passed : ℤ) (book : PlayBook) → Keeps book (play_settled rate passed book)
settle-keeps rate passed book = grind arith

-- ---- requests

-- in Setup nothing is written
setup_none : (rate : Rate) (book : PlayBook) → is_play_setup book.state ≡ true → IsPlayInOrder rate book.state book → (book.written ≡ 0) × (is_started book.state ≡ false)
setup_none rate book e o = grind arith

roused : (mixed : ℕ) (trigger : Bool) (book : PlayBook) → Leaves book (play_roused_in mixed book.state (play_with_trigger trigger book))
roused mixed trigger book = grind (arith, bytes_above, nat_tests)

stopped : (book : PlayBook) → Leaves book (play_stopped_in book.state (play_with_trigger false book))
stopped book = grind arith

-- A request leaves the counts of a book, or nothing of its run. What it takes in Setup alone leaves nothing, since there is nothing.
pub ask-leaves : (rate : Rate) (mix_rate : ℕ) (here : Here) (request : Request) (book : PlayBook) → PlayIsSafe rate book → Leaves book (play_ask rate mix_rate here request book).book
ask-leaves rate mix_rate here request book s =
    elim (ask-does rate mix_rate here request book) [
      | SettingUp opening setup sets is ↦ subst (Leaves book) (sym is) (let none = setup_none rate book setup s.order in grind arith)
      | Noting told volume underruns n is ↦ subst (Leaves book) (sym is) (grind arith)
      | Starting trigger is ↦ subst (Leaves book) (sym is) (roused here.mixed trigger book)
      | Stopping bits asks off is ↦ subst (Leaves book) (sym is) (stopped book)
      | Ending is ↦ subst (Leaves book) (sym is) (drain-leaves rate here book)
      | Dropping asks is ↦ subst (Leaves book) (sym is) (grind arith)
    ]

-- ---- writes

-- a write leaves the fragments, and the bytes of the runs before
pub record Adds (old new : PlayBook) : Type 0 where
  pub fragments : new.opening.fragments ≡ old.opening.fragments
  pub done : new.done ≡ old.done

pub accepting-adds : (mixed accepted : ℕ) (book : PlayBook) → Adds book (accepting mixed accepted book)
accepting-adds mixed accepted book = grind arith
