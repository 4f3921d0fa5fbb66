-- No run gives a frame past what is mixed, and none that drains is over, wherever the mix and the device are.
use Rattle.std.proofs.Common.{◌≡◌, ℕ, ℤ, ◌+◌, ◌<◌, ◌≤◌, Bool, true, false, inl, ap, refl, subst, sym, arith}
use Rattle.std.proofs.lemmas.Bool.Decides.{nat_tests}
use Rattle.pcm_desk.specs.Types.{Here, PlayBook, Rate, Request, Settings}
use Rattle.pcm_rate.specs.Rates.{IsRatio}
use Rattle.pcm_rate.proofs.Counts.{len_above}
use Rattle.pcm_desk.specs.declared.play_book.PlayState.TheVariants.{Draining}
use Rattle.pcm_desk.specs.PlayBooks.{close_turn, closed_in, drained_in, frames_written, is_over, is_play_setup, is_started, play_begun, play_settled, refilled, started_at, write_turn}
use Rattle.pcm_desk.specs.PlayRequests.{play_ask, play_roused_in, play_stopped_in, play_with_trigger}
use Rattle.pcm_desk.specs.PlaySafe.{PlayIsHere, PlayIsSafe}
use Rattle.pcm_desk.proofs.PlayAsking.{Dropping, Ending, Noting, SettingUp, Starting, Stopping, ask-does}
use Rattle.pcm_desk.proofs.PlaySafe.{order_waits}
use Rattle.pcm_desk.proofs.PlaySafeAsking.{setup-lasts}
use Rattle.pcm_desk.proofs.PlayTurns.{by-drained, by-settled}

-- a run with a whole frame that drains from its start has all of it to give
not_given : (rate : Rate) (passed : ℤ) (book : PlayBook) → IsRatio rate → 0 < frames_written book → book.given ≡ 0 → is_over rate passed book ≡ false
not_given rate passed book r some none = let lasts = len_above rate (frames_written book) r.src r.dst some in grind (arith, nat_tests)

-- an opening
pub here-begun : (rate : Rate) (here : Here) (settings : Settings) → PlayIsHere rate here (play_begun settings)
here-begun rate here settings = grind arith

-- a write
pub here-write : (rate : Rate) (here : Here) (length : ℕ) (book : PlayBook) → PlayIsHere rate here book → PlayIsHere rate here (write_turn here length book).book
here-write rate here length book h = grind arith

-- a hand-over: wherever the device is then
pub here-settled : (rate : Rate) (here : Here) (book : PlayBook) → (is_started book.state ≡ true → book.last ≤ here.mixed) → PlayIsHere rate here (play_settled rate here.passed book)
here-settled rate here book h = by-settled (PlayIsHere rate here) rate here.passed book (λ more. record { last = h; left = more }) (λ closed e. grind arith)

-- no more comes
pub here-drained : (rate : Rate) (here : Here) (book : PlayBook) → IsRatio rate → PlayIsSafe rate book → PlayIsHere rate here book → PlayIsHere rate here (drained_in rate here book.state book)
here-drained rate here book r s h =
    by-drained (PlayIsHere rate here) rate here book h
    (λ e some. record { last = λ _. omega arith; left = λ _. not_given rate here.passed (started_at here.mixed (Draining false) book) r some (order_waits rate book (inl e) s.order).given_none })
    (λ e. grind arith)
    (λ e. here-settled rate here (record book { state = Draining false }) (λ _. h.last (ap is_started e)))

-- a close
pub here-close : (rate : Rate) (here : Here) (book : PlayBook) → IsRatio rate → PlayIsSafe rate book → PlayIsHere rate here book → PlayIsHere rate here (close_turn rate here book)
here-close rate here book r s h =
    let drained : PlayBook = drained_in rate here book.state book in
    closed drained (here-drained rate here book r s h)
  where
    closed : (book : PlayBook) → PlayIsHere rate here book → PlayIsHere rate here (closed_in book.state book)
    closed book h = grind arith

-- an interrupt that mixes n frames
pub last-refilled : (rate : Rate) (mixed n : ℕ) (book : PlayBook) → (is_started book.state ≡ true → book.last ≤ mixed) → is_started (refilled rate mixed n book).state ≡ true → (refilled rate mixed n book).last ≤ mixed + n
last-refilled rate mixed n book h e = grind arith

-- ---- a request

roused : (rate : Rate) (here : Here) (trigger : Bool) (book : PlayBook) → PlayIsHere rate here book → PlayIsHere rate here (play_roused_in here.mixed book.state (play_with_trigger trigger book))
roused rate here trigger book h = grind arith

stopped : (rate : Rate) (here : Here) (book : PlayBook) → PlayIsHere rate here book → PlayIsHere rate here (play_stopped_in book.state (play_with_trigger false book))
stopped rate here book h = grind arith

setup_idle : (rate : Rate) (here : Here) (book : PlayBook) → is_play_setup book.state ≡ true → PlayIsHere rate here book
setup_idle rate here book e = grind arith

-- a request, at the rate that the book has after it
pub here-ask : (rate now : Rate) (mix_rate : ℕ) (here : Here) (request : Request) (book : PlayBook) → IsRatio rate → (is_play_setup book.state ≡ false → now ≡ rate) → PlayIsSafe rate book → PlayIsHere rate here book
    → PlayIsHere now here (play_ask rate mix_rate here request book).book
here-ask rate now mix_rate here request book r same s h = at (is_play_setup book.state) refl
  where
    after : PlayBook
    after = (play_ask rate mix_rate here request book).book

    kept : PlayIsHere rate here after
    kept =
        elim (ask-does rate mix_rate here request book) [
          | SettingUp opening setup sets is ↦ subst (PlayIsHere rate here) (sym is) (setup_idle rate here (record book { opening = opening }) setup)
          | Noting told volume underruns n is ↦ subst (PlayIsHere rate here) (sym is) (record { last = h.last; left = h.left })
          | Starting trigger is ↦ subst (PlayIsHere rate here) (sym is) (roused rate here trigger book h)
          | Stopping bits asks off is ↦ subst (PlayIsHere rate here) (sym is) (stopped rate here book h)
          | Ending is ↦ subst (PlayIsHere rate here) (sym is) (here-drained rate here book r s h)
          | Dropping asks is ↦ subst (PlayIsHere rate here) (sym is) (grind arith)
        ]

    at : (b : Bool) → is_play_setup book.state ≡ b → PlayIsHere now here after
    at true e = setup_idle now here after (setup-lasts rate mix_rate here request book e)
    at false e = subst (λ (between : Rate). PlayIsHere between here after) (sym (same e)) kept
