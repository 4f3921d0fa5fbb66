-- What is so of a book that plays after an event, where it is so of each book that the event may leave.
use Rattle.std.proofs.Common.{◌≡◌, ℕ, ℤ, ◌+◌, ◌<◌, Bool, true, false, cond, min, ◌⊎◌, arith}
use Rattle.std.proofs.lemmas.Bool.Decides.{nat_tests}
use Rattle.pcm_desk.specs.Types.{Here, PlayBook, PlayState, Rate}
use Rattle.pcm_desk.specs.declared.play_book.PlayState.TheVariants.{Free, Setup, Primed, Running, Draining}
use Rattle.pcm_desk.specs.PlayBooks.{accepting, closed_in, drained_in, finished, frames_written, gives, is_draining, is_over, is_started, play_dropped, play_emptied, play_free_of, play_settled, refilled, started_at, takes_none, write_turn}
use Rattle.pcm_desk.specs.PlayRequests.{play_roused_in, play_stopped_in}
use Rattle.pcm_desk.specs.PlaySafe.{IsPlayInOrder}

-- the state of a book with `accepted` more bytes: one in Setup is primed by any
abbrev pub IsGrown : ℕ → PlayBook → PlayState → Type 0
IsGrown accepted book state = ((state ≡ book.state) × (state ≡ Setup → book.written + accepted ≡ 0)) ⊎ ((book.state ≡ Setup) × (state ≡ Primed) × (0 < book.written + accepted))

-- `accepted` more bytes: with them the book waits, or runs
pub by-accepting : (P : PlayBook → Type 0) (mixed accepted : ℕ) (book : PlayBook)
    → ((state : PlayState) → IsGrown accepted book state → P (record book { state = state; written = book.written + accepted }))
    → ((book.state ≡ Primed) ⊎ (book.state ≡ Setup) → P (started_at mixed Running (record book { written = book.written + accepted })))
    → P (accepting mixed accepted book)
by-accepting P mixed accepted book stays starts = grind (arith, nat_tests)

-- a write: what fits is accepted
pub by-writing : (P : PlayBook → Type 0) (here : Here) (length : ℕ) (book : PlayBook) → P book
    → (takes_none book.state ≡ false → P (accepting here.mixed (min length (play_free_of book)) book))
    → P (write_turn here length book).book
by-writing P here length book stays accepts = grind arith

-- a hand-over: a draining book that is over ends
pub by-settled : (P : PlayBook → Type 0) (rate : Rate) (passed : ℤ) (book : PlayBook)
    → ((is_draining book.state ≡ true → is_over rate passed book ≡ false) → P book)
    → ((closed : Bool) → book.state ≡ Draining closed → P (finished (cond closed Free Setup) book))
    → P (play_settled rate passed book)
by-settled P rate passed book stays ends = grind arith

-- no more comes: a primed book drains from its start or drops a part of a frame, and a running one drains
pub by-drained : (P : PlayBook → Type 0) (rate : Rate) (here : Here) (book : PlayBook) → P book
    → (book.state ≡ Primed → 0 < frames_written book → P (started_at here.mixed (Draining false) book))
    → (book.state ≡ Primed → P (play_emptied Setup book))
    → (book.state ≡ Running → P (play_settled rate here.passed (record book { state = Draining false })))
    → P (drained_in rate here book.state book)
by-drained P rate here book stays starts drops ends = grind (arith, nat_tests)

-- a close of a book that plays no more: its counts stay, and are in order as before
pub by-closed : (P : PlayBook → Type 0) (book : PlayBook) → P book
    → ((state : PlayState) → ((rate : Rate) → IsPlayInOrder rate book.state book → IsPlayInOrder rate state (record book { state = state })) → (is_started state ≡ is_started book.state) → (is_draining state ≡ is_draining book.state) → P (record book { state = state }))
    → P (closed_in book.state book)
by-closed P book stays moves = grind arith

-- an interrupt that mixes: a started book gives, and one that runs counts what it was short of
pub by-refilled : (P : PlayBook → Type 0) (rate : Rate) (mixed n : ℕ) (book : PlayBook) → P book
    → ((underruns : ℕ) → is_started book.state ≡ true → P (record (gives rate mixed n book) { underruns = underruns }))
    → P (refilled rate mixed n book)
by-refilled P rate mixed n book stays gave = grind arith

-- a trigger that is set on: a primed book with a whole frame starts
pub by-roused : (P : PlayBook → Type 0) (mixed : ℕ) (book : PlayBook) → P book
    → (book.state ≡ Primed → 0 < frames_written book → P (started_at mixed Running book))
    → P (play_roused_in mixed book.state book)
by-roused P mixed book stays starts = grind (arith, nat_tests)

-- and one that is set off: what waits or runs is dropped
pub by-stopped : (P : PlayBook → Type 0) (book : PlayBook) → P book → P (play_dropped book) → P (play_stopped_in book.state book)
by-stopped P book stays drops = grind arith
