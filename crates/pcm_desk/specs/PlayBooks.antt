-- The book of one play opening: what is counted, and what each event does to it. No book looks at another.
use Rattle.std.specs.Prelude.{ℕ, ℤ, pos, int_le, ◌+◌, ◌-◌, ◌*◌, ◌^◌, min, max, Bool, true, false, ◌&&◌, nat_lt, nat_le, ◌==◌, if◌then◌else◌}
use Rattle.pcm_format.specs.declared.settings.Settings.{Settings}
use Rattle.pcm_oss.specs.declared.reply.Answer.TheVariants.{Number}
use Rattle.pcm_oss.specs.declared.reply.Errno.TheVariants.{Again, Busy}
use Rattle.pcm_oss.specs.declared.volume.TheConstants.{VOLUME}
use Rattle.pcm_format.specs.Frames.{frame_bytes, whole_frames}
use Rattle.pcm_rate.specs.declared.rate.Rate.{Rate}
use Rattle.pcm_rate.specs.Rates.{need, can, len}
use Rattle.pcm_desk.specs.declared.here.Here.{Here}
use Rattle.pcm_desk.specs.declared.play_book.PlayBook.{PlayBook}
use Rattle.pcm_desk.specs.declared.play_book.PlayState.{PlayState}
use Rattle.pcm_desk.specs.declared.play_book.PlayState.TheVariants.{Free, Setup, Primed, Running, Draining}
use Rattle.pcm_desk.specs.declared.turn.Turn.{Turn}
use Rattle.pcm_desk.specs.Openings as openings
use Rattle.pcm_desk.specs.Openings.{fragment_bytes, ring_bytes}
use Rattle.pcm_desk.specs.BookTurns.{refused, telling}

abbrev pub is_play_free : PlayState → Bool
is_play_free Free = true
is_play_free state = false

abbrev pub is_play_setup : PlayState → Bool
is_play_setup Setup = true
is_play_setup state = false

abbrev pub is_primed : PlayState → Bool
is_primed Primed = true
is_primed state = false

abbrev pub is_draining : PlayState → Bool
is_draining (Draining _) = true
is_draining state = false

-- a free book takes no bytes, nor does one that drains
abbrev pub takes_none : PlayState → Bool
takes_none Free = true
takes_none state = is_draining state

abbrev pub is_started : PlayState → Bool
is_started Running = true
is_started state = is_draining state

-- the whole frames accepted in this run
abbrev pub frames_written : PlayBook → ℕ
frames_written book = whole_frames book.opening.settings book.written

-- the bytes that wait in the ring
abbrev pub play_fill_of : PlayBook → ℕ
play_fill_of book = book.written - book.eaten * frame_bytes book.opening.settings

-- the bytes that fit
abbrev pub play_free_of : PlayBook → ℕ
play_free_of book = ring_bytes book.opening - play_fill_of book

-- the bytes that the device has taken since the opening or its last halt
abbrev pub played_of : PlayBook → ℕ
played_of book = book.done + book.eaten * frame_bytes book.opening.settings

-- Counts of frames on the side of the mix stand to those of the client's side by the rate between the two.

-- how many frames of the mix the book has allowed so far
abbrev pub allowed_in : Rate → PlayState → PlayBook → ℕ
allowed_in rate Running book = can rate (frames_written book)
allowed_in rate (Draining _) book = len rate (frames_written book)
allowed_in rate state book = 0

-- how many of n frames the book gives to the mix
abbrev pub giving : Rate → ℕ → PlayBook → ℕ
giving rate n book = min n (allowed_in rate book.state book - book.given)

-- an opening begins
abbrev pub play_begun : Settings → PlayBook
play_begun settings = record {
  opening = openings.begun settings;
  volume = VOLUME;
  state = Setup;
  written = 0;
  eaten = 0;
  given = 0;
  done = 0;
  underruns = 0;
  last = 0;
}

-- nothing of a run is left
abbrev pub play_emptied : PlayState → PlayBook → PlayBook
play_emptied state book = record book { state = state; written = 0; eaten = 0; given = 0 }

-- a run ends that was played whole
abbrev pub finished : PlayState → PlayBook → PlayBook
finished state book = record (play_emptied state book) { done = book.done + frames_written book * frame_bytes book.opening.settings }

-- all bytes are dropped, and positions begin at 0 again
abbrev pub play_dropped : PlayBook → PlayBook
play_dropped book = record (play_emptied Setup book) { opening = record book.opening { told = 0 }; done = 0 }

-- a book with bytes in it isn't in Setup
abbrev pub primed_in : PlayState → PlayBook → PlayBook
primed_in Setup book = if nat_lt 0 book.written then record book { state = Primed } else book
primed_in state book = book

-- the trigger is on, and a full fragment waits
abbrev pub may_start : PlayBook → Bool
may_start book = book.opening.trigger && nat_le (fragment_bytes book.opening) (play_fill_of book)

-- a run may start at any moment: it has a whole frame
abbrev pub play_is_ready : PlayBook → Bool
play_is_ready book = is_primed book.state && nat_lt 0 (frames_written book)

-- a run starts where `mixed` frames were mixed
abbrev pub started_at : ℕ → PlayState → PlayBook → PlayBook
started_at mixed state book = record book { state = state; last = mixed }

-- a primed book that may start does so
abbrev pub started_in : ℕ → PlayState → PlayBook → PlayBook
started_in mixed Primed book = if may_start book then started_at mixed Running book else book
started_in mixed state book = book

-- `accepted` more bytes were written, where `mixed` frames were mixed
abbrev pub accepting : ℕ → ℕ → PlayBook → PlayBook
accepting mixed accepted book =
    let more : PlayBook = record book { written = book.written + accepted } in
    let primed : PlayBook = primed_in more.state more in
    started_in mixed primed.state primed

-- A write of `length` bytes. A book that takes none is busy; then a full ring has no room; else what fits is accepted.
abbrev pub write_turn : Here → ℕ → PlayBook → Turn PlayBook
write_turn here length book =
    if takes_none book.state then refused Busy book
    else if nat_lt 0 length && play_free_of book == 0 then refused Again book
    else telling (Number (min length (play_free_of book))) (accepting here.mixed (min length (play_free_of book)) book)

-- all that a run lasts for was given
abbrev pub has_given_all : Rate → PlayBook → Bool
has_given_all rate book = book.given == len rate (frames_written book)

-- and its last frame has left the device's ring, of which `passed` frames of the mix have
abbrev pub is_over : Rate → ℤ → PlayBook → Bool
is_over rate passed book = has_given_all rate book && int_le (pos book.last) passed

-- a draining book that is over ends
abbrev pub play_settled_in : Rate → ℤ → PlayState → PlayBook → PlayBook
play_settled_in rate passed (Draining closed) book = if is_over rate passed book then finished (if closed then Free else Setup) book else book
play_settled_in rate passed state book = book

abbrev pub play_settled : Rate → ℤ → PlayBook → PlayBook
play_settled rate passed book = play_settled_in rate passed book.state book

-- No more comes: what was written plays to its end, and a part of a frame alone is dropped.
abbrev pub drained_in : Rate → Here → PlayState → PlayBook → PlayBook
drained_in rate here Primed book =
    if nat_lt 0 (frames_written book) then started_at here.mixed (Draining false) book else play_emptied Setup book
drained_in rate here Running book = play_settled_in rate here.passed (Draining false) (record book { state = Draining false })
drained_in rate here state book = book

-- no descriptor has the book any more
abbrev pub closed_in : PlayState → PlayBook → PlayBook
closed_in Setup book = record book { state = Free }
closed_in (Draining closed) book = record book { state = Draining true }
closed_in state book = book

-- a close: a drain, and then no descriptor
abbrev pub close_turn : Rate → Here → PlayBook → PlayBook
close_turn rate here book = let drained : PlayBook = drained_in rate here book.state book in closed_in drained.state drained

-- the position after the last frame that a run gives, where `count` of the next frames of the mix are its own
abbrev pub last_after : ℕ → ℕ → PlayBook → ℕ
last_after mixed count book = if nat_lt 0 count then mixed + count else book.last

-- how many frames of the run have left the ring with those that the next n frames of the mix need
abbrev pub eaten_after : Rate → ℕ → PlayBook → ℕ
eaten_after rate n book = max book.eaten (min (frames_written book) (need rate (book.given + n)))

-- What the next n frames of the mix need leaves the ring, and what is allowed of them goes into the mix, after `mixed` frames.
abbrev pub gives : Rate → ℕ → ℕ → PlayBook → PlayBook
gives rate mixed n book = record book {
  eaten = eaten_after rate n book;
  given = book.given + giving rate n book;
  last = last_after mixed (giving rate n book) book;
}

-- a running book that gave fewer than n frames was short; the count stands still at its end
abbrev pub underruns_after : Rate → ℕ → PlayBook → ℕ
underruns_after rate n book = if nat_lt (giving rate n book) n then min (book.underruns + 1) (2 ^ 32 - 1) else book.underruns

-- an interrupt that mixes n frames, after `mixed`
abbrev pub refilled_in : Rate → ℕ → PlayState → ℕ → PlayBook → PlayBook
refilled_in rate mixed Running n book = record (gives rate mixed n book) { underruns = underruns_after rate n book }
refilled_in rate mixed (Draining closed) n book = gives rate mixed n book
refilled_in rate mixed state n book = book

abbrev pub refilled : Rate → ℕ → ℕ → PlayBook → PlayBook
refilled rate mixed n book = refilled_in rate mixed book.state n book
