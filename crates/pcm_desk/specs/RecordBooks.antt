-- The book of one record opening: what is counted, and what each event does to it. No book looks at another.
use Rattle.std.specs.Prelude.{ℕ, ◌+◌, ◌-◌, ◌*◌, ◌/◌, ◌^◌, min, ◌&&◌, nat_lt, ◌==◌, if◌then◌else◌}
use Rattle.pcm_format.specs.declared.settings.Settings.{Settings}
use Rattle.pcm_oss.specs.declared.reply.Answer.TheVariants.{Got}
use Rattle.pcm_oss.specs.declared.reply.Errno.TheVariants.{Again}
use Rattle.pcm_format.specs.Frames.{frame_bytes}
use Rattle.pcm_rate.specs.declared.rate.Rate.{Rate}
use Rattle.pcm_rate.specs.Rates.{can}
use Rattle.pcm_desk.specs.declared.record_book.RecordBook.{RecordBook}
use Rattle.pcm_desk.specs.declared.run_state.RunState.{RunState}
use Rattle.pcm_desk.specs.declared.run_state.RunState.TheVariants.{Free, Setup, Running}
use Rattle.pcm_desk.specs.declared.turn.Turn.{Turn}
use Rattle.pcm_desk.specs.Openings as openings
use Rattle.pcm_desk.specs.Openings.{ring_bytes}
use Rattle.pcm_desk.specs.BookTurns.{refused, telling}

-- the bytes that wait in the ring
abbrev pub record_fill_of : RecordBook → ℕ
record_fill_of book = book.kept - book.read

-- the bytes that fit
abbrev pub record_free_of : RecordBook → ℕ
record_free_of book = ring_bytes book.opening - record_fill_of book

-- Counts of frames on the side of the client stand to those of the device's side by the rate between the two.

-- how many frames come of the next n captured ones
abbrev pub coming : Rate → ℕ → RecordBook → ℕ
coming rate n book = can rate (book.captured + n) - book.given

-- how many of them the ring keeps: whole frames, and the first ones
abbrev pub keeping : Rate → ℕ → RecordBook → ℕ
keeping rate n book = min (coming rate n book) (record_free_of book / frame_bytes book.opening.settings)

-- an opening begins
abbrev pub record_begun : Settings → RecordBook
record_begun settings = record {
  opening = openings.begun settings;
  state = Setup;
  captured = 0;
  given = 0;
  kept = 0;
  read = 0;
  overruns = 0;
}

-- all bytes are dropped, and positions begin at 0 again
abbrev pub record_emptied : RunState → RecordBook → RecordBook
record_emptied state book = record book {
  opening = record book.opening { told = 0 };
  state = state;
  captured = 0;
  given = 0;
  kept = 0;
  read = 0;
}

abbrev pub record_dropped : RecordBook → RecordBook
record_dropped book = record_emptied Setup book

-- no descriptor has the book any more
abbrev pub closed : RecordBook → RecordBook
closed book = record_emptied Free book

-- A read of at most `length` bytes. An empty ring has none now; else the oldest go.
abbrev pub read_turn : ℕ → RecordBook → Turn RecordBook
read_turn length book =
    if nat_lt 0 length && record_fill_of book == 0 then refused Again book
    else telling (Got (min length (record_fill_of book))) (record book { read = book.read + min length (record_fill_of book) })

-- an interrupt that brings more frames than are kept has lost some; the count stands still at its end
abbrev pub overruns_after : Rate → ℕ → RecordBook → ℕ
overruns_after rate n book =
    if nat_lt (keeping rate n book) (coming rate n book) then min (book.overruns + 1) (2 ^ 32 - 1) else book.overruns

-- n more frames are captured: all that come of them do, and the first ones are kept
abbrev pub captures : Rate → ℕ → RecordBook → RecordBook
captures rate n book = record book {
  captured = book.captured + n;
  given = book.given + coming rate n book;
  kept = book.kept + keeping rate n book * frame_bytes book.opening.settings;
  overruns = overruns_after rate n book;
}

-- an interrupt that captures n frames
abbrev pub captured_in : Rate → RunState → ℕ → RecordBook → RecordBook
captured_in rate Running n book = captures rate n book
captured_in rate state n book = book

abbrev pub captured : Rate → ℕ → RecordBook → RecordBook
captured rate n book = captured_in rate book.state n book
