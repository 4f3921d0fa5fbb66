-- The book of one mapped opening: what is counted, and what each event does to it. Its client writes into an area, of as many bytes as a
-- ring of its fragments, and the device takes what stands there. No book looks at another.
use Rattle.std.specs.Prelude.{ℕ, ◌+◌, ◌*◌, nat_lt, if◌then◌else◌}
use Rattle.pcm_format.specs.declared.settings.Settings.{Settings}
use Rattle.pcm_oss.specs.declared.reply.Errno.TheVariants.{Inval}
use Rattle.pcm_oss.specs.declared.volume.TheConstants.{VOLUME}
use Rattle.pcm_format.specs.Frames.{frame_bytes}
use Rattle.pcm_rate.specs.declared.rate.Rate.{Rate}
use Rattle.pcm_rate.specs.Rates.{need}
use Rattle.pcm_desk.specs.declared.map_book.MapBook.{MapBook}
use Rattle.pcm_desk.specs.declared.run_state.RunState.{RunState}
use Rattle.pcm_desk.specs.declared.run_state.RunState.TheVariants.{Free, Setup, Running}
use Rattle.pcm_desk.specs.declared.turn.Turn.{Turn}
use Rattle.pcm_desk.specs.Openings as openings
use Rattle.pcm_desk.specs.Openings.{ring_bytes}
use Rattle.pcm_desk.specs.BookTurns.{doing, refused}

-- the bytes that the device has taken since the start
abbrev pub taken_of : MapBook → ℕ
taken_of book = book.eaten * frame_bytes book.opening.settings

-- an opening begins
abbrev pub map_begun : Settings → MapBook
map_begun settings = record { opening = openings.begun settings; volume = VOLUME; state = Setup; eaten = 0; given = 0 }

-- nothing of a run is left, and positions begin at 0 again
abbrev pub map_emptied : RunState → MapBook → MapBook
map_emptied state book = record book { opening = record book.opening { told = 0 }; state = state; eaten = 0; given = 0 }

-- a run ends
abbrev pub map_halted : MapBook → MapBook
map_halted book = map_emptied Setup book

-- no descriptor has the book any more
abbrev pub map_closed : MapBook → MapBook
map_closed book = map_emptied Free book

-- A poke of `count` bytes from an offset on: what passes the end of the area is refused. The book counts no byte of it.
abbrev pub poke_turn : ℕ → ℕ → MapBook → Turn MapBook
poke_turn offset count book = if nat_lt (ring_bytes book.opening) (offset + count) then refused Inval book else doing book

-- what the next n frames of the mix need is taken, and all n are given
abbrev pub map_gives : Rate → ℕ → MapBook → MapBook
map_gives rate n book = record book { eaten = need rate (book.given + n); given = book.given + n }

-- an interrupt that mixes n frames
abbrev pub map_refilled_in : Rate → RunState → ℕ → MapBook → MapBook
map_refilled_in rate Running n book = map_gives rate n book
map_refilled_in rate state n book = book

abbrev pub map_refilled : Rate → ℕ → MapBook → MapBook
map_refilled rate n book = map_refilled_in rate book.state n book
