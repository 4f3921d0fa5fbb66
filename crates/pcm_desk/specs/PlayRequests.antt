-- What a client asks of a channel that plays: for each request, what it is refused for, or the book after it and the answer.
use Rattle.std.specs.Prelude.{ℕ, ℤ, pos, ◌+◌, ◌*◌, ◌/◌, ◌-ℤ◌, nat_abs, Bool, ◌&&◌, true, false, nat_lt, if◌then◌else◌}
use Rattle.pcm_format.specs.Frames.{frame_bytes}
use Rattle.pcm_oss.specs.declared.reply.Answer.TheVariants.{Number, Errors}
use Rattle.pcm_oss.specs.declared.reply.Errno.TheVariants.{Busy, Inval}
use Rattle.pcm_oss.specs.declared.request.Request.{Request}
use Rattle.pcm_oss.specs.declared.request.Request.TheVariants.{GetOSpace, GetOPtr, GetODelay, GetError, SetTrigger, SetPlayVol, GetPlayVol, Post, Sync, Halt}
use Rattle.pcm_oss.specs.Volumes.{is_volume}
use Rattle.pcm_rate.specs.declared.rate.Rate.{Rate}
use Rattle.pcm_desk.specs.declared.here.Here.{Here}
use Rattle.pcm_desk.specs.declared.play_book.PlayBook.{PlayBook}
use Rattle.pcm_desk.specs.declared.play_book.PlayState.{PlayState}
use Rattle.pcm_desk.specs.declared.play_book.PlayState.TheVariants.{Primed, Running}
use Rattle.pcm_desk.specs.declared.opening.Opening.{Opening}
use Rattle.pcm_desk.specs.declared.trigger.TheConstants.{PLAY_BIT}
use Rattle.pcm_desk.specs.declared.turn.Turn.{Turn}
use Rattle.pcm_desk.specs.Openings as openings
use Rattle.pcm_desk.specs.Openings.{space_of, tell_pointer, with_trigger}
use Rattle.pcm_desk.specs.PlayBooks.{drained_in, frames_written, has_given_all, is_draining, is_play_setup, is_started, play_dropped, play_fill_of, play_free_of, played_of, started_at}
use Rattle.pcm_desk.specs.BookTurns.{doing, refused, telling}
use Rattle.pcm_desk.specs.Triggers.{has_other_bits, has_play_bit}

-- what was done to the opening of a book
abbrev pub play_with_opening : PlayBook → Turn Opening → Turn PlayBook
play_with_opening book turn = record { book = record book { opening = turn.book }; reply = turn.reply }

-- a volume is heard from the next frame on that is mixed
abbrev pub set_volume : ℕ → PlayBook → Turn PlayBook
set_volume volume book = if is_volume volume then telling (Number volume) (record book { volume = volume }) else refused Inval book

-- the shortages are answered, and count from 0 again; a channel that plays has no overruns
abbrev pub play_tell_errors : PlayBook → Turn PlayBook
play_tell_errors book = telling (Errors book.underruns 0) (record book { underruns = 0 })

-- ---- the delay

-- the position after the frames of the mix that a run may sound in so far: its own last one, once no more comes and all was given, else
-- all that are mixed
abbrev pub mark_of : Rate → ℕ → PlayBook → ℕ
mark_of rate mixed book = if is_draining book.state && has_given_all rate book then book.last else mixed

-- how many frames of the mix before a position are still to leave the device's ring
abbrev pub still_to_pass : ℤ → ℕ → ℕ
still_to_pass passed mark = nat_abs (pos mark -ℤ passed)

-- the bytes at a client's rate that last as long as frames of the mix, at its rate: of whole frames
abbrev pub lasting_bytes : ℕ → ℕ → PlayBook → ℕ
lasting_bytes mix_rate frames book = frames * book.opening.settings.rate / mix_rate * frame_bytes book.opening.settings

-- the bytes of a run that the device's ring still holds
abbrev pub device_holds : Rate → ℕ → Here → PlayBook → ℕ
device_holds rate mix_rate here book =
    if is_started book.state then lasting_bytes mix_rate (still_to_pass here.passed (mark_of rate here.mixed book)) book else 0

-- the bytes that wait in the ring and those that the device's still holds
abbrev pub delay_of : Rate → ℕ → Here → PlayBook → ℕ
delay_of rate mix_rate here book = play_fill_of book + device_holds rate mix_rate here book

-- ---- starts and ends

-- the book with its trigger on or off
abbrev pub play_with_trigger : Bool → PlayBook → PlayBook
play_with_trigger trigger book = record book { opening = with_trigger trigger book.opening }

-- a primed book with a whole frame starts
abbrev pub play_roused_in : ℕ → PlayState → PlayBook → PlayBook
play_roused_in mixed Primed book = if nat_lt 0 (frames_written book) then started_at mixed Running book else book
play_roused_in mixed state book = book

-- a post starts a book that may start
abbrev pub play_posted : ℕ → PlayBook → PlayBook
play_posted mixed book = if book.opening.trigger then play_roused_in mixed book.state book else book

-- a primed or running book drops its bytes
abbrev pub play_stopped_in : PlayState → PlayBook → PlayBook
play_stopped_in Primed book = play_dropped book
play_stopped_in Running book = play_dropped book
play_stopped_in state book = book

-- the book once its trigger was set: on, it starts if it can; off, it stops
abbrev pub play_triggered : ℕ → Bool → PlayBook → PlayBook
play_triggered mixed true book = play_roused_in mixed book.state (play_with_trigger true book)
play_triggered mixed false book = play_stopped_in book.state (play_with_trigger false book)

-- More than two bits are refused first, and then a draining book. The bit of the other way says nothing.
abbrev pub play_set_trigger : ℕ → ℕ → PlayBook → Turn PlayBook
play_set_trigger mixed bits book =
    if has_other_bits bits then refused Inval book
    else if is_draining book.state then refused Busy book
    else doing (play_triggered mixed (has_play_bit bits) book)

-- ---- the table

-- What a request asks of a book that plays, with the rate between it and the mix, the rate of the mix, and where the mix and the device
-- are: its own lines, and then those of every opening.
abbrev pub play_ask : Rate → ℕ → Here → Request → PlayBook → Turn PlayBook
play_ask rate mix_rate here GetOSpace book = telling (space_of (play_free_of book) book.opening) book
play_ask rate mix_rate here GetOPtr book = play_with_opening book (tell_pointer (played_of book) book.opening)
play_ask rate mix_rate here GetODelay book = telling (Number (delay_of rate mix_rate here book)) book
play_ask rate mix_rate here GetError book = play_tell_errors book
play_ask rate mix_rate here (SetTrigger bits) book = play_set_trigger here.mixed bits book
play_ask rate mix_rate here (SetPlayVol volume) book = set_volume volume book
play_ask rate mix_rate here GetPlayVol book = telling (Number book.volume) book
play_ask rate mix_rate here Post book = doing (play_posted here.mixed book)
play_ask rate mix_rate here Sync book = doing (drained_in rate here book.state book)
play_ask rate mix_rate here Halt book = doing (play_dropped book)
play_ask rate mix_rate here request book = play_with_opening book (openings.ask (is_play_setup book.state) PLAY_BIT request book.opening)
