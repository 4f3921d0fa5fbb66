-- What a client asks of a mapped channel: for each request, what it is refused for, or the book after it and the answer.
use Rattle.std.specs.Prelude.{ℕ, if◌then◌else◌}
use Rattle.pcm_oss.specs.declared.reply.Answer.TheVariants.{Number, Errors}
use Rattle.pcm_oss.specs.declared.reply.Errno.TheVariants.{Inval}
use Rattle.pcm_oss.specs.declared.request.Request.{Request}
use Rattle.pcm_oss.specs.declared.request.Request.TheVariants.{GetOPtr, GetError, SetPlayVol, GetPlayVol}
use Rattle.pcm_oss.specs.Volumes.{is_volume}
use Rattle.pcm_desk.specs.declared.map_book.MapBook.{MapBook}
use Rattle.pcm_desk.specs.declared.trigger.TheConstants.{PLAY_BIT}
use Rattle.pcm_desk.specs.declared.run_requests.RunAsked.{RunAsked}
use Rattle.pcm_desk.specs.declared.run_requests.RunChange.{RunChange}
use Rattle.pcm_desk.specs.declared.run_requests.RunChange.TheVariants.{Stays, Starts, Drops}
use Rattle.pcm_desk.specs.declared.run_state.RunState.TheVariants.{Running}
use Rattle.pcm_desk.specs.declared.turn.Turn.{Turn}
use Rattle.pcm_desk.specs.Openings.{tell_pointer}
use Rattle.pcm_desk.specs.MapBooks.{map_halted, taken_of}
use Rattle.pcm_desk.specs.RunRequests.{run_ask, run_staying}
use Rattle.pcm_desk.specs.BookTurns.{refused, telling}

-- what became of its run
abbrev pub map_changed : RunChange → MapBook → MapBook
map_changed Stays book = book
map_changed Starts book = record book { state = Running }
map_changed Drops book = map_halted book

-- and of its opening
abbrev pub map_run : MapBook → Turn RunAsked → Turn MapBook
map_run book turn = record { book = map_changed turn.book.change (record book { opening = turn.book.opening }); reply = turn.reply }

-- a volume is heard from the next frame on that is mixed
abbrev pub map_set_volume : ℕ → MapBook → Turn MapBook
map_set_volume volume book = if is_volume volume then telling (Number volume) (record book { volume = volume }) else refused Inval book

-- What a request asks of a mapped book: its own lines, and then those of every run. It is never short and has no ring that fills, so
-- there are no errors, and it answers neither space nor delay.
abbrev pub map_ask : Request → MapBook → Turn MapBook
map_ask GetOPtr book = map_run book (run_staying (tell_pointer (taken_of book) book.opening))
map_ask GetError book = telling (Errors 0 0) book
map_ask (SetPlayVol volume) book = map_set_volume volume book
map_ask GetPlayVol book = telling (Number book.volume) book
map_ask request book = map_run book (run_ask PLAY_BIT request book.state book.opening)
