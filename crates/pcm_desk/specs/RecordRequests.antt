-- What a client asks of a channel that records: for each request, what it is refused for, or the book after it and the answer.
use Rattle.pcm_oss.specs.declared.reply.Answer.TheVariants.{Errors}
use Rattle.pcm_oss.specs.declared.request.Request.{Request}
use Rattle.pcm_oss.specs.declared.request.Request.TheVariants.{GetISpace, GetIPtr, GetError}
use Rattle.pcm_desk.specs.declared.record_book.RecordBook.{RecordBook}
use Rattle.pcm_desk.specs.declared.trigger.TheConstants.{RECORD_BIT}
use Rattle.pcm_desk.specs.declared.run_requests.RunAsked.{RunAsked}
use Rattle.pcm_desk.specs.declared.run_requests.RunChange.{RunChange}
use Rattle.pcm_desk.specs.declared.run_requests.RunChange.TheVariants.{Stays, Starts, Drops}
use Rattle.pcm_desk.specs.declared.run_state.RunState.TheVariants.{Running}
use Rattle.pcm_desk.specs.declared.turn.Turn.{Turn}
use Rattle.pcm_desk.specs.Openings.{space_of, tell_pointer}
use Rattle.pcm_desk.specs.RecordBooks.{record_dropped, record_fill_of}
use Rattle.pcm_desk.specs.RunRequests.{run_ask, run_staying}
use Rattle.pcm_desk.specs.BookTurns.{telling}

-- what became of its run
abbrev pub record_changed : RunChange → RecordBook → RecordBook
record_changed Stays book = book
record_changed Starts book = record book { state = Running }
record_changed Drops book = record_dropped book

-- and of its opening
abbrev pub record_run : RecordBook → Turn RunAsked → Turn RecordBook
record_run book turn = record { book = record_changed turn.book.change (record book { opening = turn.book.opening }); reply = turn.reply }

-- the overruns are answered, and count from 0 again; a channel that records has no underruns
abbrev pub record_tell_errors : RecordBook → Turn RecordBook
record_tell_errors book = telling (Errors 0 book.overruns) (record book { overruns = 0 })

-- what a request asks of a book that records: its own lines, and then those of every run
abbrev pub record_ask : Request → RecordBook → Turn RecordBook
record_ask GetISpace book = telling (space_of (record_fill_of book) book.opening) book
record_ask GetIPtr book = record_run book (run_staying (tell_pointer book.kept book.opening))
record_ask GetError book = record_tell_errors book
record_ask request book = record_run book (run_ask RECORD_BIT request book.state book.opening)
