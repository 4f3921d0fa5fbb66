-- Every request in every state: a book for each state, and what comes of each request.
use Rattle.std.specs.Prelude.{◌≡◌, ℕ, pos, ◌^◌, List, [], ◌∷◌, map, true, false, Ok, Err}
use Rattle.pcm_format.specs.declared.format.Format.TheVariants.{S8}
use Rattle.pcm_format.specs.declared.layout.Layout.TheVariants.{Six}
use Rattle.pcm_format.specs.Formats.{code_of}
use Rattle.pcm_format.specs.Layouts.{channels_of}
use Rattle.pcm_oss.specs.declared.event.Event.TheVariants.{Write, Close}
use Rattle.pcm_wave.specs.declared.pool.Source.TheVariants.{Inline}
use Rattle.pcm_oss.specs.declared.reply.Answer.{Answer}
use Rattle.pcm_oss.specs.declared.reply.Answer.TheVariants.{Done, Number, Space, Pointer, Errors}
use Rattle.pcm_oss.specs.declared.reply.Errno.{Errno}
use Rattle.pcm_oss.specs.declared.reply.Errno.TheVariants.{Busy, Inval}
use Rattle.pcm_oss.specs.declared.request.Request.{Request}
use Rattle.pcm_oss.specs.declared.request.Request.TheVariants.{SetFmt, Speed, Channels, GetFmts, GetCaps, GetBlkSize, SetFragment, GetOSpace, GetISpace, GetOPtr, GetIPtr, GetODelay, GetError, SetTrigger, GetTrigger, SetPlayVol, GetPlayVol, Post, Sync, Halt}
use Rattle.pcm_rate.specs.declared.rate.Rate.{Rate}
use Rattle.pcm_rate.specs.Rates.{unchanged}
use Rattle.pcm_desk.specs.declared.here.Here.{Here}
use Rattle.pcm_desk.specs.declared.play_book.PlayBook.{PlayBook}
use Rattle.pcm_desk.specs.declared.play_book.PlayState.{PlayState}
use Rattle.pcm_desk.specs.declared.play_book.PlayState.TheVariants.{Setup, Primed, Running, Draining}
use Rattle.pcm_desk.specs.declared.turn.Turn.{Turn}
use Rattle.pcm_desk.specs.Desk.{Desk, desk_at_start}
use Rattle.pcm_desk.specs.Events.{after_all}
use Rattle.pcm_desk.specs.PlayRequests.{play_ask, play_with_trigger}
use Rattle.pcm_desk.specs.Usual.{usual_settings}
use Rattle.pcm_rows.specs.Calls.{cut_in, last_at, opens, set_to, small_device, told_at, usual_book}

-- ---- tables

-- The outcome of a request: an answer while the book stays, an answer and another book, or a refusal.
pub data Outcome : Type 0 where
  Tells : Answer → Outcome
  Makes : PlayBook → Answer → Outcome
  Refuses : Errno → Outcome

-- a row of a table
pub record AskedRow : Type 0 where
  pub request : Request
  pub outcome : Outcome

abbrev pub row : Request → Outcome → AskedRow
row request outcome = record { request = request; outcome = outcome }

-- the book and the reply of an outcome
abbrev pub outcome_turn : PlayBook → Outcome → Turn PlayBook
outcome_turn book (Tells answer) = record { book = book; reply = Ok answer }
outcome_turn book (Makes new answer) = record { book = new; reply = Ok answer }
outcome_turn book (Refuses errno) = record { book = book; reply = Err errno }

-- what a table says of a book
abbrev pub turns_in : PlayBook → List AskedRow → List (Turn PlayBook)
turns_in book rows = map (λ row. outcome_turn book row.outcome) rows

-- what the rules say of the same requests, with the rate of the mix and where it and the device are
abbrev pub turns_asked : Rate → ℕ → Here → PlayBook → List AskedRow → List (Turn PlayBook)
turns_asked rate mix_rate here book rows = map (λ row. play_ask rate mix_rate here row.request book) rows

-- a book answers the requests of a table as its rows say
abbrev pub AnswersAs : Rate → ℕ → Here → PlayBook → List AskedRow → Type 0
AnswersAs rate mix_rate here book rows = turns_asked rate mix_rate here book rows ≡ turns_in book rows

-- twelve frames were mixed at 48000, of which eight have left the device's ring
abbrev pub twelve_mixed : Here
twelve_mixed = record { mixed = 12; passed = pos 8 }

-- there a book in the settings of the device answers so
abbrev pub AnswersThere : PlayBook → List AskedRow → Type 0
AnswersThere book rows = AnswersAs unchanged 48000 twelve_mixed book rows

-- and so to one request
abbrev pub asked_there : Request → PlayBook → Turn PlayBook
asked_there request book = play_ask unchanged 48000 twelve_mixed request book

-- ---- outcomes

abbrev pub number : ℕ → Outcome
number told = Tells (Number told)

-- there is no more to say
abbrev pub ok : Outcome
ok = Tells Done

abbrev pub becomes : PlayBook → Outcome
becomes book = Makes book Done

abbrev pub busy : Outcome
busy = Refuses Busy

abbrev pub inval : Outcome
inval = Refuses Inval

-- ---- books

-- A ring of four fragments of 16 bytes, after runs of 80 bytes; the last position answered is 28. Frames have four bytes.
abbrev pub cut_book : PlayState → ℕ → ℕ → PlayBook
cut_book state written eaten = record (cut_in 4 4 (told_at 28 (usual_book state written eaten eaten))) { done = 80; underruns = 3 }

abbrev pub setup_book : PlayBook
setup_book = cut_book Setup 0 0

-- two frames and a half wait
abbrev pub primed_book : PlayBook
primed_book = cut_book Primed 10 0

-- seven frames and a half were written, and two are played
abbrev pub running_book : PlayBook
running_book = cut_book Running 30 2

abbrev pub draining_book : PlayBook
draining_book = cut_book (Draining false) 30 2

-- the ring is full, and the trigger is off
abbrev pub full_book : PlayBook
full_book = play_with_trigger false (cut_book Primed 64 0)

-- a book without its bytes and positions
abbrev pub halted : PlayBook → PlayBook
halted book = record (told_at 0 book) { state = Setup; written = 0; eaten = 0; given = 0; done = 0 }

-- ---- what no state changes

-- What is answered or refused in every state, and what is always done. 3 is the code of no format, and no number of channels.
abbrev pub rows_in_every_state : PlayBook → List AskedRow
rows_in_every_state book =
    row (SetFmt 0) (number (code_of book.opening.settings.format))
    ∷ row (SetFmt 3) inval
    ∷ row (Speed 0) (number book.opening.settings.rate)
    ∷ row (Speed 3999) inval
    ∷ row (Speed 192001) inval
    ∷ row (Channels 0) (number (channels_of book.opening.settings.layout))
    ∷ row (Channels 3) inval
    ∷ row GetFmts (number 1044984)
    ∷ row GetCaps (number 4608)
    ∷ row GetBlkSize (number (2 ^ book.opening.fragments.log))
    ∷ row GetISpace inval
    ∷ row GetIPtr inval
    ∷ row GetError (Makes (record book { underruns = 0 }) (Errors book.underruns 0))
    ∷ row (SetTrigger 4) inval
    ∷ row (SetPlayVol 12900) (Makes (record book { volume = 12900 }) (Number 12900))
    ∷ row (SetPlayVol 101) inval
    ∷ row GetPlayVol (number book.volume)
    ∷ row Halt (becomes (halted book))
    ∷ []

-- ---- what the state decides

-- Settings and fragments are free. The trigger alone changes when it is turned off.
abbrev pub setup_rows : List AskedRow
setup_rows =
    row (SetFmt 0x40) (Makes (set_to (record usual_settings { format = S8 }) setup_book) (Number 0x40))
    ∷ row (Speed 4000) (Makes (set_to (record usual_settings { rate = 4000 }) setup_book) (Number 4000))
    ∷ row (Speed 192000) (Makes (set_to (record usual_settings { rate = 192000 }) setup_book) (Number 192000))
    ∷ row (Channels 6) (Makes (set_to (record usual_settings { layout = Six }) setup_book) (Number 6))
    ∷ row (SetFragment 0x00080005) (Makes (cut_in 5 8 setup_book) (Number 0x00080005))
    ∷ row GetOSpace (Tells (Space 4 4 16 64))
    ∷ row GetOPtr (Makes (told_at 80 setup_book) (Pointer 80 4 16))
    ∷ row GetODelay (number 0)
    ∷ row (SetTrigger 0) (becomes (play_with_trigger false setup_book))
    ∷ row (SetTrigger 1) (becomes (play_with_trigger false setup_book))
    ∷ row (SetTrigger 2) ok
    ∷ row (SetTrigger 3) ok
    ∷ row GetTrigger (number 2)
    ∷ row Post ok
    ∷ row Sync ok
    ∷ []

-- What waits has a whole frame, and so it starts or drains.
abbrev pub primed_rows : List AskedRow
primed_rows =
    row (SetFmt 0x40) busy
    ∷ row (Speed 4000) busy
    ∷ row (Channels 6) busy
    ∷ row (SetFragment 0x00080005) busy
    ∷ row GetOSpace (Tells (Space 3 4 16 54))
    ∷ row GetOPtr (Makes (told_at 80 primed_book) (Pointer 80 4 16))
    ∷ row GetODelay (number 10)
    ∷ row (SetTrigger 0) (becomes (play_with_trigger false (halted primed_book)))
    ∷ row (SetTrigger 1) (becomes (play_with_trigger false (halted primed_book)))
    ∷ row (SetTrigger 2) (becomes (last_at 12 (record primed_book { state = Running })))
    ∷ row (SetTrigger 3) (becomes (last_at 12 (record primed_book { state = Running })))
    ∷ row GetTrigger (number 2)
    ∷ row Post (becomes (last_at 12 (record primed_book { state = Running })))
    ∷ row Sync (becomes (last_at 12 (record primed_book { state = Draining false })))
    ∷ []

-- The ends of five fragments were passed, of which one was answered.
abbrev pub running_rows : List AskedRow
running_rows =
    row (SetFmt 0x40) busy
    ∷ row (Speed 4000) busy
    ∷ row (Channels 6) busy
    ∷ row (SetFragment 0x00080005) busy
    ∷ row GetOSpace (Tells (Space 2 4 16 42))
    ∷ row GetOPtr (Makes (told_at 88 running_book) (Pointer 88 4 24))
    ∷ row GetODelay (number 38)
    ∷ row (SetTrigger 0) (becomes (play_with_trigger false (halted running_book)))
    ∷ row (SetTrigger 1) (becomes (play_with_trigger false (halted running_book)))
    ∷ row (SetTrigger 2) ok
    ∷ row (SetTrigger 3) ok
    ∷ row GetTrigger (number 2)
    ∷ row Post ok
    ∷ row Sync (becomes (record running_book { state = Draining false }))
    ∷ []

-- Nothing is set, and nothing starts or stops; answers are those of the channel while it ran.
abbrev pub draining_rows : List AskedRow
draining_rows =
    row (SetFmt 0x40) busy
    ∷ row (Speed 4000) busy
    ∷ row (Channels 6) busy
    ∷ row (SetFragment 0x00080005) busy
    ∷ row GetOSpace (Tells (Space 2 4 16 42))
    ∷ row GetOPtr (Makes (told_at 88 draining_book) (Pointer 88 4 24))
    ∷ row GetODelay (number 38)
    ∷ row (SetTrigger 0) busy
    ∷ row (SetTrigger 1) busy
    ∷ row (SetTrigger 2) busy
    ∷ row (SetTrigger 3) busy
    ∷ row GetTrigger (number 2)
    ∷ row Post ok
    ∷ row Sync ok
    ∷ []

-- There is no room. A post needs the trigger, and a sync doesn't.
abbrev pub full_rows : List AskedRow
full_rows =
    row (SetFmt 0x40) busy
    ∷ row (Speed 4000) busy
    ∷ row (Channels 6) busy
    ∷ row (SetFragment 0x00080005) busy
    ∷ row GetOSpace (Tells (Space 0 4 16 0))
    ∷ row GetOPtr (Makes (told_at 80 full_book) (Pointer 80 4 16))
    ∷ row GetODelay (number 64)
    ∷ row (SetTrigger 0) (becomes (halted full_book))
    ∷ row (SetTrigger 1) (becomes (halted full_book))
    ∷ row (SetTrigger 2) (becomes (last_at 12 (record (play_with_trigger true full_book) { state = Running })))
    ∷ row (SetTrigger 3) (becomes (last_at 12 (record (play_with_trigger true full_book) { state = Running })))
    ∷ row GetTrigger (number 0)
    ∷ row Post ok
    ∷ row Sync (becomes (last_at 12 (record full_book { state = Draining false })))
    ∷ []

-- a full ring that runs: 18 frames were written, and two are played
abbrev pub full_running_book : PlayBook
full_running_book = cut_book Running 72 2

abbrev pub full_running_rows : List AskedRow
full_running_rows =
    row GetOSpace (Tells (Space 0 4 16 0))
    ∷ row GetODelay (number 80)
    ∷ row (SetTrigger 2) ok
    ∷ row Post ok
    ∷ row Sync (becomes (cut_book (Draining false) 72 2))
    ∷ []

-- ---- parts of a frame, and runs that are played whole

-- three bytes of a frame wait
abbrev pub part_book : PlayBook
part_book = cut_book Primed 3 0

abbrev pub part_rows : List AskedRow
part_rows =
    row (SetTrigger 2) ok
    ∷ row Post ok
    ∷ row Sync (becomes setup_book)
    ∷ row Halt (becomes (halted part_book))
    ∷ []

-- seven frames were written and given, the last one before some position, and half a frame waits
abbrev pub played_book : PlayState → ℕ → PlayBook
played_book state last = last_at last (cut_book state 30 7)

-- two frames were written and given at half the rate of the mix, where they last for four
abbrev pub half_rate : Rate
half_rate = record { src = 24000; dst = 48000; lookahead = 1 }

abbrev pub half_given : PlayState → PlayBook
half_given state = cut_book state 8 2

-- a book whose seven frames count among the bytes that were played
abbrev pub ended_book : PlayState → ℕ → PlayBook
ended_book state last = last_at last (record (cut_book state 0 0) { done = 108 })

-- ---- writes and closes

-- a write that some bytes of are accepted
abbrev pub accepts : ℕ → PlayBook → Turn PlayBook
accepts count book = outcome_turn book (Makes book (Number count))

-- a request that has nothing more to say
abbrev pub done : PlayBook → Turn PlayBook
done book = outcome_turn book (Makes book Done)

-- a write that is refused
abbrev pub refuses : Errno → PlayBook → Turn PlayBook
refuses errno book = outcome_turn book (Refuses errno)

-- ---- descriptors

-- a desk that nobody opened
abbrev pub new_desk : Desk
new_desk = desk_at_start small_device

-- a client that closed before its two frames were played
abbrev pub closed_desk : Desk
closed_desk = after_all small_device new_desk (opens 0 ∷ Write 0 Inline 0 8 ∷ Close 0 ∷ [])
