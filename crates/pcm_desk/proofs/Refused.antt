-- What is refused leaves the book as it was; and the outcome of a write or a read that isn't refused.
use Rattle.std.proofs.Common.{◌≡◌, ℕ, ◌+◌, false, min, Ok, Err, arith}
use Rattle.std.proofs.Common.{arith}
use Rattle.pcm_desk.specs.Types.{Answer, Errno, Here, MapBook, PlayBook, Rate, RecordBook, Request, Turn}
use Rattle.pcm_oss.specs.declared.reply.Answer.TheVariants.{Got}
use Rattle.pcm_desk.specs.PlayBooks.{accepting, play_free_of, takes_none, write_turn}
use Rattle.pcm_desk.specs.PlayRequests.{play_ask}
use Rattle.pcm_desk.specs.RecordBooks as records
use Rattle.pcm_desk.specs.RecordBooks.{record_fill_of}
use Rattle.pcm_desk.specs.RecordRequests.{record_ask}
use Rattle.pcm_desk.specs.MapBooks.{poke_turn}
use Rattle.pcm_desk.specs.MapRequests.{map_ask}

-- where a turn is refused, the book is this one
abbrev pub LeavesRefused : {B : Type 0} → B → Turn B → Type 0
LeavesRefused old turn = (errno : Errno) → turn.reply ≡ Err errno → turn.book ≡ old

-- ---- channels that play

-- a request
pub ask-refused : (rate : Rate) (mix_rate : ℕ) (here : Here) (request : Request) (book : PlayBook) → LeavesRefused book (play_ask rate mix_rate here request book)
ask-refused rate mix_rate here request book errno e = grind arith

-- a write that isn't refused, of a book that takes bytes, accepts what fits
pub record IsWritten (here : Here) (length : ℕ) (old new : PlayBook) : Type 0 where
  pub more : takes_none old.state ≡ false
  pub is : new ≡ accepting here.mixed (min length (play_free_of old)) old

pub write-done : (here : Here) (length : ℕ) (book : PlayBook) (answer : Answer) → (write_turn here length book).reply ≡ Ok answer → IsWritten here length book (write_turn here length book).book
write-done here length book answer e = grind arith

-- ---- channels that record

-- a request
pub record-ask-refused : (request : Request) (book : RecordBook) → LeavesRefused book (record_ask request book)
record-ask-refused request book errno e = grind arith

-- a read that isn't refused gets what waits
pub record IsRead (length : ℕ) (old new : RecordBook) (answer : Answer) : Type 0 where
  pub got : answer ≡ Got (min length (record_fill_of old))
  pub is : new ≡ record old { read = old.read + min length (record_fill_of old) }

pub read-done : (length : ℕ) (book : RecordBook) (answer : Answer) → (records.read_turn length book).reply ≡ Ok answer → IsRead length book (records.read_turn length book).book answer
read-done length book answer e = grind arith

-- ---- mapped channels

-- a request
pub map-ask-refused : (request : Request) (book : MapBook) → LeavesRefused book (map_ask request book)
map-ask-refused request book errno e = grind arith

-- a poke, refused or not, leaves the book
pub poke-kept : (offset count : ℕ) (book : MapBook) → (poke_turn offset count book).book ≡ book
poke-kept offset count book = grind arith
