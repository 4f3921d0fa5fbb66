-- How many bytes come with a reply: with that to a read as many as it got, and with any other none.
use Rattle.std.proofs.Common.{◌≡◌, ℕ, min, arith}
use Rattle.pcm_desk.specs.Types.{Here, MapBook, PlayBook, Rate, RecordBook, Request}
use Rattle.pcm_oss.specs.Replies.{bytes_due}
use Rattle.pcm_desk.specs.PlayBooks.{write_turn}
use Rattle.pcm_desk.specs.PlayRequests.{play_ask}
use Rattle.pcm_desk.specs.RecordBooks as records
use Rattle.pcm_desk.specs.RecordBooks.{record_fill_of}
use Rattle.pcm_desk.specs.RecordRequests.{record_ask}
use Rattle.pcm_desk.specs.MapBooks.{poke_turn}
use Rattle.pcm_desk.specs.MapRequests.{map_ask}

-- ---- channels that play

-- no bytes come with the reply to a write
pub write-silent : (here : Here) (length : ℕ) (book : PlayBook) → bytes_due (write_turn here length book).reply ≡ 0
write-silent here length book = grind arith

-- nor with that to a request
pub ask-silent : (rate : Rate) (mix_rate : ℕ) (here : Here) (request : Request) (book : PlayBook) → bytes_due (play_ask rate mix_rate here request book).reply ≡ 0
ask-silent rate mix_rate here request book = grind arith

-- ---- channels that record

-- a read gets what it asks for, as far as that waits
pub read-due : (length : ℕ) (book : RecordBook) → bytes_due (records.read_turn length book).reply ≡ min length (record_fill_of book)
read-due length book = grind arith

-- no bytes come with the reply to a request
pub record-ask-silent : (request : Request) (book : RecordBook) → bytes_due (record_ask request book).reply ≡ 0
record-ask-silent request book = grind arith

-- ---- mapped channels

-- no bytes come with the reply to a poke
pub poke-silent : (offset count : ℕ) (book : MapBook) → bytes_due (poke_turn offset count book).reply ≡ 0
poke-silent offset count book = grind arith

-- nor with that to a request
pub map-asked-silent : (request : Request) (book : MapBook) → bytes_due (map_ask request book).reply ≡ 0
map-asked-silent request book = grind arith
