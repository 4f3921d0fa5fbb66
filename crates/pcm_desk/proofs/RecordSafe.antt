-- The counts of a record book stay in order through every event, for every rate between the device and the client.
use Rattle.std.proofs.Common.{◌≡◌, ℕ, zero, suc, ◌+◌, ◌-◌, ◌*◌, ◌≤◌, false, arith}
use Rattle.std.proofs.Math.Nat.{div-mul-le_self, div-zero, mul-le-mul_right}
use Rattle.pcm_desk.specs.Types.{Rate, RecordBook, Request, Settings}
use Rattle.pcm_format.specs.Frames.{frame_bytes}
use Rattle.pcm_oss.specs.Fragments.{AreFragments}
use Rattle.pcm_oss.proofs.Limits.{asked-fragments, usual-fragments}
use Rattle.pcm_rate.specs.Rates.{can, div_up}
use Rattle.pcm_rate.proofs.Counts.{div_grows}
use Rattle.pcm_desk.specs.RunStates.{is_in_setup}
use Rattle.pcm_desk.specs.RecordBooks.{captured, closed, keeping, read_turn, record_begun, record_free_of}
use Rattle.pcm_desk.specs.RecordRequests.{record_ask}
use Rattle.pcm_desk.specs.RecordSafe.{IsRecordUnstarted, RecordIsSafe}

-- ---- counts alone

-- no frame comes of none
pub can-none : (rate : Rate) → can rate 0 ≡ 0
can-none rate = grind (arith, div-zero)

more_lasts : (src a b : ℕ) → a ≤ b → div_up a src ≤ div_up b src
more_lasts zero a b h = let first = div-zero (a + (zero - 1)) in omega (arith, first)
more_lasts (suc src) a b h = div_grows (a + (suc src - 1)) (b + (suc src - 1)) (suc src) (omega arith) (omega arith)

-- more come of more
can_grows : (rate : Rate) (n m : ℕ) → n ≤ m → can rate n ≤ can rate m
can_grows rate n m h =
    more_lasts rate.src ((n - rate.lookahead) * rate.dst) ((m - rate.lookahead) * rate.dst) (mul-le-mul_right rate.dst (omega arith))

-- a book that counts nothing is safe at every rate, in any state
pub safe-unstarted : (rate : Rate) (book : RecordBook) → IsRecordUnstarted book → book.given ≡ 0 → book.opening.told ≡ 0 → AreFragments book.opening.fragments → RecordIsSafe rate book
safe-unstarted rate book u given told f = grind (arith, can-none)

-- ---- a book after each event

-- an opening
pub record-safe-begun : (rate : Rate) (settings : Settings) → RecordIsSafe rate (record_begun settings)
record-safe-begun rate settings = grind (arith, can-none, usual-fragments)

-- a close
pub record-safe-closed : (rate : Rate) (book : RecordBook) → RecordIsSafe rate book → RecordIsSafe rate (closed book)
record-safe-closed rate book s = grind (arith, can-none)

-- a read
pub record-safe-read : (rate : Rate) (length : ℕ) (book : RecordBook) → RecordIsSafe rate book → RecordIsSafe rate (read_turn length book).book
record-safe-read rate length book s = grind arith

-- what is kept fits
keeps_free : (rate : Rate) (n : ℕ) (book : RecordBook) → keeping rate n book * frame_bytes book.opening.settings ≤ record_free_of book
keeps_free rate n book = grind (arith, div-mul-le_self)

-- an interrupt
pub record-safe-captured : (rate : Rate) (n : ℕ) (book : RecordBook) → RecordIsSafe rate book → RecordIsSafe rate (captured rate n book)
record-safe-captured rate n book s = let kept = keeps_free rate n book in let more = can_grows rate book.captured (book.captured + n) (omega arith) in grind arith

-- a request, at the rate that the book has after it
pub record-safe-ask : (rate now : Rate) (request : Request) (book : RecordBook) → (is_in_setup book.state ≡ false → now ≡ rate) → RecordIsSafe rate book → RecordIsSafe now (record_ask request book).book
record-safe-ask rate now request book same s =
    record { order = grind arith; given = grind (arith, can-none); read = grind arith; fill = grind arith; fragments = grind (arith, asked-fragments); told = grind arith }
