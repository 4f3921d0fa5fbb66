-- The counts of a mapped book stay in order through every event, for every rate between the client and the mix.
use Rattle.std.proofs.Common.{◌≡◌, ℕ, ◌+◌, ◌≤◌, true, false, arith}
use Rattle.std.proofs.Math.Nat.{div-zero}
use Rattle.pcm_desk.specs.Types.{MapBook, Rate, Request, Settings}
use Rattle.pcm_oss.specs.declared.request.Request.TheVariants.{GetOPtr}
use Rattle.pcm_oss.specs.Fragments.{AreFragments}
use Rattle.pcm_oss.specs.Volumes.{is_volume}
use Rattle.pcm_oss.proofs.Limits.{asked-fragments, usual-fragments}
use Rattle.pcm_rate.specs.Rates.{need}
use Rattle.pcm_rate.proofs.Counts.{need_grows}
use Rattle.pcm_desk.specs.RunStates.{is_in_setup}
use Rattle.pcm_desk.specs.MapBooks.{map_begun, map_closed, map_refilled, poke_turn, taken_of}
use Rattle.pcm_desk.specs.MapRequests.{map_ask}
use Rattle.pcm_desk.specs.MapSafe.{MapIsSafe}

-- more frames need more, whichever the rates
need_more : (rate : Rate) (c n : ℕ) → need rate c ≤ need rate (c + n)
need_more rate c n = grind (arith, need_grows, div-zero)

-- a book that counts nothing is safe at every rate, in any state
pub map-safe-unstarted : (rate : Rate) (book : MapBook) → book.eaten ≡ 0 → book.given ≡ 0 → book.opening.told ≡ 0 → AreFragments book.opening.fragments → is_volume book.volume ≡ true → MapIsSafe rate book
map-safe-unstarted rate book eaten given told f v = grind arith

-- an opening
pub map-safe-begun : (rate : Rate) (settings : Settings) → MapIsSafe rate (map_begun settings)
map-safe-begun rate settings = grind (arith, usual-fragments)

-- a close
pub map-safe-closed : (rate : Rate) (book : MapBook) → MapIsSafe rate book → MapIsSafe rate (map_closed book)
map-safe-closed rate book s = grind arith

-- a poke
pub map-safe-poked : (rate : Rate) (offset count : ℕ) (book : MapBook) → MapIsSafe rate book → MapIsSafe rate (poke_turn offset count book).book
map-safe-poked rate offset count book s = grind arith

-- an interrupt
pub map-safe-refilled : (rate : Rate) (n : ℕ) (book : MapBook) → MapIsSafe rate book → MapIsSafe rate (map_refilled rate n book)
map-safe-refilled rate n book s = let more = need_more rate book.given n in grind arith

fragments_kept : (request : Request) (book : MapBook) → AreFragments book.opening.fragments → AreFragments (map_ask request book).book.opening.fragments
fragments_kept request book f = grind (arith, asked-fragments)

-- a position that was answered was reached
reached : (request : Request) (book : MapBook) → (is_in_setup book.state ≡ true → book.eaten ≡ 0) → book.opening.told ≤ taken_of book → (map_ask request book).book.opening.told ≤ taken_of (map_ask request book).book
reached GetOPtr book none t = grind arith
reached request book none t = grind arith

-- a request, at the rate that the book has after it
pub map-safe-asked : (rate now : Rate) (request : Request) (book : MapBook) → (is_in_setup book.state ≡ false → now ≡ rate) → MapIsSafe rate book → MapIsSafe now (map_ask request book).book
map-safe-asked rate now request book same s =
    record { order = grind arith; taken = grind arith; fragments = fragments_kept request book s.fragments; volume = grind arith; told = reached request book (grind arith) s.told }
