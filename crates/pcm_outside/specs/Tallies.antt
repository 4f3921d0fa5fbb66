-- What a contract sees of the forms that only count bytes: no contents are shown, and nothing ever failed.
use Rattle.std.specs.Prelude.{◌≡◌, ℕ, ◌+◌, ◌-◌, ◌^◌, Bool, List, length, min, None, Result, IsOk}
use Rattle.pcm_outside.specs.Files.{FilesSeen}
use Rattle.pcm_outside.specs.Sink.{SinkSeen}
use Rattle.pcm_outside.specs.Edge.{untold_files, untold_sink}

-- a total after more bytes; the last number of 64 bits is kept
abbrev pub taken_more : ℕ → ℕ → ℕ
taken_more total more = min (total + more) (2 ^ 64 - 1)

-- a piece was taken whole, and its bytes are counted
pub record TakesWhole {E : Type 0} (old new : ℕ) (piece : List ℕ) (result : Result (Unit {0}) E) : Type 0 where
  pub whole : IsOk result
  pub counted : new ≡ taken_more old (length piece)

-- files that take all bytes, by whether one stands created
abbrev pub counting_files : Bool → FilesSeen
counting_files stands = untold_files stands 0 0 None

-- a sink that takes all bytes
abbrev pub counting_sink : SinkSeen
counting_sink = untold_sink 0
