-- A call of the program, as a clause sees it: its words, and the outside before and after it.
use denote.Triple.Both.{Both}
use Rattle.std.specs.Prelude.{ℕ, List, String, map, string_bytes}
use Rattle.std.specs.Borrow.{Bor}
use Rattle.std.specs.Global.{Global}
use Rattle.pcm_outside.specs.Files.{FilesSeen}
use Rattle.pcm_outside.specs.Sink.{SinkSeen}
use Rattle.pcm_inputs.specs.Outside.{Lent, Outside, both}

pub record Call : Type 0 where
  pub words : List (List ℕ)
  pub before : Outside
  pub after : Outside

-- words that are shown to a call, as a clause names them
abbrev pub Words : Type 0
Words = Both (Bor (List (String Global))) (Bor (List (String Global)))

abbrev pub texts : Words → List (List ℕ)
texts words = map string_bytes words.entry.now

-- the call with these words, files and sink
abbrev pub call : {F K : Type 0} → (F → FilesSeen) → (K → SinkSeen) → Words → Lent F → Lent K → Call
call seen heard words files out =
    let change = both seen heard files out in
    record { words = texts words; before = change.before; after = change.after }
