-- What a contract sees of a `MemSink`: a buffer whose listed puts fail.
use Rattle.std.specs.Prelude.{ℕ, ◌+◌, Bool, true, ◌||◌, List, [], ◌++◌, length, nat_lt}
use Rattle.pcm_outside.specs.Counts.{raised}
use Rattle.pcm_outside.specs.Calls.{Calls, is_next_listed, counted, with_listed}
use Rattle.pcm_outside.specs.Sink.{SinkSeen}

-- at most `room` bytes were put
pub record Buffer : Type 0 where
  pub room : ℕ
  pub bytes : List ℕ
  pub calls : Calls
  pub faults : ℕ

-- a buffer of nothing
abbrev pub empty_buffer : ℕ → Buffer
empty_buffer room = record { room = room; bytes = []; calls = record { made = 0; listed = [] }; faults = 0 }

-- the buffer with one more put that is to fail
abbrev pub with_listed_put : Buffer → ℕ → Buffer
with_listed_put buffer number = record buffer { calls = with_listed buffer.calls number }

-- what a `Sink` shows of a buffer, always with its bytes
abbrev pub buffer_seen : Buffer → SinkSeen
buffer_seen buffer = record { tells = true; bytes = buffer.bytes; faults = buffer.faults }

-- whether a put fails: at a listed call, and where more than the room would be put
abbrev pub put_fails : Buffer → List ℕ → Bool
put_fails buffer piece = is_next_listed buffer.calls || nat_lt buffer.room (length buffer.bytes + length piece)

-- the buffer after a put
abbrev pub after_put : Buffer → List ℕ → Buffer
after_put buffer piece = record buffer { bytes = buffer.bytes ++ piece; calls = counted buffer.calls }

-- the buffer after a put that failed
abbrev pub after_failed_put : Buffer → Buffer
after_failed_put buffer = record buffer { calls = counted buffer.calls; faults = raised buffer.faults }
