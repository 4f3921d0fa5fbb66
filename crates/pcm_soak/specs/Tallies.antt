-- What a run of a script adds up to, event by event, and the sum of the device's bytes.
use Rattle.std.specs.Prelude.{ℕ, ◌+◌, ◌*◌, ◌^◌, ◌≤◌, List, ◌∷◌, Result, Ok, Err}
use Rattle.std.specs.List.{sum_by}
use Rattle.pcm_oss.specs.declared.event.Event.{Event}
use Rattle.pcm_oss.specs.declared.event.Event.TheVariants.{Write}
use Rattle.pcm_oss.specs.declared.reply.Answer.{Answer}
use Rattle.pcm_oss.specs.declared.reply.Answer.TheVariants.{Number, Errors, Got}
use Rattle.pcm_oss.specs.declared.reply.Errno.{Errno}
use Rattle.pcm_oss.specs.Replies.{Reply}
use Rattle.pcm_soak.specs.declared.tally.Tally.{Tally}

-- nothing was counted yet
abbrev pub no_tally : Tally
no_tally = record { accepted = 0; read = 0; refused = 0; errors = 0; sum = 0 }

-- the number that a result is
abbrev pub number_told : Result Answer Errno → ℕ
number_told (Ok (Number number)) = number
number_told told = 0

-- the bytes that an event had accepted: the answer to a write
abbrev pub accepted_by : Event → Result Answer Errno → ℕ
accepted_by (Write fd source at count) told = number_told told
accepted_by event told = 0

-- the bytes that a result got
abbrev pub read_by : Result Answer Errno → ℕ
read_by (Ok (Got count)) = count
read_by told = 0

-- a refusal counts as one
abbrev pub refused_by : Result Answer Errno → ℕ
refused_by (Ok answer) = 0
refused_by (Err errno) = 1

-- the shortages that a result reports, of playing and of recording
abbrev pub errors_by : Result Answer Errno → ℕ
errors_by (Ok (Errors underruns overruns)) = underruns + overruns
errors_by told = 0

-- one event and its reply more
abbrev pub tallied : Tally → Event → Reply → Tally
tallied tally event reply = record tally {
  accepted = tally.accepted + accepted_by event reply.result;
  read = tally.read + read_by reply.result;
  refused = tally.refused + refused_by reply.result;
  errors = tally.errors + errors_by reply.result;
}

-- all events, each with its reply
abbrev pub tally_all : Tally → List Event → List Reply → Tally
tally_all tally (event ∷ events) (reply ∷ replies) = tally_all (tallied tally event reply) events replies
tally_all tally events replies = tally

-- the sum of bytes, each as its number
abbrev pub total : List ℕ → ℕ
total bytes = sum_by (λ byte. byte) bytes

-- the most that `events` events add up to: each adds at most 2 to the power 33 to each count
pub record IsWithin (events : ℕ) (tally : Tally) : Type 0 where
  pub accepted : tally.accepted ≤ 2 ^ 33 * events
  pub read : tally.read ≤ 2 ^ 33 * events
  pub refused : tally.refused ≤ 2 ^ 33 * events
  pub errors : tally.errors ≤ 2 ^ 33 * events
