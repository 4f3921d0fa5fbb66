-- The outcome of a call in numbers: a step, and a number for its reply.
use Rattle.std.specs.Prelude.{◌≡◌, ℕ, ℤ, pos, if◌then◌else◌, Bool, false, List, [], ◌++◌, length, take, drop, min, Option, Some, None, is_some, Result, Ok, Err}
use Rattle.std.specs.Bool.{OnTrue, OnFalse}
use Rattle.pcm_oss.specs.declared.event.Event.{Event}
use Rattle.pcm_oss.specs.declared.event.Event.TheVariants.{Intr}
use Rattle.pcm_oss.specs.declared.reply.Answer.{Answer}
use Rattle.pcm_oss.specs.declared.reply.Answer.TheVariants.{Number}
use Rattle.pcm_oss.specs.declared.reply.Errno.{Errno}
use Rattle.pcm_oss.specs.declared.reply.Errno.TheVariants.{Inval}
use Rattle.pcm_oss.specs.Replies.{Reply, bytes_due}
use Rattle.pcm_sequence.specs.Fixed.{fixed_items}
use Rattle.pcm_feeder.specs.declared.kind.Kind.{Kind}
use Rattle.pcm_feeder.specs.Kept.{Kept}
use Rattle.pcm_foreign.specs.Answers.{answer_numbers, call_fault_number, refusal_number}
use Rattle.pcm_foreign.specs.declared.answers.AnswerNumbers.{AnswerNumbers}
use Rattle.pcm_foreign.specs.declared.call_fault.CallFault.{CallFault}
use Rattle.pcm_foreign.specs.declared.call_fault.CallFault.TheVariants.{Argument}
use Rattle.pcm_foreign.specs.Devices.{stream_settings}
use Rattle.pcm_desk.specs.Events.{bytes_handed}
use Rattle.pcm_engine.specs.declared.engine.EngineOf.{EngineOf}
use Rattle.pcm_engine.specs.Engines.{device_of, AreReady}
use Rattle.pcm_session.specs.declared.session.SessionOf.{SessionOf}
use Rattle.pcm_session.specs.Steps.{IsCallStep}
use Rattle.pcm_session.specs.Events.{event_for_open}
use Rattle.pcm_session.specs.Taken.{fault_of, is_taken, unheard_room}

-- the greatest number that a call answers
abbrev pub most : ℕ
most = 2147483647

-- what is counted, as a call answers it
abbrev pub call_count : ℕ → ℤ
call_count count = pos (min count most)

-- the number of a result: what it counts, or how many bytes come with it
abbrev pub count_number : Result Answer Errno → ℤ
count_number (Ok (Number count)) = call_count count
count_number (Ok answer) = call_count (bytes_due (Ok answer))
count_number (Err errno) = refusal_number errno

-- or 0, where what it counts stands elsewhere
abbrev pub done_number : Result Answer Errno → ℤ
done_number (Ok answer) = pos 0
done_number (Err errno) = refusal_number errno

-- the numbers beside it, which a refusal leaves
abbrev pub numbers_beside : Result Answer Errno → AnswerNumbers → AnswerNumbers
numbers_beside (Ok answer) numbers = answer_numbers answer
numbers_beside (Err errno) numbers = numbers

-- whether an engine takes an event, if there is one, with this many bytes and samples and this room
abbrev pub is_asked : {B : Type 0} → EngineOf B → Option Event → ℕ → ℕ → ℕ → Bool
is_asked engine None bytes samples room = false
is_asked engine (Some event) bytes samples room = is_taken (device_of engine) engine.parent.handed event bytes samples room

-- and why it doesn't, where it doesn't
abbrev pub asked_fault : {B : Type 0} → EngineOf B → Option Event → ℕ → ℕ → CallFault
asked_fault engine None bytes samples = Argument
asked_fault engine (Some event) bytes samples = fault_of (device_of engine) engine.parent.handed event bytes samples

-- the step on the event that there is
abbrev pub IsStepOf : {B : Type 0} → (B → Kept) → Option Event → List ℕ → List ℤ → EngineOf B → EngineOf B → Reply → List ℕ → Type 0
IsStepOf kept None bytes samples old new told handed = ⊥
IsStepOf kept (Some event) bytes samples old new told handed = IsCallStep kept event bytes samples old new told handed

-- A call with these bytes, samples and room takes the step on its event, and gives these bytes to the device. Where there is no event, or
-- the engine doesn't take it, nothing of the session changes. The engine is ready for the next call.
pub record Takes {B : Type 0} (kind : B → Kind) (kept : B → Kept) (event : Option Event) (bytes : List ℕ) (samples : List ℤ) (room : ℕ) (handed : List ℕ) (old new : SessionOf B) : Type 0 where
  pub ready : AreReady kind kept new.engine
  pub step : OnTrue (is_asked old.engine event (length bytes) (length samples) room) (IsStepOf kept event bytes samples old.engine new.engine new.reply handed)
  pub same : OnFalse (is_asked old.engine event (length bytes) (length samples) room) (new ≡ old)

-- one that comes with bytes at most, and gives none to the device
abbrev pub MakesCall : {B : Type 0} → (B → Kind) → (B → Kept) → Option Event → List ℕ → SessionOf B → SessionOf B → Type 0
MakesCall kind kept event bytes old new = Takes kind kept event bytes [] 0 [] old new

-- how many bytes an interrupt gives to the device, with this many samples and this room
abbrev pub handed_count : {B : Type 0} → SessionOf B → ℕ → ℕ → ℕ → ℕ
handed_count session frames samples room =
    if is_asked session.engine (Some (Intr frames)) 0 samples room then bytes_handed (device_of session.engine) (Intr frames) else 0

-- the number that it answers
abbrev pub handed_number : {B : Type 0} → SessionOf B → ℕ → ℕ → ℕ → ℤ
handed_number session frames samples room =
    if is_asked session.engine (Some (Intr frames)) 0 samples room then call_count (bytes_handed (device_of session.engine) (Intr frames))
    else call_fault_number (asked_fault session.engine (Some (Intr frames)) 0 samples)

-- an interrupt with these samples, which leaves these bytes in its room
abbrev pub Interrupts : {B : Type 0} → (B → Kind) → (B → Kept) → ℕ → List ℤ → List ℕ → SessionOf B → SessionOf B → Type 0
Interrupts kind kept frames samples out old new =
    Takes kind kept (Some (Intr frames)) [] samples (length out) (take (handed_count old frames (length samples) (length out)) out) old new

-- one with these samples whose bytes nobody hears
abbrev pub Discards : {B : Type 0} → (B → Kind) → (B → Kept) → ℕ → List ℤ → SessionOf B → SessionOf B → Type 0
Discards kind kept frames samples old new =
    let room : ℕ = unheard_room (device_of old.engine) in
    Takes kind kept (Some (Intr frames)) [] samples room (take (handed_count old frames (length samples) room) (fixed_items new.unheard)) old new

-- the number that a call answers: that of its result, where it is a step, and else that of its fault
abbrev pub call_number : {B : Type 0} → (Result Answer Errno → ℤ) → Option Event → List ℕ → SessionOf B → SessionOf B → ℤ
call_number number event bytes old new =
    if is_asked old.engine event (length bytes) 0 0 then number new.reply.result else call_fault_number (asked_fault old.engine event (length bytes) 0)

-- An opening's: frames that no channel can have are refused as the requests for them are.
abbrev pub open_number : {B : Type 0} → ℕ → ℕ → ℕ → ℕ → ℕ → SessionOf B → SessionOf B → ℤ
open_number fd way format channels rate old new =
    if is_some (stream_settings format channels rate) then call_number count_number (event_for_open fd way format channels rate) [] old new else refusal_number Inval

-- the numbers beside an answer, where a call is a step
abbrev pub beside : {B : Type 0} → Option Event → SessionOf B → SessionOf B → AnswerNumbers → AnswerNumbers
beside event old new numbers = if is_asked old.engine event 0 0 0 then numbers_beside new.reply.result numbers else numbers

-- bytes at the front of others
abbrev pub front_put : List ℕ → List ℕ → List ℕ
front_put bytes out = bytes ++ drop (length bytes) out

-- what a read leaves of its room
abbrev pub read_into : {B : Type 0} → Option Event → SessionOf B → SessionOf B → List ℕ → List ℕ
read_into event old new out = if is_asked old.engine event 0 0 0 then front_put new.reply.bytes out else out
