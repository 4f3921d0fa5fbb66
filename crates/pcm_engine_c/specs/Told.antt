-- What a question of C is answered: 0 and the answer, or a number below 0 and nothing.
use Rattle.std.specs.Prelude.{◌≡◌, ℕ, ℤ, pos, min, List, Result, Ok, Err}
use Rattle.pcm_feeder.specs.declared.kind.Kind.{Kind}
use Rattle.pcm_feeder.specs.Kept.{Kept}
use Rattle.pcm_foreign.specs.Answers.{call_fault_number}
use Rattle.pcm_foreign.specs.declared.call_fault.CallFault.{CallFault}
use Rattle.pcm_engine.specs.declared.engine.EngineOf.{EngineOf}
use Rattle.pcm_session.specs.States.{IsSaved}
use Rattle.pcm_desk.specs.Device.{DeviceSeen}
use Rattle.pcm_desk.specs.Desk.{Desk}
use Rattle.pcm_session.specs.Questions.{WaitTold}

-- the answer stands in its place, or this is as it was
abbrev pub IsTold : {X : Type 0} → Result X ℤ → ℤ → X → X → Type 0
IsTold (Ok numbers) result old new = (result ≡ pos 0) × (new ≡ numbers)
IsTold (Err number) result old new = (result ≡ number) × (new ≡ old)

-- the bits of a descriptor, or a number below 0
abbrev pub ready_number : Result ℕ ℤ → ℤ
ready_number (Ok bits) = pos (min bits 2147483647)
ready_number (Err number) = number

-- a number of frames, or one below 0
abbrev pub wait_number : Result ℕ ℤ → ℤ
wait_number (Ok frames) = pos (min frames 9223372036854775807)
wait_number (Err number) = number

-- after how many frames a client can go on
pub record IsWait (device : DeviceSeen) (desk : Desk) (fd bytes : ℕ) (result : ℤ) : Type 0 where
  pub wait : Result ℕ ℤ
  pub is : WaitTold device desk fd bytes wait
  pub number : result ≡ wait_number wait

-- how many bytes were spelled, or a number below 0
abbrev pub saved_number : Result ℕ CallFault → ℤ
saved_number (Ok count) = pos (min count 9223372036854775807)
saved_number (Err fault) = call_fault_number fault

-- the state of an engine stands at the front of a room, or this is too small
pub record IsSaveTold {B : Type 0} (kind : B → Kind) (kept : B → Kept) (engine : EngineOf B) (old new : List ℕ) (result : ℤ) : Type 0 where
  pub told : Result ℕ CallFault
  pub is : IsSaved kind kept engine old new told
  pub number : result ≡ saved_number told
