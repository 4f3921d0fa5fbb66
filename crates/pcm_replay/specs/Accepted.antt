-- What a call that was done to its end leaves, by what its words ask for.
use Rattle.std.specs.Prelude.{◌≡◌, ◌++◌, ℕ, List, Some, IsSomeAnd, Option}
use Rattle.pcm_feeder.specs.declared.kind.Kind.{Kind}
use Rattle.pcm_feeder.specs.Kept.{Kept}
use Rattle.pcm_engine.specs.declared.engine.EngineOf.{EngineOf}
use Rattle.pcm_outside.specs.Files.{FilesSeen}
use Rattle.pcm_sound.specs.Plain.{AgreeInCommon, HasNoShortage}
use Rattle.pcm_verdict.specs.Commands.{SoakRun, command_of}
use Rattle.pcm_verdict.specs.Outputs.{device_bytes_in, header_in}
use Rattle.pcm_verdict.specs.Plain.{IsAcceptedRun, PlayAlike, plain_output, story_in}
use Rattle.pcm_verdict.specs.Verdict.{Accepted, Checks, Conversion, Converts, Inputs, Runs, Soaks}
use Rattle.pcm_inputs.specs.Outside.{Lent}
use Rattle.pcm_replay.specs.Calls.{Call}
use Rattle.pcm_soak_command.specs.Soaking.{RanSoak}
use Rattle.pcm_replay.specs.Endings.{Does, Finishes, RanInputs}
use Rattle.pcm_replay.specs.Outcomes.{IsAccepted}
use Rattle.pcm_convert_command.specs.Written.{WritesAll, WritesWhole}

-- The words of a soak say all. What other words ask for is what the files tell.
abbrev pub AsksFor : Call → Accepted → Type 0
AsksFor call (Soaks n) = command_of call.words ≡ Some (SoakRun n)
AsksFor call accepted = IsAccepted call.words call.before.files accepted

-- what was asked for was done to its end
abbrev pub LeavesAll : Call → Accepted → Type 0
LeavesAll call accepted = AsksFor call accepted → Does accepted call.before call.after

-- A run leaves its device's bytes and its replies, a check and a soak their line, a conversion the wave and its line.
abbrev pub LeavesRun : Call → Type 0
LeavesRun call = (name : List ℕ) (inputs : Inputs) → LeavesAll call (Runs name inputs)

abbrev pub LeavesCheck : Call → Type 0
LeavesCheck call = (inputs : Inputs) → LeavesAll call (Checks inputs)

abbrev pub LeavesSoak : Call → Type 0
LeavesSoak call = (n : ℕ) → LeavesAll call (Soaks n)

abbrev pub LeavesWave : Call → Type 0
LeavesWave call = (name : List ℕ) (conversion : Conversion) → LeavesAll call (Converts name conversion)

-- a run without a shortage: what is heard of its clients from their starts to their ends, whatever was counted
abbrev pub LeavesPlain : Call → Type 0
LeavesPlain call = (name : List ℕ) (inputs : Inputs) → AsksFor call (Runs name inputs)
    → HasNoShortage (story_in inputs) → WritesAll (plain_output name inputs) call.before call.after

-- the file of a run was written whole: after its header stand bytes that are those of another run's device, as far as both go
pub record WritesLike (name : List ℕ) (inputs other : Inputs) (old new : FilesSeen) : Type 0 where
  pub body : List ℕ
  pub written : WritesWhole (record { name = name; bytes = header_in inputs ++ body }) old new
  pub alike : AgreeInCommon body (device_bytes_in other)

-- its device gets the bytes of any other run whose clients sound alike, as far as both go
abbrev pub LeavesAlike : Call → Type 0
LeavesAlike call = (name : List ℕ) (inputs other : Inputs) → AsksFor call (Runs name inputs)
    → IsAcceptedRun other → PlayAlike inputs other → WritesLike name inputs other call.before.files call.after.files

-- the engine that is left ran what was asked for: a run's script, or the script of a soak's number
abbrev pub RunsEngine : {B : Type 0} → (B → Kind) → (B → Kept) → Lent (Option (EngineOf B)) → Call → Type 0
RunsEngine kind kept ran call = (name : List ℕ) (inputs : Inputs) → AsksFor call (Runs name inputs)
    → IsSomeAnd ran.exit.now (λ engine. RanInputs kind kept engine inputs)

abbrev pub SoaksEngine : {B : Type 0} → (B → Kind) → (B → Kept) → Lent (Option (EngineOf B)) → Call → Type 0
SoaksEngine kind kept ran call = (n : ℕ) → command_of call.words ≡ Some (SoakRun n)
    → IsSomeAnd ran.exit.now (λ engine. RanSoak kind kept engine n)

-- the words spell a command, which was done to its end, and the engine that ran is left
pub record FinishesAs {B : Type 0} (kind : B → Kind) (kept : B → Kept) (ran : Lent (Option (EngineOf B))) (call : Call) : Type 0 where
  pub does : Finishes kind kept ran call
  pub run : RunsEngine kind kept ran call
  pub soak : SoaksEngine kind kept ran call
