-- What a contract sees of a fault, and how its line is put, and other lines.
use Rattle.std.specs.Prelude.{◌≡◌, ℕ, List}
use Rattle.pcm_outside.specs.Sink.{SinkSeen, FailsToPut, Puts}
use Rattle.pcm_verdict.specs.Faults as verdicts
use Rattle.pcm_verdict.specs.Faults.{fault_line}
use Rattle.pcm_inputs.specs.declared.ending.Ending.{Ending}
use Rattle.pcm_inputs.specs.declared.ending.Ending.TheVariants.{Usage, CannotRead, BadConfig, BadScript, BadWave, CannotWrite, NoMemory}
use Rattle.pcm_inputs.specs.declared.fault.Fault.{Fault}
use Rattle.pcm_inputs.specs.declared.fault.Fault.TheVariants as faults
use Rattle.pcm_inputs.specs.declared.fault.FileKind.{FileKind}
use Rattle.pcm_inputs.specs.declared.fault.FileKind.TheVariants as kinds

-- what is wrong with a file
abbrev pub file_kind_seen : FileKind → verdicts.FileKind
file_kind_seen (kinds.NoWave fault) = verdicts.NoWave fault
file_kind_seen kinds.Long = verdicts.Long
file_kind_seen kinds.Shape = verdicts.Shape

-- why a call is refused
abbrev pub fault_seen : Fault → verdicts.Fault
fault_seen (faults.CannotRead name) = verdicts.Missing name.now
fault_seen (faults.BadConfig refusal) = verdicts.BadConfig refusal
fault_seen (faults.BadWave name kind) = verdicts.BadWave name.now (file_kind_seen kind)
fault_seen (faults.BadScript refusal) = verdicts.BadScript refusal

-- how a call ends that is refused for a fault
abbrev pub ending_of : verdicts.Fault → Ending
ending_of verdicts.Usage = Usage
ending_of (verdicts.Missing name) = CannotRead
ending_of (verdicts.BadConfig refusal) = BadConfig
ending_of (verdicts.BadWave name kind) = BadWave
ending_of (verdicts.BadScript refusal) = BadScript

-- the status of an ending
abbrev pub ending_status : Ending → ℕ
ending_status Usage = 2
ending_status CannotRead = 3
ending_status BadConfig = 4
ending_status BadScript = 5
ending_status BadWave = 6
ending_status CannotWrite = 7
ending_status NoMemory = 8

-- what became of the line of a fault, by how the call ends
pub data TellsFault (fault : verdicts.Fault) (ending : Ending) (old new : SinkSeen) : Type 0 where
  -- it was put
  Told : ending ≡ ending_of fault → Puts old new (fault_line fault) → TellsFault fault ending old new
  -- its put failed
  Cut : ending ≡ CannotWrite → FailsToPut old new (fault_line fault) → TellsFault fault ending old new
  -- it found no memory
  Lost : ending ≡ NoMemory → new ≡ old → TellsFault fault ending old new

-- what became of other lines that were to be put, by how the call ends, where nothing else was done
abbrev pub CutsLines : List ℕ → SinkSeen → SinkSeen → Ending → Type 0
CutsLines lines old new CannotWrite = FailsToPut old new lines
CutsLines lines old new NoMemory = new ≡ old
CutsLines lines old new ending = ⊥
