-- What a call did outside, by how it ended.
use Rattle.std.specs.Prelude.{◌≡◌, ◌≢◌, ◌⊎◌, ℕ, List, Some, None, IsTrue, Result, Ok, Err}
use Rattle.pcm_outside.specs.Counts.{Rose}
use Rattle.pcm_outside.specs.Files.{FilesSeen, OnlyReads}
use Rattle.pcm_outside.specs.Sink.{SinkSeen, FailsToPut, Puts}
use Rattle.pcm_verdict.specs.Commands.{Command, command_of}
use Rattle.pcm_verdict.specs.Faults.{Fault, Usage, Missing, BadConfig, BadWave, BadScript, usage_line}
use Rattle.pcm_verdict.specs.Verdict.{Accepted, command_judged, verdict}
use Rattle.pcm_inputs.specs.Commands.{IsOf, MayRead, WriteNoFile}
use Rattle.pcm_inputs.specs.Outside.{NoneRose, OneRose, Outside, WriteRose}
use Rattle.pcm_inputs.specs.Reads.{CutsLine, FailsToReadOne, Lacks, Part, RefusesPart}
use Rattle.pcm_replay.specs.Calls.{Call}
use Rattle.pcm_replay.specs.Cuts.{CutsCall}
use Rattle.pcm_inputs.specs.declared.ending.Ending.{Ending}
use Rattle.pcm_inputs.specs.declared.ending.Ending.TheVariants as endings

-- the verdict of the words, over the contents of the files
abbrev pub verdict_on : List (List ℕ) → FilesSeen → Result Accepted Fault
verdict_on words files = verdict words files.content

-- the verdict of a call by its words, over what the files held before it
abbrev pub verdict_of : Call → Result Accepted Fault
verdict_of call = verdict_on call.words call.before.files

-- the files tell that the words, and all that they name, are accepted
pub record IsAccepted (words : List (List ℕ)) (files : FilesSeen) (accepted : Accepted) : Type 0 where
  pub tells : IsTrue files.tells
  pub accepts : verdict_on words files ≡ Ok accepted

-- what a command reads and judges
abbrev pub command_part : Command → Part Accepted
command_part command = record { judged = λ content. command_judged content command; may = MayRead command }

-- the command that the words spell
pub record Spells (words : List (List ℕ)) : Type 0 where
  pub command : Command
  pub is : command_of words ≡ Some command

-- the part of a call that reads and judges files
abbrev pub part_of : {words : List (List ℕ)} → Spells words → Part Accepted
part_of spells = command_part spells.command

-- an accepted call is of the command that the words spell, and where the files tell, it is their verdict
pub record IsNamed (words : List (List ℕ)) (files : FilesSeen) (accepted : Accepted) : Type 0 where
  pub spells : Spells words
  pub is_of : IsOf spells.command accepted
  pub cause : IsTrue files.tells → verdict_on words files ≡ Ok accepted

-- what became of the forms, as a call ends whose words match none
abbrev pub TellsForms : Ending → SinkSeen → SinkSeen → Type 0
TellsForms endings.Usage old new = Puts old new usage_line
TellsForms endings.CannotWrite old new = FailsToPut old new usage_line
TellsForms ending old new = ⊥

-- the words match no form: nothing was read, and nothing was done but to the forms
pub record IsFormless (ending : Ending) (call : Call) : Type 0 where
  pub cause : command_of call.words ≡ None
  pub files : call.after.files ≡ call.before.files
  pub forms : TellsForms ending call.before.sink call.after.sink

-- 2: the words match no form, and all forms were put
abbrev pub RefusesWords : Call → Type 0
RefusesWords call = IsFormless endings.Usage call

-- 3: a file that the command may read could not be read
pub record CannotReadOne (call : Call) : Type 0 where
  pub spells : Spells call.words
  pub read : FailsToReadOne (part_of spells) call.before call.after

-- 4, 5, 6: a file that the command reads is refused
pub record RefusesFile (ending : Ending) (call : Call) : Type 0 where
  pub spells : Spells call.words
  pub refuses : RefusesPart (part_of spells) ending call.before call.after

abbrev pub RefusesConfig : Call → Type 0
RefusesConfig call = RefusesFile endings.BadConfig call

abbrev pub RefusesScript : Call → Type 0
RefusesScript call = RefusesFile endings.BadScript call

abbrev pub RefusesWave : Call → Type 0
RefusesWave call = RefusesFile endings.BadWave call

-- 7: the put of the forms failed
abbrev pub CutsForms : Call → Type 0
CutsForms call = IsFormless endings.CannotWrite call

-- 7: the put of another fault's line failed
pub record CutsFaultLine (call : Call) : Type 0 where
  pub spells : Spells call.words
  pub line : CutsLine (part_of spells) call.before call.after

-- 7: what an accepted call was to leave was cut short
pub record CutsAccepted (call : Call) : Type 0 where
  pub accepted : Accepted
  pub is_named : IsNamed call.words call.before.files accepted
  pub cut : CutsCall accepted call.before call.after

-- 7: a write failed, in the forms, in a fault's line, or in what was to be left
pub data IsCut (call : Call) : Type 0 where
  InForms : CutsForms call → IsCut call
  InFaultLine : CutsFaultLine call → IsCut call
  InOutput : CutsAccepted call → IsCut call

-- 7: a put failed, and nothing but reads was done to the files
pub record OnlyPutFails (before after : Outside) : Type 0 where
  pub files : OnlyReads before.files after.files
  pub put : Rose before.sink.faults after.sink.faults

-- 7: of words that ask for no file to be written, it is the sink that failed, whether contents are told or not
abbrev pub FailsAtSink : Call → Type 0
FailsAtSink call = WriteNoFile (command_of call.words) → OnlyPutFails call.before call.after

-- 8: memory ran out: nothing was written, and nothing was put
pub record LacksMemory (call : Call) : Type 0 where
  pub spells : Spells call.words
  pub lacks : Lacks call.before call.after

-- what was judged is accepted, or refused
abbrev pub IsAcceptedBy : Result Accepted Fault → Type 0
IsAcceptedBy (Ok accepted) = Unit {0}
IsAcceptedBy (Err fault) = ⊥

abbrev pub IsRefusedBy : Result Accepted Fault → Type 0
IsRefusedBy (Ok accepted) = ⊥
IsRefusedBy (Err fault) = Unit {0}

-- the eight statuses
abbrev pub IsStatus : ℕ → Type 0
IsStatus status = (status ≡ 0) ⊎ ((status ≡ 2) ⊎ ((status ≡ 3) ⊎ ((status ≡ 4) ⊎ ((status ≡ 5) ⊎ ((status ≡ 6) ⊎ ((status ≡ 7) ⊎ (status ≡ 8)))))))

-- the statuses with which a fault may end
abbrev pub MayRefuse : Fault → ℕ → Type 0
MayRefuse Usage status = (status ≡ 2) ⊎ ((status ≡ 7) ⊎ (status ≡ 8))
MayRefuse (Missing name) status = (status ≡ 3) ⊎ ((status ≡ 7) ⊎ (status ≡ 8))
MayRefuse (BadConfig refusal) status = (status ≡ 4) ⊎ ((status ≡ 3) ⊎ ((status ≡ 7) ⊎ (status ≡ 8)))
MayRefuse (BadScript refusal) status = (status ≡ 5) ⊎ ((status ≡ 3) ⊎ ((status ≡ 7) ⊎ (status ≡ 8)))
MayRefuse (BadWave name kind) status = (status ≡ 6) ⊎ ((status ≡ 3) ⊎ ((status ≡ 7) ⊎ (status ≡ 8)))

-- the statuses with which a verdict may end
abbrev pub MayEnd : Result Accepted Fault → ℕ → Type 0
MayEnd (Ok accepted) status = (status ≡ 0) ⊎ ((status ≡ 3) ⊎ ((status ≡ 7) ⊎ (status ≡ 8)))
MayEnd (Err fault) status = MayRefuse fault status

-- where the files tell, the status is one with which the verdict may end
abbrev pub MayEndAs : Call → ℕ → Type 0
MayEndAs call status = IsTrue call.before.files.tells → MayEnd (verdict_of call) status

-- the status of a fault where no read, write or put failed: its own, or that of want of memory; a missing file is one that failed to be read
abbrev pub MayRefuseUnfailing : Fault → ℕ → Type 0
MayRefuseUnfailing Usage status = (status ≡ 2) ⊎ (status ≡ 8)
MayRefuseUnfailing (Missing name) status = status ≡ 8
MayRefuseUnfailing (BadConfig refusal) status = (status ≡ 4) ⊎ (status ≡ 8)
MayRefuseUnfailing (BadScript refusal) status = (status ≡ 5) ⊎ (status ≡ 8)
MayRefuseUnfailing (BadWave name kind) status = (status ≡ 6) ⊎ (status ≡ 8)

-- the statuses of a verdict where none failed: what is accepted is done to its end, or lacks memory
abbrev pub MayEndUnfailing : Result Accepted Fault → ℕ → Type 0
MayEndUnfailing (Ok accepted) status = (status ≡ 0) ⊎ (status ≡ 8)
MayEndUnfailing (Err fault) status = MayRefuseUnfailing fault status

-- where the files tell, and no read, write or put failed, the status is the verdict's, or that of want of memory
abbrev pub EndsUnfailing : Call → ℕ → Type 0
EndsUnfailing call status = IsTrue call.before.files.tells → (OneRose call.before call.after → ⊥) → MayEndUnfailing (verdict_of call) status

-- words of no form end as such, or with a put that failed
abbrev pub EndsFormless : Call → ℕ → Type 0
EndsFormless call status = command_of call.words ≡ None → status ≢ 2
    → (status ≡ 7) × Rose call.before.sink.faults call.after.sink.faults

-- 0: where the files tell, the words and all that they name are accepted
abbrev pub WasAccepted : Call → Type 0
WasAccepted call = IsTrue call.before.files.tells → IsAcceptedBy (verdict_of call)

-- 7: where the files tell that it is refused, the put of the fault's line failed
abbrev pub FailsAtLine : Call → Type 0
FailsAtLine call = IsTrue call.before.files.tells → IsRefusedBy (verdict_of call)
    → Rose call.before.sink.faults call.after.sink.faults

-- 7: a write failed, and what is left is a prefix of what was to be written. Of words that ask for no file it is the sink that failed.
pub record FailsToWrite (call : Call) : Type 0 where
  pub rose : WriteRose call.before call.after
  pub line : FailsAtLine call
  pub sink : FailsAtSink call
  pub left : IsCut call

-- the status is one with which the verdict may end, and where nothing failed it is the verdict's; what is accepted counts no failure
pub record IsJudged (call : Call) (status : ℕ) : Type 0 where
  pub completeness : MayEndAs call status
  pub unfailing : EndsUnfailing call status
  pub formless : EndsFormless call status
  pub accepted : status ≡ 0 → WasAccepted call
  pub no_rise : status ≡ 0 → NoneRose call.before call.after
