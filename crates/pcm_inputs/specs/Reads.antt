-- The result of a part of a call that reads files and judges them.
use Rattle.std.specs.Prelude.{◌≡◌, ℕ, List, IsTrue, Result, Ok, Err, slice_get, Some}
use Rattle.pcm_outside.specs.Files.{FilesSeen, FailsToRead, NoReadFails, OnlyReads}
use Rattle.pcm_outside.specs.Sink.{FailsToPut, Puts}
use Rattle.pcm_verdict.specs.Faults.{Fault, cannot_read_line, fault_line}
use Rattle.pcm_verdict.specs.Judging.{Contents, Judged}
use Rattle.pcm_inputs.specs.declared.ending.Ending.{Ending}
use Rattle.pcm_inputs.specs.declared.ending.Ending.TheVariants.{Usage, CannotRead, BadConfig, BadScript, BadWave, CannotWrite, NoMemory}
use Rattle.pcm_inputs.specs.Faults.{ending_of}
use Rattle.pcm_inputs.specs.Outside.{Outside}

-- What a part reads and judges, over the contents of the files, and which names it may read.
pub record Part (A : Type 0) : Type 1 where
  pub judged : Contents → Judged A
  pub may : List ℕ → Type 0

-- a name is one of these
pub record IsAmong (name : List ℕ) (names : List (List ℕ)) : Type 0 where
  pub place : ℕ
  pub is : slice_get names place ≡ Some name

-- files that were read, with no failure and with nothing else done
pub record OnlyHasRead (before after : Outside) : Type 0 where
  pub files : OnlyReads before.files after.files
  pub kept : NoReadFails before.files after.files
  pub sink : after.sink ≡ before.sink

-- where the files tell, this is the result of a part
abbrev pub Comes : {A : Type 0} → Part A → Result A Fault → FilesSeen → Type 0
Comes part came files = IsTrue files.tells → (part.judged files.content).came ≡ came

-- a part gave a value
pub record GivesValue {A : Type 0} (part : Part A) (value : A) (before after : Outside) : Type 0 where
  pub came : Comes part (Ok value) before.files
  pub only : OnlyHasRead before after

-- a part was refused for a fault, whose line was put
pub record RefusesPart {A : Type 0} (part : Part A) (ending : Ending) (before after : Outside) : Type 0 where
  pub fault : Fault
  pub ended : ending ≡ ending_of fault
  pub came : Comes part (Err fault) before.files
  pub files : OnlyReads before.files after.files
  pub line : Puts before.sink after.sink (fault_line fault)

-- a file that a part may read: where the files tell, it is one that is read
pub record IsRead {A : Type 0} (part : Part A) (files : FilesSeen) (name : List ℕ) : Type 0 where
  pub may : part.may name
  pub among : IsTrue files.tells → IsAmong name (part.judged files.content).names

-- a read failed, and the line that says so was put
pub record FailsToReadOne {A : Type 0} (part : Part A) (before after : Outside) : Type 0 where
  pub name : List ℕ
  pub is_read : IsRead part before.files name
  pub read : FailsToRead before.files after.files name
  pub files : OnlyReads before.files after.files
  pub line : Puts before.sink after.sink (cannot_read_line name)

-- the line that reports a part: of a fault, or of a read that failed
pub data IsLine {A : Type 0} (part : Part A) (old new : FilesSeen) (line : List ℕ) : Type 0 where
  OfFault : (fault : Fault) → Comes part (Err fault) old → line ≡ fault_line fault → IsLine part old new line
  OfRead : (name : List ℕ) → IsRead part old name → FailsToRead old new name → line ≡ cannot_read_line name → IsLine part old new line

-- the put of such a line failed
pub record CutsLine {A : Type 0} (part : Part A) (before after : Outside) : Type 0 where
  pub line : List ℕ
  pub is : IsLine part before.files after.files line
  pub files : OnlyReads before.files after.files
  pub put : FailsToPut before.sink after.sink line

-- memory ran out: nothing was written, and nothing was put
pub record Lacks (before after : Outside) : Type 0 where
  pub files : OnlyReads before.files after.files
  pub sink : after.sink ≡ before.sink

-- what a part did that ended a call
abbrev pub Ends : {A : Type 0} → Part A → Outside → Outside → Ending → Type 0
Ends part before after Usage = ⊥
Ends part before after CannotRead = FailsToReadOne part before after
Ends part before after BadConfig = RefusesPart part BadConfig before after
Ends part before after BadScript = RefusesPart part BadScript before after
Ends part before after BadWave = RefusesPart part BadWave before after
Ends part before after CannotWrite = CutsLine part before after
Ends part before after NoMemory = Lacks before after

-- the result of a part
abbrev pub ComesTo : {A : Type 0} → Part A → Result A Ending → Outside → Outside → Type 0
ComesTo part (Ok value) before after = GivesValue part value before after
ComesTo part (Err ending) before after = Ends part before after ending
