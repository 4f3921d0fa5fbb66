-- What a call is to leave, and what it leaves where it is cut short.
use Rattle.std.specs.Prelude.{◌≡◌, ℕ, List, Option, Some, None, IsTrue}
use Rattle.pcm_outside.specs.Counts.{Rose}
use Rattle.pcm_outside.specs.Files.{FilesSeen, FailsToCreate, HasCreated, IsPrefixOf, KeepsOthers, NoReadFails, OnlyReads}
use Rattle.pcm_outside.specs.Sink.{FailsToPut, Puts}
use Rattle.pcm_verdict.specs.Outputs.{Output, Written}
use Rattle.pcm_inputs.specs.declared.ending.Ending.{Ending}
use Rattle.pcm_inputs.specs.declared.ending.Ending.TheVariants.{CannotWrite, NoMemory}
use Rattle.pcm_inputs.specs.Outside.{Outside}

-- a file was created and has these bytes, and the other files keep theirs
pub record HasWritten (name bytes : List ℕ) (old new : FilesSeen) : Type 0 where
  pub file : IsTrue old.tells → HasCreated new name bytes
  pub others : IsTrue old.tells → KeepsOthers old new name

-- a file was written whole, and no call of the files failed
pub record WritesWhole (written : Written) (old new : FilesSeen) : Type 0 where
  pub file : HasWritten written.name written.bytes old new
  pub read_faults : new.read_faults ≡ old.read_faults
  pub write_faults : new.write_faults ≡ old.write_faults

-- nothing was written: files were read, and no read failed
pub record WritesNothing (old new : FilesSeen) : Type 0 where
  pub only : OnlyReads old new
  pub kept : NoReadFails old new

-- the file that is to be left was written whole, if there is one
abbrev pub WritesFile : Option Written → FilesSeen → FilesSeen → Type 0
WritesFile None old new = WritesNothing old new
WritesFile (Some written) old new = WritesWhole written old new

-- the file was written whole, and then the lines were put
pub record WritesAll (output : Output) (before after : Outside) : Type 0 where
  pub written : WritesFile output.file before.files after.files
  pub put : Puts before.sink after.sink output.lines

-- the file could not be created, and nothing was put
pub record CutAtCreate (written : Written) (before after : Outside) : Type 0 where
  pub file : FailsToCreate before.files after.files written.name
  pub sink : after.sink ≡ before.sink

-- a prefix of the bytes was appended to the file, and nothing was put
pub record CutAtAppend (written : Written) (before after : Outside) : Type 0 where
  pub rose : Rose before.files.write_faults after.files.write_faults
  pub part : List ℕ
  pub front : IsPrefixOf part written.bytes
  pub file : HasWritten written.name part before.files after.files
  pub sink : after.sink ≡ before.sink

-- the file was written whole, and a prefix of the lines was put
pub record CutAtPut (output : Output) (before after : Outside) : Type 0 where
  pub written : WritesFile output.file before.files after.files
  pub put : FailsToPut before.sink after.sink output.lines

-- where what was to be left was cut short
pub data CutsOutput (output : Output) (before after : Outside) : Type 0 where
  AtCreate : (written : Written) → output.file ≡ Some written → CutAtCreate written before after → CutsOutput output before after
  AtAppend : (written : Written) → output.file ≡ Some written → CutAtAppend written before after → CutsOutput output before after
  AtPut : CutAtPut output before after → CutsOutput output before after

-- how it ended early: cut short, or for want of memory, before anything was done
abbrev pub EndsOutput : Output → Outside → Outside → Ending → Type 0
EndsOutput output before after CannotWrite = CutsOutput output before after
EndsOutput output before after NoMemory = after ≡ before
EndsOutput output before after ending = ⊥
