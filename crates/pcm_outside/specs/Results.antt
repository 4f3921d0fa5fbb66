-- What each call of the outside does, by its result.
use Rattle.std.specs.Prelude.{◌≡◌, ◌≢◌, ℕ, List, Result, Err, IfOk, IsErrOf, OnErr, OnOk, Vec}
use Rattle.std.specs.Global.{Global}
use Rattle.pcm_outside.specs.declared.outside.ReadFault.{ReadFault}
use Rattle.pcm_outside.specs.declared.outside.ReadFault.TheVariants.{Failed}
use Rattle.pcm_outside.specs.declared.outside.WriteFault.{WriteFault}
use Rattle.pcm_outside.specs.Files.{FilesSeen, Appends, Creates, FailsToAppend, FailsToCreate, FailsToRead, NoReadFails, OnlyAppends, OnlyReads, OnlyWrites, ReadsFile}
use Rattle.pcm_outside.specs.Sink.{SinkSeen, FailsToPut, OnlyPuts, Puts}

-- the change to a form in memory is done, or nothing is: what it was before, what it is now, and what it is with the change
pub record IsDoneOrNot {A E : Type 0} (old new done : A) (result : Result (Unit {0}) E) : Type 0 where
  pub ok : OnOk result (new ≡ done)
  pub err : OnErr result (new ≡ old)

-- a read of the first `most` bytes of a name, or all where there are fewer
pub record DoesRead (old new : FilesSeen) (name : List ℕ) (most : ℕ) (result : Result (Vec ℕ Global) ReadFault) : Type 0 where
  pub only : OnlyReads old new
  pub ok : IfOk result (λ bytes. ReadsFile old name most bytes.items)
  pub failed : IsErrOf result Failed → FailsToRead old new name
  pub kept : result ≢ Err Failed → NoReadFails old new

-- a create of a name
pub record DoesCreate (old new : FilesSeen) (name : List ℕ) (result : Result (Unit {0}) WriteFault) : Type 0 where
  pub only : OnlyWrites old new
  pub ok : OnOk result (Creates old new name)
  pub err : OnErr result (FailsToCreate old new name)

-- an append of a piece
pub record DoesAppend (old new : FilesSeen) (piece : List ℕ) (result : Result (Unit {0}) WriteFault) : Type 0 where
  pub only : OnlyAppends old new
  pub ok : OnOk result (Appends old new piece)
  pub err : OnErr result (FailsToAppend old new piece)

-- a put of a piece
pub record DoesPut (old new : SinkSeen) (piece : List ℕ) (result : Result (Unit {0}) WriteFault) : Type 0 where
  pub only : OnlyPuts old new
  pub ok : OnOk result (Puts old new piece)
  pub err : OnErr result (FailsToPut old new piece)
