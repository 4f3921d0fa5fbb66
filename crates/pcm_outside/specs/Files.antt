-- What a contract sees of a `Files`, and what each call may change of it.
use Rattle.std.specs.Prelude.{◌≡◌, ◌≢◌, ◌⊎◌, ℕ, ◌≤◌, Bool, false, IsTrue, List, [], ◌++◌, take, Option, Some, None}
use Rattle.pcm_outside.specs.Counts.{Rose}

-- Names are lists of bytes. Where `tells` is false there is no content, and no name last created.
pub record FilesSeen : Type 0 where
  pub tells : Bool
  pub content : List ℕ → Option (List ℕ)
  pub created : Option (List ℕ)
  pub stands : Bool
  pub read_faults : ℕ
  pub write_faults : ℕ
  pub failed : Option (List ℕ)

-- this name was created last, and its content is these bytes
pub record HasCreated (files : FilesSeen) (name bytes : List ℕ) : Type 0 where
  pub created : files.created ≡ Some name
  pub content : files.content name ≡ Some bytes

-- the names other than this one keep their contents
abbrev pub KeepsOthers : FilesSeen → FilesSeen → List ℕ → Type 0
KeepsOthers old new name = (other : List ℕ) → other ≢ name → new.content other ≡ old.content other

-- the front of a list that one is a prefix of
pub record IsPrefixOf (front whole : List ℕ) : Type 0 where
  pub rest : List ℕ
  pub joined : whole ≡ front ++ rest

-- what no read changes, and the count that never falls
pub record OnlyReads (old new : FilesSeen) : Type 0 where
  pub tells : new.tells ≡ old.tells
  pub content : new.content ≡ old.content
  pub created : new.created ≡ old.created
  pub stands : new.stands ≡ old.stands
  pub write_faults : new.write_faults ≡ old.write_faults
  pub read_faults : old.read_faults ≤ new.read_faults

-- the name is there, and its content begins with the bytes: `most` of them, or all where there are fewer
pub record IsFrontOf (files : FilesSeen) (name : List ℕ) (most : ℕ) (bytes : List ℕ) : Type 0 where
  pub whole : List ℕ
  pub there : files.content name ≡ Some whole
  pub front : bytes ≡ take most whole

-- a read gave the bytes
abbrev pub ReadsFile : FilesSeen → List ℕ → ℕ → List ℕ → Type 0
ReadsFile files name most bytes = IsTrue files.tells → IsFrontOf files name most bytes

-- a read of the name failed
pub record FailsToRead (old new : FilesSeen) (name : List ℕ) : Type 0 where
  pub rose : Rose old.read_faults new.read_faults
  pub failed : new.failed ≡ Some name

-- no read failed: the count of those that did stays, and so does the name
pub record NoReadFails (old new : FilesSeen) : Type 0 where
  pub read_faults : new.read_faults ≡ old.read_faults
  pub failed : new.failed ≡ old.failed

-- what neither create nor append changes, and the count that never falls
pub record OnlyWrites (old new : FilesSeen) : Type 0 where
  pub tells : new.tells ≡ old.tells
  pub read_faults : new.read_faults ≡ old.read_faults
  pub failed : new.failed ≡ old.failed
  pub write_faults : old.write_faults ≤ new.write_faults

-- the name was created: its content is empty
pub record Creates (old new : FilesSeen) (name : List ℕ) : Type 0 where
  pub stands : IsTrue new.stands
  pub empty : IsTrue old.tells → HasCreated new name []
  pub others : KeepsOthers old new name
  pub write_faults : new.write_faults ≡ old.write_faults

-- what may be left at a name that could not be created: what was there, nothing, or no bytes
abbrev pub IsLeft : Option (List ℕ) → Option (List ℕ) → Type 0
IsLeft before now = (now ≡ before) ⊎ ((now ≡ None) ⊎ (now ≡ Some []))

-- the name could not be created
pub record FailsToCreate (old new : FilesSeen) (name : List ℕ) : Type 0 where
  pub rose : Rose old.write_faults new.write_faults
  pub stands : new.stands ≡ false
  pub created : new.created ≡ old.created
  pub left : IsLeft (old.content name) (new.content name)
  pub others : KeepsOthers old new name

-- the content of the name last created grew by these bytes
pub record Grows (old new : FilesSeen) (more : List ℕ) : Type 0 where
  pub bytes : (name bytes : List ℕ) → IsTrue old.tells → HasCreated old name bytes → HasCreated new name (bytes ++ more)
  pub others : (name : List ℕ) → old.created ≡ Some name → KeepsOthers old new name

-- what no append changes, beside what no write changes
pub record OnlyAppends (old new : FilesSeen) : Type 0 where
  pub writes : OnlyWrites old new
  pub created : new.created ≡ old.created
  pub stands : IsTrue new.stands

-- the piece was appended whole
pub record Appends (old new : FilesSeen) (piece : List ℕ) : Type 0 where
  pub grows : Grows old new piece
  pub write_faults : new.write_faults ≡ old.write_faults

-- the write of a piece failed, by a count of faults, and a part of it was written
pub record FailsPartway (before now : ℕ) (piece : List ℕ) (Writes : List ℕ → Type 0) : Type 0 where
  pub rose : Rose before now
  pub part : List ℕ
  pub front : IsPrefixOf part piece
  pub grows : Writes part

-- an append of the piece failed, and a part of it was appended
abbrev pub FailsToAppend : FilesSeen → FilesSeen → List ℕ → Type 0
FailsToAppend old new piece = FailsPartway old.write_faults new.write_faults piece (Grows old new)
