-- What an opening makes of the slots of one way.
use Rattle.std.specs.Prelude.{◌≡◌, ℕ, ◌<◌, List, length, IfOk, Option, Some, None, Result, Ok, Err, slice_index_or, slice_set}
use Rattle.pcm_oss.specs.declared.reply.Errno.{Errno}
use Rattle.pcm_oss.specs.declared.reply.Errno.TheVariants.{Busy}

-- the number of the slot that an open takes, where one is free: these are the numbers of places
abbrev pub slot_or_busy : (ℕ → ℕ) → Option ℕ → Result ℕ Errno
slot_or_busy number None = Err Busy
slot_or_busy number (Some place) = Ok (number place)

-- the books of a way once an opening began in that slot, whose book is this one
abbrev pub books_begun : {Book : Type 0} → Option ℕ → Book → List Book → List Book
books_begun None begun books = books
books_begun (Some slot) begun books = slice_set books slot begun

-- an open of a way with `slots` slots, whose places have these numbers: the least free one of them begins, if there is one
pub record Begins {Book : Type 0} (number : ℕ → ℕ) (slots : ℕ) (least : Option ℕ) (begun : Book) (old new : List Book) (result : Result ℕ Errno) : Type 0 where
  pub found : result ≡ slot_or_busy number least
  pub books : new ≡ books_begun least begun old
  pub there : IfOk result (λ told. told < number slots)

-- a channel begins so in this slot, and all others stay
pub record BeginsAt {C : Type 0} (begins : C → C → Type 0) (slot : ℕ) (old new : List C) : Type 0 where
  pub before : C
  pub after : C
  pub there : slot < length old
  pub held : before ≡ slice_index_or old slot before
  pub holds : new ≡ slice_set old slot after
  pub begun : begins before after

-- so it is where a slot is found; else all stay
abbrev pub BeginsIn : {C : Type 0} → (C → C → Type 0) → Option ℕ → List C → List C → Type 0
BeginsIn begins None old new = new ≡ old
BeginsIn begins (Some slot) old new = BeginsAt begins slot old new
