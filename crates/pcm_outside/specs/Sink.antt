-- What a contract sees of a `Sink`, and what a put may change of it.
use Rattle.std.specs.Prelude.{◌≡◌, ℕ, ◌≤◌, Bool, IsTrue, List, ◌++◌}
use Rattle.pcm_outside.specs.Files.{FailsPartway}

-- Where `tells` is false there are no bytes.
pub record SinkSeen : Type 0 where
  pub tells : Bool
  pub bytes : List ℕ
  pub faults : ℕ

-- what no put changes, and the count that never falls
pub record OnlyPuts (old new : SinkSeen) : Type 0 where
  pub tells : new.tells ≡ old.tells
  pub faults : old.faults ≤ new.faults

-- the bytes put so far grew by these
abbrev pub PutsMore : SinkSeen → SinkSeen → List ℕ → Type 0
PutsMore old new more = IsTrue old.tells → new.bytes ≡ old.bytes ++ more

-- the piece was put whole
pub record Puts (old new : SinkSeen) (piece : List ℕ) : Type 0 where
  pub grows : PutsMore old new piece
  pub faults : new.faults ≡ old.faults

-- a put of the piece failed, and a part of it was put
abbrev pub FailsToPut : SinkSeen → SinkSeen → List ℕ → Type 0
FailsToPut old new piece = FailsPartway old.faults new.faults piece (PutsMore old new)
