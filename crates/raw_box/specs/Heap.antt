-- What a pointer owns that the heap gave out.
use base.Fml.{Fml}
use denote.RattleType.{RattleType}
use denote.RawPtr.{Ptr}
use Rattle.std.specs.Box.Ownership.{box_owns}
use Rattle.std.specs.Global.{Global}
use Rattle.std.specs.contracts.impls.GlobalAllocator.TheImpl.{ghosts}

-- the heap; there is one, so this says nothing more
abbrev pub heap : Global
heap = record { memory = record { seal = tt } }

-- the value that stands at a pointer, and the right to give its block back to the heap
abbrev pub heap_owns : (R : RattleType) → Ptr → R.Denot → Fml
heap_owns = box_owns (ghosts.dealloc_token heap)
