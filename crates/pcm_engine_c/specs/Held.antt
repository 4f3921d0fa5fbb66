-- What C holds of a session, which is ready for the next call.
use Rattle.std.specs.Coded.{coded_option}
use Rattle.std.specs.Global.{Box}
use Rattle.std.specs.declared.option.Option.{Option}
use Rattle.std.specs.declared.option.Option.TheVariants.{Some, None}
use base.Fml.{Fml, fex, ftrue}
use base.Stored.{Coded}
use denote.RattleType.{RattleType}
use denote.RawPtr.{Ptr}
use Rattle.raw_box.specs.Heap.{heap_owns}
use Rattle.pcm_engine_c.specs.declared.session.Session.{Session}
use Rattle.pcm_engine_c.specs.contracts.session.Session.{the_row}

-- a session's type, as the logic has it
abbrev pub session_row : RattleType
session_row = the_row

abbrev pub session_coded : Coded (Option Session)
session_coded = coded_option session_row.coded

-- the session in a box, if there is one
abbrev pub value_in : Option (Box Session) → Option Session
value_in (Some box) = Some box.value
value_in None = None

-- the session at a pointer with the right to free it, and that it is ready; or nothing
abbrev pub owned : (Session → Type 0) → Ptr → Option Session → Fml
owned ready at (Some session) = fex (ready session) (λ is. heap_owns session_row at session)
owned ready at None = ftrue
