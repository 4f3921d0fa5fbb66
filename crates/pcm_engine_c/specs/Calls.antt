-- The effect of a call of C: a call of the session that is held, if there is one.
use Rattle.std.specs.Prelude.{Option, Some, None}
use Rattle.pcm_engine_c.specs.declared.handle.Handle.{Handle}
use Rattle.pcm_engine_c.specs.declared.session.Session.{Session}

-- what is held before and after is a session that the call does so to, or there is none
abbrev pub OnHeld : Option Session → Option Session → (Session → Session → Type 0) → Type 0
OnHeld None None does = Unit {0}
OnHeld (Some old) (Some new) does = does old new
OnHeld old new does = ⊥

-- so it is of two handles
abbrev pub On : Handle → Handle → (Session → Session → Type 0) → Type 0
On old new does = OnHeld old.slot.session new.slot.session does
