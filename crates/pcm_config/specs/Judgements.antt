-- Judgements one after another: the first that refuses is the result.
use Rattle.std.specs.Prelude.{Bool, true, false, Option, Some, None, Result, Ok, Err}
use Rattle.pcm_config.specs.declared.fault.ConfigKind.{ConfigKind}
use Rattle.pcm_config.specs.declared.fault.ConfigRefusal.{ConfigRefusal}
use Rattle.pcm_config.specs.declared.place.ConfigPlace.{ConfigPlace}

-- the next judgement, if this one gave a value
infixl 10 ◌>>=◌
abbrev pub ◌>>=◌ : {A B E : Type 0} → Result A E → (A → Result B E) → Result B E
Ok value >>= next = next value
Err fault >>= next = Err fault

-- the next judgement, if this one, which gives nothing, refused nothing
infixl 10 ◌>>◌
abbrev pub ◌>>◌ : {B E : Type 0} → Result (Unit {0}) E → Result B E → Result B E
Ok _ >> next = next
Err fault >> next = Err fault

-- a refusal, for a kind of fault at a place
abbrev pub fault_at : {A : Type 0} → ConfigKind → ConfigPlace → Result A ConfigRefusal
fault_at fault place = Err (record { kind = fault; place = place })

-- what must hold, else it is refused
abbrev pub must_hold : Bool → ConfigKind → ConfigPlace → Result (Unit {0}) ConfigRefusal
must_hold true fault place = Ok tt
must_hold false fault place = fault_at fault place

-- what must be there, else it is refused
abbrev pub required : {A : Type 0} → ConfigKind → ConfigPlace → Option A → Result A ConfigRefusal
required fault place None = fault_at fault place
required fault place (Some value) = Ok value

-- what was judged, as it is seen
abbrev pub as_seen : {A B E : Type 0} → (A → B) → Result A E → Result B E
as_seen seen (Ok value) = Ok (seen value)
as_seen seen (Err fault) = Err fault
