-- A read gets no more bytes than there is room for.
use Rattle.std.proofs.Common.{ℕ, ◌≤◌, List, [], length, take, min, get_or, length-take, Option, Some, None, refl, arith}
use Rattle.pcm_oss.specs.declared.event.Event.TheVariants.{Read}
use Rattle.pcm_oss.specs.declared.event.Way.{Way}
use Rattle.pcm_oss.specs.declared.event.Way.TheVariants.{Play, Record, Map}
use Rattle.pcm_oss.specs.Replies.{Reply}
use Rattle.pcm_feeder.specs.Kept.{Kept}
use Rattle.pcm_foreign.specs.Devices.{◌>>=◌}
use Rattle.pcm_desk.specs.declared.device.Held.{Held}
use Rattle.pcm_desk.specs.declared.limits.TheConstants.{READ_BYTES}
use Rattle.pcm_desk.specs.Channels.{by_way}
use Rattle.pcm_desk.specs.Desk.{held_by}
use Rattle.pcm_engine.specs.declared.engine.EngineOf.{EngineOf}
use Rattle.pcm_engine.specs.Engines.{desk_of, waiting_in}
use Rattle.pcm_engine.specs.Steps.{front_taken}
use Rattle.pcm_session.specs.Calls.{IsStepOf}
use Rattle.pcm_session.specs.Events.{descriptor_from, event_for_read}

front_within : (rings : List (List ℕ)) (count : ℕ) (held : Option Held) → length (front_taken rings count held) ≤ count
front_within rings count None = omega arith
front_within rings count (Some held) = at held.way
  where
    at : (way : Way) → length (by_way way [] (take count (get_or rings held.slot [])) []) ≤ count
    at Play = omega arith
    at Record = omega (arith, length-take count (get_or rings held.slot []))
    at Map = omega arith

-- the step of a read, if its descriptor is one
within : {B : Type 0} (kept : B → Kept) (room : ℕ) (old new : EngineOf B) (told : Reply) (found : Option ℕ) → IsStepOf kept (found >>= (λ fd. Some (Read fd (min room READ_BYTES)))) [] [] old new told [] → length told.bytes ≤ room
within kept room old new told (Some fd) step =
    let got = step.rules.taken fd (min room READ_BYTES) refl in
    let few = front_within (waiting_in old) (min room READ_BYTES) (held_by (desk_of old) fd) in
    rw got (omega (arith, few))
within kept room old new told None step = absurd step

pub read-within : {B : Type 0} (kept : B → Kept) (fd room : ℕ) (old new : EngineOf B) (told : Reply) → IsStepOf kept (event_for_read fd room) [] [] old new told [] → length told.bytes ≤ room
unfolding event_for_read
read-within kept fd room old new told step = within kept room old new told (descriptor_from fd) step
