-- What stands in an area is a matter of its own channel: its book, and the bytes that its own pokes bring.
use Rattle.std.specs.Prelude.{◌≡◌, ◌≢◌, ℕ, if◌then◌else◌, List, [], ◌∷◌, Option, Some, None}
use Rattle.pcm_oss.specs.declared.event.Event.{Event}
use Rattle.pcm_oss.specs.declared.event.Event.TheVariants.{Poke}
use Rattle.pcm_oss.specs.declared.event.Way.TheVariants.{Map}
use Rattle.pcm_wave.specs.declared.pool.Pool.{Pool}
use Rattle.pcm_wave.specs.declared.pool.Source.TheVariants.{Inline}
use Rattle.pcm_wave.specs.Pools.{bytes_at}
use Rattle.pcm_desk.specs.declared.device.Held.{Held}
use Rattle.pcm_desk.specs.Device.{DeviceSeen}
use Rattle.pcm_desk.specs.Channels.{Channel, Mapped, own_turn, ungrouped}
use Rattle.pcm_desk.specs.Desk.{Desk, channel_at, held_by, map_at}
use Rattle.pcm_desk.specs.Own.{descriptor_of}
use Rattle.pcm_desk.specs.OwnEvents.{closes, concerns}
use Rattle.pcm_sound.specs.Areas.{poked, silences, silent_area}
use Rattle.pcm_sound.specs.Story.{Story}

-- the mapped channel of a slot
abbrev pub mapped_slot : ℕ → Held
mapped_slot slot = record { way = Map; slot = slot }

-- what a descriptor holds, where one is named
abbrev pub held_by_named : Desk → Option ℕ → Option Held
held_by_named desk None = None
held_by_named desk (Some fd) = held_by desk fd

-- the channel that the descriptor of an event holds; an interrupt, a start of a group and what the mixer device is asked have none
abbrev pub held_for : Event → Desk → Option Held
held_for event desk = held_by_named desk (descriptor_of event)

-- the bytes that an event brings to an area: those of a poke
abbrev pub bytes_poked : Pool → Event → List ℕ
bytes_poked pool (Poke fd offset at count) = bytes_at pool Inline at count
bytes_poked pool event = []

-- beside each of the own events of a descriptor, the bytes that it brings to an area
abbrev pub own_pokes : Pool → ℕ → List Event → List (List ℕ)
own_pokes pool fd [] = []
own_pokes pool fd (event ∷ events) =
    if concerns fd event then bytes_poked pool event ∷ (if closes fd event then [] else own_pokes pool fd events) else own_pokes pool fd events

-- an area once an event of its own wrote the bytes that it brings
abbrev pub own_written : Event → List ℕ → List ℕ → List ℕ
own_written (Poke fd offset at count) bytes area = poked offset bytes area
own_written event bytes area = area

-- the area beside a book, before an event and after it: silent again, or as it was written
abbrev pub area_beside : Channel → Channel → List ℕ → List ℕ
area_beside (Mapped old) (Mapped new) written = if silences old new then silent_area new.opening else written
area_beside old new written = written

-- An area after an event of its own, by the book beside it, the bytes that the event brings, and the frames given to the device before.
-- The groups have no part in it: a mapped channel is in none.
abbrev pub own_area : DeviceSeen → ℕ → Event → List ℕ → Channel → List ℕ → List ℕ
own_area device handed event bytes channel area =
    area_beside channel (own_turn device handed ungrouped event channel).book (own_written event bytes area)

-- Of all areas, an event changes at most the one of the channel that its descriptor holds:
pub record ChangesOneArea (device : DeviceSeen) (pool : Pool) (event : Event) (old new : Story) : Type 0 where
  -- that area goes by its own book and by the bytes that the event brings,
  pub own : (slot : ℕ) → held_for event old.desk ≡ Some (mapped_slot slot)
      → new.areas slot ≡ own_area device old.desk.handed event (bytes_poked pool event) (channel_at device old.desk (mapped_slot slot)) (old.areas slot)
  -- one that an open takes is silent,
  pub opened : (slot : ℕ) → held_for event old.desk ≢ Some (mapped_slot slot) → held_for event new.desk ≡ Some (mapped_slot slot)
      → new.areas slot ≡ silent_area (map_at device new.desk slot).opening
  -- and every other stays
  pub others : (slot : ℕ) → held_for event old.desk ≢ Some (mapped_slot slot) → held_for event new.desk ≢ Some (mapped_slot slot)
      → new.areas slot ≡ old.areas slot
