-- The area of a mapped channel: what stands in it, and which bytes of it the device takes.
use Rattle.std.specs.Prelude.{ℕ, pos, ◌+◌, ◌%◌, Bool, false, not, ◌&&◌, ◌||◌, nat_le, ◌==◌, if◌then◌else◌, List, ◌++◌, length, map, take, drop, slice_index_or, Option, Some, None}
use Rattle.std.specs.List.{range_with_len}
use Rattle.pcm_format.specs.declared.format.Format.{Format}
use Rattle.pcm_format.specs.Formats.{bytes_of, code_of}
use Rattle.pcm_format.specs.Layouts.{channels_of}
use Rattle.pcm_format.specs.Samples.{spelled}
use Rattle.pcm_oss.specs.declared.event.Event.{Event}
use Rattle.pcm_oss.specs.declared.event.Event.TheVariants.{Poke}
use Rattle.pcm_wave.specs.declared.pool.Pool.{Pool}
use Rattle.pcm_wave.specs.declared.pool.Source.TheVariants.{Inline}
use Rattle.pcm_wave.specs.Pools.{bytes_at}
use Rattle.pcm_desk.specs.declared.device.Held.{Held}
use Rattle.pcm_desk.specs.declared.map_book.MapBook.{MapBook}
use Rattle.pcm_desk.specs.declared.opening.Opening.{Opening}
use Rattle.pcm_desk.specs.Openings.{ring_bytes}
use Rattle.pcm_desk.specs.RunStates.{is_unheld}
use Rattle.pcm_desk.specs.Channels.{by_way}
use Rattle.pcm_desk.specs.Desk.{Desk, held_by}

-- byte b of silence in a format: those of the spelling of 0, over and over
abbrev pub silent_byte : Format → ℕ → ℕ
silent_byte format b = slice_index_or (spelled format (pos 0)) (b % bytes_of format) 0

-- the area of an opening in which nothing was written
abbrev pub silent_area : Opening → List ℕ
silent_area opening = map (silent_byte opening.settings.format) (range_with_len 0 (ring_bytes opening))

-- `count` bytes from the byte at `from` on, of a stream that goes round in an area: after the last byte comes the first
abbrev pub area_bytes : List ℕ → ℕ → ℕ → List ℕ
area_bytes area from count = map (λ place. slice_index_or area (place % length area) 0) (range_with_len from count)

-- an area once these bytes were written from an offset on; what passes its end is refused
abbrev pub poked : ℕ → List ℕ → List ℕ → List ℕ
poked offset bytes area =
    if nat_le (offset + length bytes) (length area) then take offset area ++ bytes ++ drop (offset + length bytes) area else area

-- an opening has another area than it had: of another format, other channels or other fragments
abbrev pub is_recut : Opening → Opening → Bool
is_recut old new =
    not (code_of old.settings.format == code_of new.settings.format)
    || not (channels_of old.settings.layout == channels_of new.settings.layout)
    || not (old.fragments.count == new.fragments.count)
    || not (old.fragments.log == new.fragments.log)

-- an opening begins in a slot that was free
abbrev pub begins_map : MapBook → MapBook → Bool
begins_map old new = is_unheld old.state && not (is_unheld new.state)

-- the area of a slot becomes silent
abbrev pub silences : MapBook → MapBook → Bool
silences old new = begins_map old new || is_recut old.opening new.opening

-- a descriptor holds the mapped channel of a slot
abbrev pub holds_map : Option Held → ℕ → Bool
holds_map None slot = false
holds_map (Some held) slot = by_way held.way false false (held.slot == slot)

-- what an event writes into the area of a slot
abbrev pub written_by : Pool → Desk → Event → ℕ → List ℕ → List ℕ
written_by pool desk (Poke fd offset at count) slot area =
    if holds_map (held_by desk fd) slot then poked offset (bytes_at pool Inline at count) area else area
written_by pool desk event slot area = area

-- the area of a slot after an event at a desk, from its book before and after
abbrev pub area_after : Pool → Desk → Event → ℕ → MapBook → MapBook → List ℕ → List ℕ
area_after pool desk event slot old new area = if silences old new then silent_area new.opening else written_by pool desk event slot area
