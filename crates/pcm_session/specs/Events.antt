-- The events of calls in numbers. Where the numbers name none, there is no event.
use Rattle.std.specs.Prelude.{ℕ, ◌^◌, if◌then◌else◌, min, nat_lt, Option, Some, None}
use Rattle.pcm_oss.specs.declared.event.Event.{Event}
use Rattle.pcm_oss.specs.declared.event.Event.TheVariants.{Open, Write, Poke, Read, Ioctl, Join, StartGroup, Close, Mixer}
use Rattle.pcm_wave.specs.declared.pool.Source.TheVariants.{Inline}
use Rattle.pcm_desk.specs.declared.limits.TheConstants.{DESCRIPTORS, READ_BYTES}
use Rattle.pcm_foreign.specs.Devices.{◌>>=◌, stream_settings, way_from}
use Rattle.pcm_foreign.specs.Requests.{mix_request_from, request_from}

abbrev pub descriptor_from : ℕ → Option ℕ
descriptor_from fd = if nat_lt fd DESCRIPTORS then Some fd else None

-- how many bytes a call brings, if an event can name as many
abbrev pub length_from : ℕ → Option ℕ
length_from length = if nat_lt length (2 ^ 32) then Some length else None

unfoldable pub event_for_open : ℕ → ℕ → ℕ → ℕ → ℕ → Option Event
event_for_open fd way format channels rate = do
  fd ← descriptor_from fd
  way ← way_from way
  settings ← stream_settings format channels rate
  Some (Open fd way settings)

unfoldable pub event_for_write : ℕ → ℕ → Option Event
event_for_write fd length = do
  fd ← descriptor_from fd
  count ← length_from length
  Some (Write fd Inline 0 count)

unfoldable pub event_for_poke : ℕ → ℕ → ℕ → Option Event
event_for_poke fd offset length = do
  fd ← descriptor_from fd
  count ← length_from length
  Some (Poke fd offset 0 count)

-- a read of as many bytes as there is room for, and no more than a read may ask for
unfoldable pub event_for_read : ℕ → ℕ → Option Event
event_for_read fd room = do
  fd ← descriptor_from fd
  Some (Read fd (min room READ_BYTES))

unfoldable pub event_for_ioctl : ℕ → ℕ → ℕ → Option Event
event_for_ioctl fd request argument = do
  fd ← descriptor_from fd
  request ← request_from request argument
  Some (Ioctl fd request)

unfoldable pub event_for_join : ℕ → ℕ → Option Event
event_for_join fd group = do
  fd ← descriptor_from fd
  Some (Join fd group)

unfoldable pub event_for_start : ℕ → ℕ → Option Event
event_for_start fd group = do
  fd ← descriptor_from fd
  Some (StartGroup fd group)

unfoldable pub event_for_close : ℕ → Option Event
event_for_close fd = do
  fd ← descriptor_from fd
  Some (Close fd)

unfoldable pub event_for_mixer : ℕ → ℕ → ℕ → Option Event
event_for_mixer request slot value = do
  request ← mix_request_from request slot value
  Some (Mixer request)
