-- The replies to the events of a script.
use Rattle.std.specs.Prelude.{ℕ, List, [], ◌∷◌, Option, Some, None}
use Rattle.pcm_oss.specs.declared.event.Event.{Event}
use Rattle.pcm_oss.specs.declared.event.Event.TheVariants.{Read}
use Rattle.pcm_wave.specs.declared.pool.Pool.{Pool}
use Rattle.pcm_oss.specs.Replies.{Reply}
use Rattle.pcm_desk.specs.declared.device.Held.{Held}
use Rattle.pcm_desk.specs.Device.{DeviceSeen}
use Rattle.pcm_desk.specs.Channels.{by_way}
use Rattle.pcm_desk.specs.Desk.{after, held_by, record_at}
use Rattle.pcm_sound.specs.Recordings.{read_bytes}
use Rattle.pcm_sound.specs.Story.{Story, told}

-- the bytes that a read of a descriptor gets: those of the recording that it holds
abbrev pub bytes_got : DeviceSeen → Story → ℕ → Option Held → List ℕ
bytes_got device story count None = []
bytes_got device story count (Some held) =
    by_way held.way [] (read_bytes count (record_at device story.desk held.slot) (story.recordings held.slot)) []

-- the bytes that an event gets: no event but a read does
abbrev pub bytes_to : DeviceSeen → Story → Event → List ℕ
bytes_to device story (Read fd count) = bytes_got device story count (held_by story.desk fd)
bytes_to device story event = []

-- the reply to an event: what the desk answers, and the bytes that it gets
abbrev pub reply_to : DeviceSeen → Story → Event → Reply
reply_to device story event = record { result = (after device story.desk event).reply; bytes = bytes_to device story event }

-- the replies to a list of events, from a story on
abbrev pub replies : DeviceSeen → Pool → Story → List Event → List Reply
replies device pool story [] = []
replies device pool story (event ∷ events) = reply_to device story event ∷ replies device pool (told device pool story event) events
