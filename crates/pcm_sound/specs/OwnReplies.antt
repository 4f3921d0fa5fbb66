-- The replies to the client of a descriptor along a list of events, with the bytes of its reads.
use Rattle.std.specs.Prelude.{ℕ, if◌then◌else◌, List, [], ◌∷◌}
use Rattle.pcm_oss.specs.declared.event.Event.{Event}
use Rattle.pcm_oss.specs.Replies.{Reply}
use Rattle.pcm_wave.specs.declared.pool.Pool.{Pool}
use Rattle.pcm_desk.specs.Device.{DeviceSeen}
use Rattle.pcm_desk.specs.OwnEvents.{closes, concerns}
use Rattle.pcm_sound.specs.StoryReplies.{reply_to}
use Rattle.pcm_sound.specs.Story.{Story, told}

-- the replies to the events of a descriptor and to the interrupts between them, until it is closed
abbrev pub client_replies : DeviceSeen → Pool → ℕ → Story → List Event → List Reply
client_replies device pool fd story [] = []
client_replies device pool fd story (event ∷ events) =
    let rest : List Reply = client_replies device pool fd (told device pool story event) events in
    if concerns fd event then reply_to device story event ∷ (if closes fd event then [] else rest) else rest
