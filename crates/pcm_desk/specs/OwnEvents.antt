-- What the events of one descriptor do along a list of events, from its opening on until its close.
use Rattle.std.specs.Prelude.{◌≡◌, ℕ, ◌+◌, Bool, true, false, ◌==◌, if◌then◌else◌, List, [], ◌∷◌, Option, Some, None, Result, IsErr}
use Rattle.pcm_format.specs.declared.settings.Settings.{Settings}
use Rattle.pcm_oss.specs.declared.event.Event.{Event}
use Rattle.pcm_oss.specs.declared.event.Event.TheVariants.{Open, Write, Poke, Read, Ioctl, Join, StartGroup, Close, Mixer, Intr}
use Rattle.pcm_oss.specs.declared.event.Way.{Way}
use Rattle.pcm_oss.specs.declared.reply.Answer.{Answer}
use Rattle.pcm_oss.specs.declared.reply.Errno.{Errno}
use Rattle.pcm_wave.specs.declared.pool.Source.TheVariants.{Inline}
use Rattle.pcm_desk.specs.declared.device.Held.{Held}
use Rattle.pcm_desk.specs.Device.{DeviceSeen}
use Rattle.pcm_desk.specs.Channels.{Channel, own_turn, ungrouped}
use Rattle.pcm_desk.specs.Desk.{Desk, DeskTurn, after, held_by}
use Rattle.pcm_desk.specs.declared.turn.Turn.{Turn}
use Rattle.pcm_desk.specs.Events.{frames_taken}
use Rattle.pcm_desk.specs.Own.{HoldApart, MembersWait, descriptor_of}

-- a descriptor is this one; none is nobody's
abbrev pub names : ℕ → Option ℕ → Bool
names fd None = false
names fd (Some at) = at == fd

-- an event of the descriptor that has nothing to do with groups, or an interrupt, which is everyone's; what the mixer device is asked is
-- nobody's
abbrev pub concerns : ℕ → Event → Bool
concerns fd (Intr frames) = true
concerns fd (Join at group) = false
concerns fd event = names fd (descriptor_of event)

-- a join of the descriptor
abbrev pub joins : ℕ → Event → Bool
joins fd (Join at group) = at == fd
joins fd _ = false

-- the close of the descriptor
abbrev pub closes : ℕ → Event → Bool
closes fd (Close at) = at == fd
closes fd _ = false

-- An event without the number of its descriptor. Of the bytes of a write and a poke only their number counts.
abbrev pub unnamed : Event → Event
unnamed (Open fd way settings) = Open 0 way settings
unnamed (Write fd source at count) = Write 0 Inline 0 count
unnamed (Poke fd offset at count) = Poke 0 offset 0 count
unnamed (Read fd count) = Read 0 count
unnamed (Ioctl fd request) = Ioctl 0 request
unnamed (Join fd group) = Join 0 group
unnamed (StartGroup fd group) = StartGroup 0 group
unnamed (Close fd) = Close 0
unnamed (Mixer request) = Mixer request
unnamed (Intr n) = Intr n

-- the events of an open descriptor and the interrupts between them, until it is closed
abbrev pub own_events : ℕ → List Event → List Event
own_events fd [] = []
own_events fd (event ∷ events) =
    if concerns fd event then unnamed event ∷ (if closes fd event then [] else own_events fd events) else own_events fd events

-- the replies to these events, from this desk on
abbrev pub replies_to : DeviceSeen → ℕ → Desk → List Event → List (Result Answer Errno)
replies_to device fd desk [] = []
replies_to device fd desk (event ∷ events) =
    let turn : DeskTurn = after device desk event in
    if concerns fd event then turn.reply ∷ (if closes fd event then [] else replies_to device fd turn.desk events) else replies_to device fd turn.desk events

-- no join of a descriptor is accepted until its close, from this desk on
abbrev pub JoinsNone : DeviceSeen → ℕ → Desk → List Event → Type 0
JoinsNone device fd desk [] = Unit {0}
JoinsNone device fd desk (event ∷ events) =
    let turn : DeskTurn = after device desk event in
    (joins fd event ≡ true → IsErr turn.reply) × (closes fd event ≡ false → JoinsNone device fd turn.desk events)

-- the replies to the own events of a channel of no group and the interrupts between them, by its book alone, after `handed` frames
abbrev pub own_replies : DeviceSeen → ℕ → Channel → List Event → List (Result Answer Errno)
own_replies device handed channel [] = []
own_replies device handed channel (event ∷ events) =
    let turn : Turn Channel = own_turn device handed ungrouped event channel in
    turn.reply ∷ own_replies device (handed + frames_taken event) turn.book events

-- and its book after them
abbrev pub own_after : DeviceSeen → ℕ → Channel → List Event → Channel
own_after device handed channel [] = channel
own_after device handed channel (event ∷ events) =
    own_after device (handed + frames_taken event) (own_turn device handed ungrouped event channel).book events

-- a descriptor that was shut is opened at a desk, and holds this channel then
pub record Opens (device : DeviceSeen) (fd : ℕ) (way : Way) (settings : Settings) (held : Held) (old new : Desk) : Type 0 where
  pub shut : held_by old fd ≡ None
  pub is : new ≡ (after device old (Open fd way settings)).desk
  pub holds : held_by new fd ≡ Some held

-- and so at one in order, and no join of it is accepted in the events after that
pub record OpensAlone (device : DeviceSeen) (fd : ℕ) (way : Way) (settings : Settings) (held : Held) (old new : Desk) (events : List Event) : Type 0 where
  pub apart : HoldApart old
  pub waits : MembersWait device old
  pub opens : Opens device fd way settings held old new
  pub joins_none : JoinsNone device fd new events
