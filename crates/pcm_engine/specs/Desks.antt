-- What a parent and descriptors are to the rules: a desk. And what a call of a client makes of it.
use Rattle.std.specs.Prelude.{◌≡◌, ℕ, List, All, Option, None, Some, Result, slice_set, take}
use Rattle.pcm_engine.specs.Types.{Answer, Errno, Event, Filters, Held, Here, Kept, Kind, Request, Turn}
use Rattle.pcm_oss.specs.declared.reply.Errno.TheVariants.{BadF}
use Rattle.pcm_oss.specs.Replies.{bytes_due}
use Rattle.pcm_desk.specs.Device.{DeviceSeen, here_at, seen}
use Rattle.pcm_desk.specs.Channels.{Channel, own_close, own_ioctl}
use Rattle.pcm_desk.specs.Desk.{Desk, DeskTurn, after, channel_at, desk_here, held_by, refusing, with_channel_at}
use Rattle.pcm_play.specs.Channels.{IsPlayReady}
use Rattle.pcm_vchan.specs.declared.parent.ParentOf.{ParentOf}
use Rattle.pcm_vchan.specs.Parents.{map_books, play_books, play_channels, record_books, record_channels}
use Rattle.pcm_vchan.specs.Slots.{AllHoldUnread}
use Rattle.pcm_engine.specs.declared.descriptors.Descriptors.{Descriptors}
use Rattle.pcm_engine.specs.Steps.{bytes_read}

-- the desk of a parent and descriptors
abbrev pub desk_with : {B : Type 0} → ParentOf B → Descriptors → Desk
desk_with parent descriptors = record {
  play = play_books parent;
  recording = record_books parent;
  mapped = map_books parent;
  descriptors = descriptors.held.value;
  groups = descriptors.groups;
  mixer = parent.mixer;
  handed = parent.handed;
  mixed = parent.mixed;
}

-- descriptors of which one holds a channel now, or none
abbrev pub with_held : Descriptors → ℕ → Option Held → Descriptors
with_held descriptors fd held = record descriptors { held = record descriptors.held { value = slice_set descriptors.held.value fd held } }

-- ---- turns of a desk

-- the one that the rules make on an event
abbrev pub turn_on : Event → DeviceSeen → Desk → DeskTurn
turn_on event device desk = after device desk event

-- a request of the channel alone, as of one of no group
abbrev pub channel_asked : DeviceSeen → Desk → Request → Option Held → DeskTurn
channel_asked device desk request None = refusing desk BadF
channel_asked device desk request (Some held) =
    let turn : Turn Channel = own_ioctl device (desk_here device desk) request (channel_at device desk held) in
    record { desk = with_channel_at desk held.slot turn.book; reply = turn.reply }

abbrev pub ioctl_call : ℕ → Request → DeviceSeen → Desk → DeskTurn
ioctl_call fd request device desk = channel_asked device desk request (held_by desk fd)

-- the desk once a channel was closed, whose descriptor is open still
abbrev pub closed_held : DeviceSeen → Desk → Held → Desk
closed_held device desk held = with_channel_at desk held.slot (own_close device (desk_here device desk) (channel_at device desk held))

-- ---- what a call makes of parent and descriptors

-- by these filters the reply is that of a turn
abbrev pub RepliesBy : {B : Type 0} → Filters → (DeviceSeen → Desk → DeskTurn) → ParentOf B → Descriptors → Result Answer Errno → Type 0
RepliesBy filters turn parent descriptors result = result ≡ (turn (seen filters parent.device) (desk_with parent descriptors)).reply

-- by these filters a call that changes what descriptors hold, or who starts with whom, turns the desk
abbrev pub ChangesBy : {B : Type 0} → Filters → (DeviceSeen → Desk → DeskTurn) → ParentOf B → Descriptors → ParentOf B → Descriptors → Type 0
ChangesBy filters turn old before new after = desk_with new after ≡ (turn (seen filters old.device) (desk_with old before)).desk

-- by these filters the mix and the device of a parent are here
abbrev pub IsAt : {B : Type 0} → Filters → Here → ParentOf B → Type 0
IsAt filters here parent = here ≡ here_at (seen filters parent.device) parent.handed

-- a channel is closed, by whichever filters the channels are ready, and the mix and the device are here, whatever the descriptors are
abbrev pub ClosesHeld : {B : Type 0} → (B → Kind) → (B → Kept) → Here → Held → ParentOf B → ParentOf B → Type 0
ClosesHeld kind kept here held old new = (filters : Filters) (descriptors : Descriptors) → All (IsPlayReady kind kept filters) (play_channels old) → IsAt filters here old
    → desk_with new descriptors ≡ closed_held (seen filters old.device) (desk_with old descriptors) held

-- the bytes that come with an answer
abbrev pub front_due : Result Answer Errno → List ℕ → List ℕ
front_due result out = take (bytes_due result) out

-- whatever bytes were kept, a read gets what was kept in its own slot
abbrev pub ReadsKept : {B : Type 0} → ParentOf B → Descriptors → ℕ → ℕ → List ℕ → Type 0
ReadsKept parent descriptors fd count got = (filters : Filters) (bytes : ℕ → List ℕ) → AllHoldUnread (record_channels parent) bytes
    → got ≡ bytes_read (seen filters parent.device) (desk_with parent descriptors) bytes count (held_by (desk_with parent descriptors) fd)
