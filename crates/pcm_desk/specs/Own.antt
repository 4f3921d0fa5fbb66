-- What a client's channel becomes, and each reply to the client, depends on that channel and its own events alone, but for the group that it joins.
use Rattle.std.specs.Prelude.{◌≡◌, ◌≢◌, ◌<◌, ℕ, Bool, true, false, Option, Some, None, Result, OnErr, OnOk, length}
use Rattle.pcm_oss.specs.declared.event.Event.{Event}
use Rattle.pcm_oss.specs.declared.event.Event.TheVariants.{Open, Write, Poke, Read, Ioctl, Join, StartGroup, Close}
use Rattle.pcm_oss.specs.declared.event.Way.{Way}
use Rattle.pcm_oss.specs.declared.reply.Answer.{Answer}
use Rattle.pcm_oss.specs.declared.reply.Errno.{Errno}
use Rattle.pcm_group.specs.Groups.{dissolved}
use Rattle.pcm_desk.specs.declared.play_book.PlayState.{PlayState}
use Rattle.pcm_desk.specs.declared.play_book.PlayState.TheVariants.{Setup}
use Rattle.pcm_desk.specs.declared.device.Held.{Held}
use Rattle.pcm_desk.specs.Device.{DeviceSeen, here_at}
use Rattle.pcm_desk.specs.PlayBooks.{is_primed}
use Rattle.pcm_desk.specs.RunStates.{is_in_setup}
use Rattle.pcm_desk.specs.Channels.{Channel, Mapped, Playing, Recording, by_way, may_be_held, own_turn, starting}
use Rattle.pcm_desk.specs.Desk.{Desk, channel_at, group_of, grouping_at, groups_after, held_by, is_member}

-- The descriptor whose channel an event is of. An interrupt is of all channels, a start of a group is of its members, and what the
-- mixer device is asked is of none.
abbrev pub descriptor_of : Event → Option ℕ
descriptor_of (Open fd way settings) = Some fd
descriptor_of (Write fd source at count) = Some fd
descriptor_of (Poke fd offset at count) = Some fd
descriptor_of (Read fd count) = Some fd
descriptor_of (Ioctl fd request) = Some fd
descriptor_of (Join fd group) = Some fd
descriptor_of (Close fd) = Some fd
descriptor_of event = None

-- how many slots a way has
abbrev pub slots_of : Desk → Way → ℕ
slots_of desk way = by_way way (length desk.play) (length desk.recording) (length desk.mapped)

-- Each open descriptor holds a slot that is there and a channel that may be held, and no two hold one.
pub record HoldApart (desk : Desk) : Type 0 where
  pub within : (fd : ℕ) (held : Held) → held_by desk fd ≡ Some held → held.slot < slots_of desk held.way
  pub taken : (fd : ℕ) (held : Held) (device : DeviceSeen) → held_by desk fd ≡ Some held → may_be_held (channel_at device desk held) ≡ true
  pub apart : (fd other : ℕ) (held theirs : Held) → held_by desk fd ≡ Some held → held_by desk other ≡ Some theirs → held ≡ theirs → fd ≡ other

-- what an event of its own leaves an open descriptor to hold
abbrev pub held_after : Event → Held → Option Held
held_after (Close fd) held = None
held_after _ held = Some held

-- Of one descriptor: what its event leaves of a desk.

-- where it is open, its channel goes by the book of that channel alone, and by what the groups are to it, every other channel stays, and it
-- holds its own until it is closed
pub record GoesAlone (device : DeviceSeen) (event : Event) (old new : Desk) (reply : Result Answer Errno) (fd : ℕ) (held : Held) : Type 0 where
  pub own : channel_at device new held ≡ (own_turn device old.handed (grouping_at device old held) event (channel_at device old held)).book
  pub answer : reply ≡ (own_turn device old.handed (grouping_at device old held) event (channel_at device old held)).reply
  pub until : held_by new fd ≡ held_after event held
  pub groups : new.groups ≡ groups_after event held (grouping_at device old held) old.groups
  pub others : (other : Held) → other ≢ held → channel_at device new other ≡ channel_at device old other

-- where it is shut, every channel stays, be it free or draining after a close, but that of the slot that it holds then
pub record TakesOne (device : DeviceSeen) (old new : Desk) (fd : ℕ) : Type 0 where
  pub others : (other : Held) → fd < length old.descriptors → held_by new fd ≢ Some other → channel_at device new other ≡ channel_at device old other
  pub groups : new.groups ≡ old.groups

pub record GoesByDescriptor (device : DeviceSeen) (event : Event) (old new : Desk) (reply : Result Answer Errno) (fd : ℕ) : Type 0 where
  pub opened : (held : Held) → held_by old fd ≡ Some held → GoesAlone device event old new reply fd held
  pub shut : held_by old fd ≡ None → TakesOne device old new fd
  -- what every other descriptor holds stays, or that it is shut, and so does its channel
  pub holds : (other : ℕ) → other ≢ fd → held_by new other ≡ held_by old other
  pub strangers : (other : ℕ) (theirs : Held) → other ≢ fd → held_by old other ≡ Some theirs → channel_at device new theirs ≡ channel_at device old theirs

-- Of an interrupt, and of what the mixer device is asked: it goes by each channel alone, and leaves what every descriptor holds, or that it is shut, and the groups.
pub record GoesByEach (device : DeviceSeen) (event : Event) (old new : Desk) : Type 0 where
  pub each : (held : Held) → channel_at device new held ≡ (own_turn device old.handed (grouping_at device old held) event (channel_at device old held)).book
  pub passes : (fd : ℕ) → held_by new fd ≡ held_by old fd
  pub groups : new.groups ≡ old.groups

-- Of a start of a group: where it is accepted its members start, and are in none any more; where it is refused nothing changes. Every
-- other channel stays, and what every descriptor holds, or that it is shut.
pub record StartsTogether (device : DeviceSeen) (group : ℕ) (old new : Desk) (reply : Result Answer Errno) : Type 0 where
  pub members : (held : Held) → group_of old held ≡ group → OnOk reply (channel_at device new held ≡ starting device (here_at device old.handed) (channel_at device old held))
  pub groups : OnOk reply (new.groups ≡ dissolved group old.groups)
  pub refused : OnErr reply (new ≡ old)
  pub others : (held : Held) → group_of old held ≢ group → channel_at device new held ≡ channel_at device old held
  pub passes : (fd : ℕ) → held_by new fd ≡ held_by old fd

-- What an event leaves of the channels of a desk, and its reply: no book looks at another, but for those of a group that starts.
abbrev pub IsIsolatedBy : Option ℕ → DeviceSeen → Event → Desk → Desk → Result Answer Errno → Type 0
IsIsolatedBy (Some fd) device event old new reply = GoesByDescriptor device event old new reply fd
IsIsolatedBy None device event old new reply = GoesByEach device event old new

abbrev pub IsIsolated : DeviceSeen → Event → Desk → Desk → Result Answer Errno → Type 0
IsIsolated device (StartGroup fd group) old new reply = StartsTogether device group old new reply
IsIsolated device event old new reply = IsIsolatedBy (descriptor_of event) device event old new reply

-- ---- members of groups

abbrev pub is_waiting : PlayState → Bool
is_waiting Setup = true
is_waiting state = is_primed state

-- A channel waits for the start of its group: it hasn't started, and its trigger is off. A mapped one waits for none.
abbrev pub Waits : Channel → Type 0
Waits (Playing book) = (is_waiting book.state ≡ true) × (book.opening.trigger ≡ false)
Waits (Recording book) = (is_in_setup book.state ≡ true) × (book.opening.trigger ≡ false)
Waits (Mapped book) = ⊥

-- each member of a group does
abbrev pub MembersWait : DeviceSeen → Desk → Type 0
MembersWait device desk = (held : Held) → is_member desk held ≡ true → Waits (channel_at device desk held)
