-- The desk: the books by slot, what descriptors hold, groups, volumes, and how far the device is. An event gives a new desk and a reply.
use Rattle.std.specs.Prelude.{ℕ, ◌+◌, Bool, not, nat_lt, Option, Some, None, is_some, if◌then◌else◌, List, length, map, position, replicate, slice_index_or, slice_set, Result, Ok, Err}
use Rattle.pcm_format.specs.declared.settings.Settings.{Settings}
use Rattle.pcm_oss.specs.declared.event.Event.{Event}
use Rattle.pcm_oss.specs.declared.event.Event.TheVariants.{Open, Write, Poke, Read, Ioctl, Join, StartGroup, Close, Mixer, Intr}
use Rattle.pcm_oss.specs.declared.event.Way.{Way}
use Rattle.pcm_oss.specs.declared.mix_request.MixRequest.{MixRequest}
use Rattle.pcm_oss.specs.declared.request.Request.{Request}
use Rattle.pcm_oss.specs.declared.request.Request.TheVariants.{Sync}
use Rattle.pcm_oss.specs.declared.reply.Answer.{Answer}
use Rattle.pcm_oss.specs.declared.reply.Answer.TheVariants.{Done, Number}
use Rattle.pcm_oss.specs.declared.reply.Errno.{Errno}
use Rattle.pcm_oss.specs.declared.reply.Errno.TheVariants.{BadF, Busy, Exist, Inval}
use Rattle.pcm_group.specs.declared.sync_groups.Groups.{Groups}
use Rattle.pcm_group.specs.Groups.{all_in, change_in, dissolved, group_at, groups_joined, is_used, joining, may_join, no_groups, with_group}
use Rattle.pcm_mixdev.specs.Mixers.{Levels, full_mixer, mixer_after, mixer_reply}
use Rattle.pcm_desk.specs.declared.play_book.PlayBook.{PlayBook}
use Rattle.pcm_desk.specs.declared.play_book.PlayState.TheVariants.{Free}
use Rattle.pcm_desk.specs.declared.record_book.RecordBook.{RecordBook}
use Rattle.pcm_desk.specs.declared.run_state.RunState.TheVariants as run_states
use Rattle.pcm_desk.specs.declared.map_book.MapBook.{MapBook}
use Rattle.pcm_desk.specs.declared.device.Held.{Held}
use Rattle.pcm_desk.specs.declared.here.Here.{Here}
use Rattle.pcm_desk.specs.declared.limits.TheConstants.{DESCRIPTORS}
use Rattle.pcm_desk.specs.declared.turn.Turn.{Turn}
use Rattle.pcm_desk.specs.Device.{DeviceSeen, device_settings, here_at, mix_settings, mixed_slots, map_slots, play_slots, record_slots}
use Rattle.pcm_desk.specs.PlayBooks.{is_play_free, play_begun, play_is_ready}
use Rattle.pcm_desk.specs.RunStates.{is_unheld}
use Rattle.pcm_desk.specs.RecordBooks.{record_begun}
use Rattle.pcm_desk.specs.MapBooks.{map_begun}
use Rattle.pcm_desk.specs.Channels.{Channel, Grouping, Mapped, Playing, Recording, by_way, capturing, channel_begun, join_result, map_passing, mixed_by, own_turn, play_passing, play_starting, record_starting, rests}

pub record Desk : Type 0 where
  -- by slot: those that play
  pub play : List PlayBook
  -- by slot: those that record
  pub recording : List RecordBook
  -- by slot: those whose area is mapped
  pub mapped : List MapBook
  -- by descriptor: the channel that it holds, if it is open
  pub descriptors : List (Option Held)
  -- which channels start together
  pub groups : Groups
  -- the volumes and mutes of the mixer device
  pub mixer : Levels
  -- the frames of all interrupts so far
  pub handed : ℕ
  -- the frames mixed so far
  pub mixed : ℕ

-- a desk and the reply after an event
pub record DeskTurn : Type 0 where
  pub desk : Desk
  pub reply : Result Answer Errno

-- a book that nobody has opened yet
abbrev pub play_unopened : DeviceSeen → PlayBook
play_unopened device = record (play_begun (mix_settings device)) { state = Free }

-- a record book that nobody has opened yet
abbrev pub record_unopened : DeviceSeen → RecordBook
record_unopened device = record (record_begun (device_settings device)) { state = run_states.Free }

-- a mapped book that nobody has opened yet
abbrev pub map_unopened : DeviceSeen → MapBook
map_unopened device = record (map_begun (mix_settings device)) { state = run_states.Free }

-- before the first event
abbrev pub desk_at_start : DeviceSeen → Desk
desk_at_start device = record {
  play = replicate (play_slots device) (play_unopened device);
  recording = replicate (record_slots device) (record_unopened device);
  mapped = replicate (map_slots device) (map_unopened device);
  descriptors = replicate DESCRIPTORS None;
  groups = no_groups;
  mixer = full_mixer;
  handed = 0;
  mixed = 0;
}

-- where the mix and the device are
abbrev pub desk_here : DeviceSeen → Desk → Here
desk_here device desk = here_at device desk.handed

-- what a descriptor holds
abbrev pub held_by : Desk → ℕ → Option Held
held_by desk fd = slice_index_or desk.descriptors fd None

-- the least slot that is free
abbrev pub least_free_play : List PlayBook → Option ℕ
least_free_play books = position (λ book. is_play_free book.state) books

-- the book of a slot
abbrev pub play_at : DeviceSeen → Desk → ℕ → PlayBook
play_at device desk slot = slice_index_or desk.play slot (play_unopened device)

-- the least slot for recording that is free
abbrev pub least_free_record : List RecordBook → Option ℕ
least_free_record books = position (λ book. is_unheld book.state) books

-- the record book of a slot
abbrev pub record_at : DeviceSeen → Desk → ℕ → RecordBook
record_at device desk slot = slice_index_or desk.recording slot (record_unopened device)

-- the least slot for a mapped area that is free
abbrev pub least_free_map : List MapBook → Option ℕ
least_free_map books = position (λ book. is_unheld book.state) books

-- the mapped book of a slot
abbrev pub map_at : DeviceSeen → Desk → ℕ → MapBook
map_at device desk slot = slice_index_or desk.mapped slot (map_unopened device)

-- after a refusal the desk is the old one
abbrev pub refusing : Desk → Errno → DeskTurn
refusing desk errno = record { desk = desk; reply = Err errno }

-- ---- the channel of a descriptor

-- the channel with this way and slot
abbrev pub channel_at : DeviceSeen → Desk → Held → Channel
channel_at device desk held = by_way held.way (Playing (play_at device desk held.slot)) (Recording (record_at device desk held.slot)) (Mapped (map_at device desk held.slot))

-- the books of each way, once a slot has this channel, which is of one of the ways
abbrev pub play_with : Channel → ℕ → List PlayBook → List PlayBook
play_with (Playing book) slot books = slice_set books slot book
play_with channel slot books = books

abbrev pub record_with : Channel → ℕ → List RecordBook → List RecordBook
record_with (Recording book) slot books = slice_set books slot book
record_with channel slot books = books

abbrev pub map_with : Channel → ℕ → List MapBook → List MapBook
map_with (Mapped book) slot books = slice_set books slot book
map_with channel slot books = books

-- a slot has this channel
abbrev pub with_channel_at : Desk → ℕ → Channel → Desk
with_channel_at desk slot channel = record desk {
  play = play_with channel slot desk.play;
  recording = record_with channel slot desk.recording;
  mapped = map_with channel slot desk.mapped;
}

abbrev pub with_descriptor : Desk → ℕ → Option Held → Desk
with_descriptor desk fd held = record desk { descriptors = slice_set desk.descriptors fd held }

-- ---- opens

-- the least slot of a way that is free
abbrev pub least_free : Desk → Way → Option ℕ
least_free desk way = by_way way (least_free_play desk.play) (least_free_record desk.recording) (least_free_map desk.mapped)

-- The number of a slot in replies, beside `slots` that play: those of mapped areas are numbered after these.
abbrev pub slot_number : ℕ → Way → ℕ → ℕ
slot_number slots way slot = by_way way slot slot (slots + slot)

-- the channel begins at its slot, and the descriptor holds it
abbrev pub opened_at : Desk → ℕ → Held → Settings → Desk
opened_at desk fd held settings = with_descriptor (with_channel_at desk held.slot (channel_begun held.way settings)) fd (Some held)

-- an open takes the least free slot of its way
abbrev pub open_at : Desk → ℕ → Way → Settings → Option ℕ → DeskTurn
open_at desk fd way settings None = refusing desk Busy
open_at desk fd way settings (Some slot) = record {
  desk = opened_at desk fd (record { way = way; slot = slot }) settings;
  reply = Ok (Number (slot_number (length desk.play) way slot));
}

-- an open descriptor is refused first, and then a desk with no free slot
abbrev pub open_turn : Desk → ℕ → Way → Settings → DeskTurn
open_turn desk fd way settings = if is_some (held_by desk fd) then refusing desk Exist else open_at desk fd way settings (least_free desk way)

-- ---- groups

-- the group of a channel, where 0 is none
abbrev pub group_of : Desk → Held → ℕ
group_of desk held = group_at desk.groups held.way held.slot

-- a channel is a member of a group
abbrev pub is_member : Desk → Held → Bool
is_member desk held = nat_lt 0 (group_of desk held)

-- what the groups mean to a channel
abbrev pub grouping_at : DeviceSeen → Desk → Held → Grouping
grouping_at device desk held = record {
  member = is_member desk held;
  joins = λ group. join_result (joining desk.groups held.way held.slot group) (rests (channel_at device desk held));
}

-- the groups once a channel is a member of none
abbrev pub leaving : Held → Groups → Groups
leaving held groups = with_group groups held.way held.slot 0

-- a sync leaves the group
abbrev pub left_by : Request → Held → Groups → Groups
left_by Sync held groups = leaving held groups
left_by request held groups = groups

-- the groups after an event of a channel: a sync and a close leave its own
abbrev pub groups_after : Event → Held → Grouping → Groups → Groups
groups_after (Ioctl fd request) held grouping groups = left_by request held groups
groups_after (Join fd group) held grouping groups = groups_joined groups held.way held.slot (grouping.joins group)
groups_after (Close fd) held grouping groups = leaving held groups
groups_after _ held grouping groups = groups

-- all members of a group start at once, and are in none any more
abbrev pub group_started : DeviceSeen → Desk → ℕ → Desk
group_started device desk group = record desk {
  play = change_in group (play_starting device (desk_here device desk)) desk.groups.play desk.play;
  recording = change_in group record_starting desk.groups.recording desk.recording;
  groups = dissolved group desk.groups;
}

-- a group without members is refused, and then one with a member that plays and isn't ready
abbrev pub start_turn : DeviceSeen → Desk → ℕ → DeskTurn
start_turn device desk group =
    if not (is_used desk.groups group) then refusing desk Inval
    else if not (all_in group play_is_ready desk.groups.play desk.play) then refusing desk Busy
    else record { desk = group_started device desk group; reply = Ok Done }

-- a channel starts a group if it may join one
abbrev pub start_on : DeviceSeen → Option Held → Desk → ℕ → DeskTurn
start_on device None desk group = refusing desk BadF
start_on device (Some held) desk group = if may_join held.way then start_turn device desk group else refusing desk Inval

-- ---- an event of a channel, and one of all

-- what the descriptors hold after an event: a close gives its own back
abbrev pub descriptors_after : Event → List (Option Held) → List (Option Held)
descriptors_after (Close fd) descriptors = slice_set descriptors fd None
descriptors_after _ descriptors = descriptors

-- an event of a descriptor: the channel that it holds has its turn, and is put back
abbrev pub channel_turn : DeviceSeen → Desk → Event → Option Held → DeskTurn
channel_turn device desk event None = refusing desk BadF
channel_turn device desk event (Some held) =
    let grouping : Grouping = grouping_at device desk held in
    let turn : Turn Channel = own_turn device desk.handed grouping event (channel_at device desk held) in
    record {
      desk = record (with_channel_at desk held.slot turn.book) {
        descriptors = descriptors_after event desk.descriptors;
        groups = groups_after event held grouping desk.groups;
      };
      reply = turn.reply;
    }

-- an interrupt of n frames passes them to the device, mixes what stands for them, ends the runs that are over, and captures as many frames
abbrev pub interrupt_turn : DeviceSeen → Desk → ℕ → DeskTurn
interrupt_turn device desk n =
    let frames = mixed_by device desk.handed n in
    record {
      desk = record desk {
        play = map (play_passing device desk.handed n) desk.play;
        recording = map (capturing device n) desk.recording;
        mapped = map (map_passing device desk.handed n) desk.mapped;
        handed = desk.handed + n;
        mixed = desk.mixed + frames;
      };
      reply = Ok (Number n);
    }

-- ---- the mixer device

-- a request of it, beside the slots that are mixed, changes nothing else
abbrev pub mixer_turn : DeviceSeen → Desk → MixRequest → DeskTurn
mixer_turn device desk request = record {
  desk = record desk { mixer = mixer_after (mixed_slots device) request desk.mixer };
  reply = mixer_reply (mixed_slots device) request desk.mixer;
}

-- the volumes and mutes after an event: no other event sets them
abbrev pub mixer_by : DeviceSeen → Event → Levels → Levels
mixer_by device (Mixer request) mixer = mixer_after (mixed_slots device) request mixer
mixer_by device event mixer = mixer

-- what an event does
abbrev pub after : DeviceSeen → Desk → Event → DeskTurn
after device desk (Open fd way settings) = open_turn desk fd way settings
after device desk (Write fd source at length) = channel_turn device desk (Write fd source at length) (held_by desk fd)
after device desk (Poke fd offset at length) = channel_turn device desk (Poke fd offset at length) (held_by desk fd)
after device desk (Read fd length) = channel_turn device desk (Read fd length) (held_by desk fd)
after device desk (Ioctl fd request) = channel_turn device desk (Ioctl fd request) (held_by desk fd)
after device desk (Join fd group) = channel_turn device desk (Join fd group) (held_by desk fd)
after device desk (StartGroup fd group) = start_on device (held_by desk fd) desk group
after device desk (Close fd) = channel_turn device desk (Close fd) (held_by desk fd)
after device desk (Mixer request) = mixer_turn device desk request
after device desk (Intr frames) = interrupt_turn device desk frames
