-- What can be asked of a device and its desk without a step.
use Rattle.std.specs.Prelude.{ℕ, ◌-◌, ◌^◌, Bool, true, false, Option, option_map, length, ◌==◌, Result, Ok}
use Rattle.pcm_oss.specs.declared.event.Event.TheVariants.{Write, Read}
use Rattle.pcm_oss.specs.declared.event.Event.{Event}
use Rattle.pcm_oss.specs.declared.event.Way.{Way}
use Rattle.pcm_oss.specs.declared.reply.Answer.{Answer}
use Rattle.pcm_oss.specs.declared.reply.Answer.TheVariants.{Number, Got}
use Rattle.pcm_oss.specs.declared.reply.Errno.{Errno}
use Rattle.pcm_wave.specs.declared.pool.Source.TheVariants.{Inline}
use Rattle.pcm_desk.specs.declared.device.Held.{Held}
use Rattle.pcm_desk.specs.declared.play_book.PlayBook.{PlayBook}
use Rattle.pcm_desk.specs.declared.play_book.PlayState.{PlayState}
use Rattle.pcm_desk.specs.declared.play_book.PlayState.TheVariants as playing
use Rattle.pcm_desk.specs.declared.record_book.RecordBook.{RecordBook}
use Rattle.pcm_desk.specs.declared.run_state.RunState.{RunState}
use Rattle.pcm_desk.specs.declared.run_state.RunState.TheVariants as run_states
use Rattle.pcm_desk.specs.declared.map_book.MapBook.{MapBook}
use Rattle.pcm_desk.specs.declared.opening.Opening.{Opening}
use Rattle.pcm_desk.specs.Device.{DeviceSeen}
use Rattle.pcm_desk.specs.Channels.{by_way, play_rate_at}
use Rattle.pcm_desk.specs.Desk.{Desk, after, group_of, held_by, map_at, play_at, record_at, slot_number}
use Rattle.pcm_desk.specs.PlayBooks.{giving}
use Rattle.pcm_desk.specs.RunStates.{is_unheld}
use Rattle.pcm_rate.specs.declared.rate.Rate.{Rate}
use Rattle.pcm_status.specs.declared.status.ChannelStatus.{ChannelStatus}
use Rattle.pcm_status.specs.declared.status.RunStatus.{RunStatus}
use Rattle.pcm_status.specs.declared.status.RunStatus.TheVariants.{Setup, Primed, Running, Draining}
use Rattle.pcm_status.specs.declared.status.SlotStatus.{SlotStatus}
use Rattle.pcm_status.specs.declared.status.SlotState.{SlotState}
use Rattle.pcm_status.specs.declared.status.SlotState.TheVariants as slots

-- what an event would be answered now
abbrev pub would : DeviceSeen → Desk → Event → Result Answer Errno
would device desk event = (after device desk event).reply

-- an answer counts `bytes` bytes
abbrev pub counts : ℕ → Result Answer Errno → Bool
counts bytes (Ok (Number count)) = count == bytes
counts bytes (Ok (Got count)) = count == bytes
counts bytes result = false

-- ---- a channel that a descriptor holds

-- where its run stands; of a free one, as of one whose run hasn't begun
abbrev pub play_run : PlayState → RunStatus
play_run playing.Free = Setup
play_run playing.Setup = Setup
play_run playing.Primed = Primed
play_run playing.Running = Running
play_run (playing.Draining closed) = Draining

-- the same of a channel that records, and of a mapped one
abbrev pub other_run : RunState → RunStatus
other_run run_states.Free = Setup
other_run run_states.Setup = Setup
other_run run_states.Running = Running

-- by the number of its slot, its opening, its volume, its group and where its run stands
abbrev pub channel_status : Way → ℕ → Opening → ℕ → ℕ → RunStatus → ChannelStatus
channel_status way slot opening volume group run = record {
  way = way;
  slot = slot;
  settings = opening.settings;
  fragments = opening.fragments;
  trigger = opening.trigger;
  volume = volume;
  group = group;
  run = run;
}

-- a channel that records has no volume: the answer is 0
abbrev pub held_status : DeviceSeen → Desk → Held → ChannelStatus
held_status device desk held =
    let number : ℕ = slot_number (length desk.play) held.way held.slot in
    let play : PlayBook = play_at device desk held.slot in
    let recorder : RecordBook = record_at device desk held.slot in
    let area : MapBook = map_at device desk held.slot in
    by_way held.way
    (channel_status held.way number play.opening play.volume (group_of desk held) (play_run play.state))
    (channel_status held.way number recorder.opening 0 (group_of desk held) (other_run recorder.state))
    (channel_status held.way number area.opening area.volume (group_of desk held) (other_run area.state))

-- of a descriptor, if it is open
abbrev pub client_status : DeviceSeen → Desk → ℕ → Option ChannelStatus
client_status device desk fd = option_map (held_status device desk) (held_by desk fd)

-- ---- a slot

-- how many of the frames that are mixed next a book gives still, if no more is written: no mix lasts for 2 ^ 64
abbrev pub still_given : Rate → PlayBook → ℕ
still_given rate book = giving rate (2 ^ 64 - 1) book

-- a slot is free, held, or drains after a close
abbrev pub play_slot : PlayState → SlotState
play_slot playing.Free = slots.Free
play_slot (playing.Draining true) = slots.Closing
play_slot state = slots.Held

abbrev pub taken_slot : Bool → SlotState
taken_slot true = slots.Free
taken_slot false = slots.Held

-- a slot of a way, by its place among these: frames are given by those that play
abbrev pub slot_status : DeviceSeen → Desk → Way → ℕ → SlotStatus
slot_status device desk way place =
    let play : PlayBook = play_at device desk place in
    by_way way
    (record { state = play_slot play.state; frames = still_given (play_rate_at device play) play })
    (record { state = taken_slot (is_unheld (record_at device desk place).state); frames = 0 })
    (record { state = taken_slot (is_unheld (map_at device desk place).state); frames = 0 })

-- ---- readiness

-- a write of a byte would be taken, or a read would get one
abbrev pub is_writable : DeviceSeen → Desk → ℕ → Bool
is_writable device desk fd = counts 1 (would device desk (Write fd Inline 0 1))

abbrev pub is_readable : DeviceSeen → Desk → ℕ → Bool
is_readable device desk fd = counts 1 (would device desk (Read fd 1))
