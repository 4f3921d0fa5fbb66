-- A channel, whatever its way: what each event does to it, and its reply. These rules are defined here alone; a desk finds the channel
-- that a descriptor holds, and puts it back.
use Rattle.std.specs.Prelude.{ℕ, zero, suc, ◌+◌, ◌-◌, Bool, true, false, not, if◌then◌else◌, Option, Some, None, Result, Ok, Err}
use Rattle.pcm_format.specs.declared.settings.Settings.{Settings}
use Rattle.pcm_oss.specs.declared.event.Event.{Event}
use Rattle.pcm_oss.specs.declared.event.Event.TheVariants.{Open, Write, Poke, Read, Ioctl, Join, StartGroup, Close, Mixer, Intr}
use Rattle.pcm_oss.specs.declared.event.Way.{Way}
use Rattle.pcm_oss.specs.declared.event.Way.TheVariants.{Play, Record, Map}
use Rattle.pcm_oss.specs.declared.request.Request.{Request}
use Rattle.pcm_oss.specs.declared.request.Request.TheVariants.{SetTrigger}
use Rattle.pcm_oss.specs.declared.reply.Answer.TheVariants.{Number}
use Rattle.pcm_oss.specs.declared.reply.Errno.{Errno}
use Rattle.pcm_oss.specs.declared.reply.Errno.TheVariants.{Busy, Exist, Inval}
use Rattle.pcm_rate.specs.declared.rate.Rate.{Rate}
use Rattle.pcm_desk.specs.declared.play_book.PlayBook.{PlayBook}
use Rattle.pcm_desk.specs.declared.play_book.PlayState.{PlayState}
use Rattle.pcm_desk.specs.declared.play_book.PlayState.TheVariants.{Free, Draining}
use Rattle.pcm_desk.specs.declared.record_book.RecordBook.{RecordBook}
use Rattle.pcm_desk.specs.declared.map_book.MapBook.{MapBook}
use Rattle.pcm_desk.specs.declared.here.Here.{Here}
use Rattle.pcm_desk.specs.declared.turn.Turn.{Turn}
use Rattle.pcm_desk.specs.Device.{DeviceSeen, here_at, mix_settings, mixed_for, passed_for, play_rate_between, record_rate_between}
use Rattle.pcm_desk.specs.BookTurns.{doing, refused, telling}
use Rattle.pcm_desk.specs.Triggers.{both_bits, has_other_bits}
use Rattle.pcm_desk.specs.PlayBooks.{close_turn, is_play_free, is_play_setup, play_begun, play_settled, refilled, write_turn}
use Rattle.pcm_desk.specs.PlayRequests.{play_ask}
use Rattle.pcm_desk.specs.RecordBooks as records
use Rattle.pcm_desk.specs.RunStates.{is_unheld, is_in_setup}
use Rattle.pcm_desk.specs.RecordBooks.{record_begun}
use Rattle.pcm_desk.specs.RecordRequests.{record_ask}
use Rattle.pcm_desk.specs.MapBooks.{map_begun, map_closed, map_refilled, poke_turn}
use Rattle.pcm_desk.specs.MapRequests.{map_ask}

-- the book of a channel, whatever its way
pub data Channel : Type 0 where
  Playing : PlayBook → Channel
  Recording : RecordBook → Channel
  Mapped : MapBook → Channel

-- by the way of a channel: first what is so of one that plays, then of one that records, then of a mapped one
abbrev pub by_way : {X : Type 0} → Way → X → X → X → X
by_way Play play recording mapped = play
by_way Record play recording mapped = recording
by_way Map play recording mapped = mapped

abbrev pub way_of : Channel → Way
way_of (Playing book) = Play
way_of (Recording book) = Record
way_of (Mapped book) = Map

-- a channel whose opening begins
abbrev pub channel_begun : Way → Settings → Channel
channel_begun way settings = by_way way (Playing (play_begun settings)) (Recording (record_begun settings)) (Mapped (map_begun settings))

-- no descriptor has it, and it has nothing left to play
abbrev pub is_free : Channel → Bool
is_free (Playing book) = is_play_free book.state
is_free (Recording book) = is_unheld book.state
is_free (Mapped book) = is_unheld book.state

-- it has no bytes of a run: it is in Setup
abbrev pub rests : Channel → Bool
rests (Playing book) = is_play_setup book.state
rests (Recording book) = is_in_setup book.state
rests (Mapped book) = is_in_setup book.state

-- the state of a channel that plays and that a descriptor may hold: it isn't free, and doesn't drain after a close
abbrev pub is_held : PlayState → Bool
is_held Free = false
is_held (Draining closed) = not closed
is_held state = true

-- a descriptor may hold this channel
abbrev pub may_be_held : Channel → Bool
may_be_held (Playing book) = is_held book.state
may_be_held channel = not (is_free channel)

-- the rate between a book and the mix
abbrev pub play_rate_at : DeviceSeen → PlayBook → Rate
play_rate_at device book = play_rate_between device book.opening.settings

-- the rate between the device and a record book
abbrev pub record_rate_at : DeviceSeen → RecordBook → Rate
record_rate_at device book = record_rate_between device book.opening.settings

-- the rate between a mapped book and the mix
abbrev pub map_rate_at : DeviceSeen → MapBook → Rate
map_rate_at device book = play_rate_between device book.opening.settings

-- ---- writes, pokes and reads

-- a turn of a book, as one of its channel
abbrev pub turned_as : {B : Type 0} → (B → Channel) → Turn B → Turn Channel
turned_as channel turn = record { book = channel turn.book; reply = turn.reply }

-- a write, which a channel takes that plays, and no other
abbrev pub own_write : Here → ℕ → Channel → Turn Channel
own_write here count (Playing book) = turned_as Playing (write_turn here count book)
own_write here count channel = refused Inval channel

-- a poke, which a mapped area takes, and no other channel
abbrev pub own_poke : ℕ → ℕ → Channel → Turn Channel
own_poke offset count (Mapped book) = turned_as Mapped (poke_turn offset count book)
own_poke offset count channel = refused Inval channel

-- a read, which gets something of a recording, and of no other
abbrev pub own_read : ℕ → Channel → Turn Channel
own_read count (Recording book) = turned_as Recording (records.read_turn count book)
own_read count channel = refused Inval channel

-- ---- requests

-- of a channel that plays, where the mix and the device are
abbrev pub asking : DeviceSeen → Here → Request → PlayBook → Turn PlayBook
asking device here request book = play_ask (play_rate_at device book) (mix_settings device).rate here request book

-- of a channel, as of one of no group
abbrev pub own_ioctl : DeviceSeen → Here → Request → Channel → Turn Channel
own_ioctl device here request (Playing book) = turned_as Playing (asking device here request book)
own_ioctl device here request (Recording book) = turned_as Recording (record_ask request book)
own_ioctl device here request (Mapped book) = turned_as Mapped (map_ask request book)

-- what the groups mean to a channel: whether it is a member of one, and what a request to join a group gives it
pub record Grouping : Type 0 where
  pub member : Bool
  pub joins : ℕ → Result ℕ Errno

-- what they mean to a channel that joins none
abbrev pub ungrouped : Grouping
ungrouped = record { member = false; joins = λ group. Err Busy }

-- a member's trigger can't be set: it starts with its group
abbrev pub member_refusal : Bool → Request → Option Errno
member_refusal true (SetTrigger bits) = Some (if has_other_bits bits then Inval else Busy)
member_refusal member request = None

-- a request, unless it is refused
abbrev pub own_request : DeviceSeen → Here → Request → Option Errno → Channel → Turn Channel
own_request device here request (Some errno) channel = refused errno channel
own_request device here request None channel = own_ioctl device here request channel

-- what a join gives: what the groups say, where the channel has no bytes of a run
abbrev pub join_result : Result ℕ Errno → Bool → Result ℕ Errno
join_result (Err errno) resting = Err errno
join_result (Ok group) resting = if resting then Ok group else Err Busy

-- a join sets the trigger off
abbrev pub own_join : DeviceSeen → Here → Result ℕ Errno → Channel → Turn Channel
own_join device here (Err errno) channel = refused errno channel
own_join device here (Ok group) channel = telling (Number group) (own_ioctl device here (SetTrigger 0) channel).book

-- a member that starts has its trigger set on
abbrev pub play_starting : DeviceSeen → Here → PlayBook → PlayBook
play_starting device here book = (asking device here (SetTrigger both_bits) book).book

abbrev pub record_starting : RecordBook → RecordBook
record_starting book = (record_ask (SetTrigger both_bits) book).book

-- a member of a group starts where the mix and the device are; a mapped channel is a member of none
abbrev pub starting : DeviceSeen → Here → Channel → Channel
starting device here (Playing book) = Playing (play_starting device here book)
starting device here (Recording book) = Recording (record_starting book)
starting device here (Mapped book) = Mapped book

-- ---- closes and interrupts

-- the book of a channel that plays after a close
abbrev pub closing : DeviceSeen → Here → PlayBook → PlayBook
closing device here book = close_turn (play_rate_at device book) here book

abbrev pub own_close : DeviceSeen → Here → Channel → Channel
own_close device here (Playing book) = Playing (closing device here book)
own_close device here (Recording book) = Recording (records.closed book)
own_close device here (Mapped book) = Mapped (map_closed book)

-- how many frames an interrupt of n mixes after `handed` frames: those that the n need beside what is mixed
abbrev pub mixed_by : DeviceSeen → ℕ → ℕ → ℕ
mixed_by device handed n = mixed_for device (handed + n) - mixed_for device handed

-- a book once `frames` more were mixed, after `mixed`; where nothing is mixed it stays
abbrev pub mixing : DeviceSeen → ℕ → ℕ → PlayBook → PlayBook
mixing device mixed zero book = book
mixing device mixed (suc frames) book = refilled (play_rate_at device book) mixed (suc frames) book

-- a book once `handed` frames have been given to the device: a run that is over ends
abbrev pub settling : DeviceSeen → ℕ → PlayBook → PlayBook
settling device handed book = play_settled (play_rate_at device book) (passed_for device handed) book

-- a book after an interrupt of n frames, which comes after `handed`
abbrev pub play_passing : DeviceSeen → ℕ → ℕ → PlayBook → PlayBook
play_passing device handed n book = settling device (handed + n) (mixing device (mixed_for device handed) (mixed_by device handed n) book)

-- a record book once n frames were captured
abbrev pub capturing : DeviceSeen → ℕ → RecordBook → RecordBook
capturing device n book = records.captured (record_rate_at device book) n book

-- a mapped book once `frames` were mixed; where nothing is mixed it stays
abbrev pub map_mixing : DeviceSeen → ℕ → MapBook → MapBook
map_mixing device zero book = book
map_mixing device (suc frames) book = map_refilled (map_rate_at device book) (suc frames) book

-- a mapped book after an interrupt of n frames, which comes after `handed`
abbrev pub map_passing : DeviceSeen → ℕ → ℕ → MapBook → MapBook
map_passing device handed n book = map_mixing device (mixed_by device handed n) book

-- a channel after an interrupt of n frames, which comes after `handed`
abbrev pub passing : DeviceSeen → ℕ → ℕ → Channel → Channel
passing device handed n (Playing book) = Playing (play_passing device handed n book)
passing device handed n (Recording book) = Recording (capturing device n book)
passing device handed n (Mapped book) = Mapped (map_passing device handed n book)

-- ---- an event

-- A channel and the reply after an event of its descriptor, or after an interrupt, which comes after `handed` frames. A descriptor
-- that is open can't be opened. The groups have a part in a join and a trigger alone.
abbrev pub own_turn : DeviceSeen → ℕ → Grouping → Event → Channel → Turn Channel
own_turn device handed grouping (Open fd way settings) channel = refused Exist channel
own_turn device handed grouping (Write fd source at count) channel = own_write (here_at device handed) count channel
own_turn device handed grouping (Poke fd offset at count) channel = own_poke offset count channel
own_turn device handed grouping (Read fd count) channel = own_read count channel
own_turn device handed grouping (Ioctl fd request) channel =
    own_request device (here_at device handed) request (member_refusal grouping.member request) channel
own_turn device handed grouping (Join fd group) channel = own_join device (here_at device handed) (grouping.joins group) channel
own_turn device handed grouping (StartGroup fd group) channel = doing channel
own_turn device handed grouping (Close fd) channel = doing (own_close device (here_at device handed) channel)
own_turn device handed grouping (Mixer request) channel = doing channel
own_turn device handed grouping (Intr n) channel = telling (Number n) (passing device handed n channel)
