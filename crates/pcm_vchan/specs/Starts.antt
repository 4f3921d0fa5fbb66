-- What the start of a group leaves of the channels of a device.
use Rattle.std.specs.Prelude.{ℕ, ◌+◌, ◌^◌, ◌<◌, ◌≤◌, Bool, ◌==◌, if◌then◌else◌, List, [], length, slice_index_or}
use Rattle.pcm_feeder.specs.declared.kind.Kind.{Kind}
use Rattle.pcm_desk.specs.declared.here.Here.{Here}
use Rattle.pcm_feeder.specs.Filters.{Filters}
use Rattle.pcm_feeder.specs.Kept.{Kept}
use Rattle.pcm_feeder.specs.Racks.{HaveKinds}
use Rattle.pcm_chain.specs.Chains.{boxes_in}
use Rattle.pcm_oss.specs.declared.event.TheConstants.{SLOTS}
use Rattle.pcm_desk.specs.Device.{seen}
use Rattle.pcm_desk.specs.Channels.{play_starting, record_starting}
use Rattle.pcm_play.specs.declared.channel.PlayChannelOf.{PlayChannelOf}
use Rattle.pcm_play.specs.Channels.{IsPlayHere, IsPlayServed, PlayMoves}
use Rattle.pcm_record.specs.declared.channel.RecordChannelOf.{RecordChannelOf}
use Rattle.pcm_record.specs.Channels.{IsRecordServed, RecordMoves}
use Rattle.pcm_vchan.specs.Slots.{ChannelMoves}

-- a group, and the channels among which its members that play are
pub record AreAsked {B : Type 0} (group : ℕ) (channels : List (PlayChannelOf B)) : Type 0 where
  pub few : length channels ≤ SLOTS
  pub some : 0 < group

-- a slot is in the group
abbrev pub is_in : List ℕ → ℕ → ℕ → Bool
is_in slots group slot = slice_index_or slots slot 0 == group

-- what holds of the channel of each slot, before and after
abbrev pub EachAt : {X : Type 0} → (ℕ → X → X → Type 0) → List X → List X → Type 0
EachAt {X} how old new = (slot : ℕ) (other : X) → slot < length old → how slot (slice_index_or old slot other) (slice_index_or new slot other)

-- a channel that plays may be asked to start where the mix and the device are: it has the boxes of a rack, its chain goes by its plan
-- unless it is free, and its counts have room
pub record MayStart {B : Type 0} (kind : B → Kind) (filters : Filters) (here : Here) (channel : PlayChannelOf B) : Type 0 where
  pub kinds : HaveKinds kind (boxes_in channel.path.chain)
  pub planned : IsPlayServed filters channel
  pub place : IsPlayHere filters here channel
  pub counted : channel.book.done + channel.book.written < 2 ^ 64

-- what is left of it: where it is a member it starts, else it stays
abbrev pub Starts : {B : Type 0} → (B → Kind) → (B → Kept) → Filters → Here → Bool → PlayChannelOf B → PlayChannelOf B → Type 0
Starts kind kept filters here member old new = ChannelMoves (λ channel. channel.path) (λ channel. channel.book)
    (if member then play_starting (seen filters old.path.device) here old.book else old.book) (PlayMoves kind kept filters [] 0) old new

-- and of a channel that records
pub record MayRecord {B : Type 0} (kind : B → Kind) (filters : Filters) (channel : RecordChannelOf B) : Type 0 where
  pub kinds : HaveKinds kind (boxes_in channel.path.chain)
  pub planned : IsRecordServed filters channel

abbrev pub Records : {B : Type 0} → (B → Kind) → (B → Kept) → Filters → Bool → RecordChannelOf B → RecordChannelOf B → Type 0
Records kind kept filters member old new = ChannelMoves (λ channel. channel.path) (λ channel. channel.book)
    (if member then record_starting old.book else old.book) (RecordMoves kind kept filters [] 0) old new
