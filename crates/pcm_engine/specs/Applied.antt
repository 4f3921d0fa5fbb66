-- What one event leaves of a parent and descriptors.
use Rattle.std.specs.Prelude.{◌≡◌, ℕ, ℤ, List, IsErr, length}
use Rattle.pcm_engine.specs.Types.{Event, Filters, Kept, Kind}
use Rattle.pcm_oss.specs.declared.event.Event.TheVariants.{Read, Intr}
use Rattle.pcm_oss.specs.Replies.{Reply}
use Rattle.pcm_desk.specs.Device.{seen}
use Rattle.pcm_desk.specs.Desk.{after}
use Rattle.pcm_vchan.specs.declared.parent.ParentOf.{ParentOf}
use Rattle.pcm_vchan.specs.Parents.{HasBus, map_channels, play_channels, record_channels}
use Rattle.pcm_vchan.specs.Slots.{AllHoldUnread}
use Rattle.pcm_engine.specs.declared.descriptors.Descriptors.{Descriptors}
use Rattle.pcm_engine.specs.Desks.{desk_with}
use Rattle.pcm_engine.specs.Invariants.{AreOwn}
use Rattle.pcm_engine.specs.Steps.{BusMoves, ChannelsMove, MapsMove, RecordersMove, bytes_answered}

-- an event is answered by the rules alone: it gets no bytes, and the device takes no frames by it
abbrev pub IsAnsweredAlone : Event → Type 0
IsAnsweredAlone (Read fd count) = ⊥
IsAnsweredAlone (Intr n) = ⊥
IsAnsweredAlone event = Unit {0}

-- By these filters the desk and the reply are those of the rules, and so are the bytes of the reply, whatever bytes were kept. A
-- refusal changes nothing.
pub record FollowsRules {B : Type 0} (kept : B → Kept) (filters : Filters) (event : Event) (old : ParentOf B) (before : Descriptors) (new : ParentOf B) (left : Descriptors) (told : Reply) : Type 0 where
  pub desk : desk_with new left ≡ (after (seen filters old.device) (desk_with old before) event).desk
  pub result : told.result ≡ (after (seen filters old.device) (desk_with old before) event).reply
  pub refused : IsErr told.result → (new ≡ old) × (left ≡ before)
  pub answered : (bytes : ℕ → List ℕ) → AllHoldUnread (record_channels old) bytes
      → told.bytes ≡ bytes_answered (seen filters old.device) (desk_with old before) bytes event

-- An event that brings these bytes and samples is applied: it follows the rules, every channel is its device's still and moves as the event says, and so
-- do the bus and the device's ring.
pub record Applied {B : Type 0} (kind : B → Kind) (kept : B → Kept) (filters : Filters) (event : Event) (bytes : List ℕ) (samples : List ℤ) (old : ParentOf B) (before : Descriptors) (new : ParentOf B) (left : Descriptors) (told : Reply) : Type 0 where
  pub rules : FollowsRules kept filters event old before new left told
  pub device : new.device ≡ old.device
  pub own : AreOwn new
  pub slots : length (play_channels new) ≡ length (play_channels old)
  pub recorders_slots : length (record_channels new) ≡ length (record_channels old)
  pub maps_slots : length (map_channels new) ≡ length (map_channels old)
  pub channels : ChannelsMove kind kept (seen filters old.device) bytes old.handed event (play_channels old) (play_channels new)
  pub recorders : RecordersMove kind kept (seen filters old.device) samples event (record_channels old) (record_channels new)
  pub maps : MapsMove kind kept filters old.device bytes (desk_with old before) event (map_channels old) (map_channels new)
  pub bus : HasBus kept (seen filters old.device) new
  pub turns : BusMoves kept (seen filters old.device) old.handed old.mixer event (play_channels old) (map_channels old) old.bus.chain new.bus.chain old.ring.bytes new.ring.bytes
