-- What is made of bytes on the way to an engine.
use Rattle.std.specs.Prelude.{◌≡◌, ◌<◌, ◌≤◌, ◌*◌, ◌^◌, ℕ, true, List}
use Rattle.std.specs.List.{list_all}
use Rattle.pcm_engine.specs.Types.{Device, Filters, Kept, Kind}
use Rattle.pcm_oss.specs.declared.fragments.TheConstants.{RING_BYTES}
use Rattle.pcm_desk.specs.Device.{seen}
use Rattle.pcm_bus.specs.Handovers.{IsPlannedBy}
use Rattle.pcm_chain.specs.Chains.{IsOfKinds}
use Rattle.pcm_save.specs.Outputs.{HandedFits}
use Rattle.pcm_save.specs.Parents.{parent_state, HaveAllBoxes, IsWholeParent}
use Rattle.pcm_vchan.specs.declared.parent.ParentOf.{ParentOf}
use Rattle.pcm_vchan.specs.Parents.{here_of, map_channels, play_channels, record_channels, AreServed, HasBus}
use Rattle.pcm_engine.specs.declared.descriptors.Descriptors.{Descriptors}
use Rattle.pcm_engine.specs.declared.limits.TheConstants.{LIFE}
use Rattle.pcm_engine.specs.Judged.{is_held_or_shut, map_keeps_pace, play_is_in_place, play_waits, record_keeps_pace, record_waits, WaitInGroups}

-- The bytes spell a parent of this device that has given so many frames. Its channels are ready, and so is its bus.
pub record IsParentFrom {B : Type 0} (kind : B → Kind) (kept : B → Kept) (filters : Filters) (device : Device) (handed : ℕ) (bytes : List ℕ) (parent : ParentOf B) : Type 0 where
  pub device_is : parent.device ≡ device
  pub handed_is : parent.handed ≡ handed
  pub told : parent_state kept parent ≡ bytes
  pub served : AreServed kind kept filters parent
  pub bus : HasBus kept (seen filters device) parent
  pub whole : IsWholeParent parent

-- few frames were handed over and mixed
pub record CanBeJudged {B : Type 0} (parent : ParentOf B) : Type 0 where
  pub handed : parent.handed ≤ LIFE
  pub mixed : parent.mixed < 2 ^ 53

-- A parent and descriptors passed all tests: the channels are where the mix and the device are, each descriptor holds one that is there, and the
-- members of groups wait.
pub record AreInPlace {B : Type 0} (parent : ParentOf B) (descriptors : Descriptors) : Type 0 where
  pub playing : list_all (play_is_in_place (here_of parent)) (play_channels parent) ≡ true
  pub recording : list_all (λ channel. record_keeps_pace parent.handed (RING_BYTES * parent.handed) channel.book) (record_channels parent) ≡ true
  pub mapped : list_all (λ channel. map_keeps_pace parent.mixed channel.book) (map_channels parent) ≡ true
  pub taken : list_all (is_held_or_shut parent) descriptors.held.value ≡ true
  pub players : WaitInGroups (λ channel. play_waits channel.book) descriptors.groups.play (play_channels parent)
  pub recorders : WaitInGroups (λ channel. record_waits channel.book) descriptors.groups.recording (record_channels parent)

-- a parent was made new, and can be loaded where so many frames were handed over
pub record IsMadeFor {B : Type 0} (kind : B → Kind) (filters : Filters) (handed : ℕ) (parent : ParentOf B) : Type 0 where
  pub bus_kinds : IsOfKinds kind parent.bus.chain
  pub planned : IsPlannedBy (seen filters parent.device) parent.bus.chain
  pub fits : HandedFits filters handed parent
  pub boxes : HaveAllBoxes kind parent
