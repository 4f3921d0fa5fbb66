-- What holds of the parts of every engine, besides what holds of each part.
use Rattle.std.specs.Prelude.{◌≤◌}
use Rattle.pcm_desk.specs.Own.{HoldApart}
use Rattle.pcm_bus.specs.Slots.{MapAreOf, PlayAreOf}
use Rattle.pcm_vchan.specs.declared.parent.ParentOf.{ParentOf}
use Rattle.pcm_vchan.specs.Parents.{map_channels, play_channels, record_channels}
use Rattle.pcm_vchan.specs.Slots.{RecordAreOf}
use Rattle.pcm_engine.specs.declared.descriptors.Descriptors.{Descriptors}
use Rattle.pcm_engine.specs.declared.limits.TheConstants.{LIFE}
use Rattle.pcm_engine.specs.Desks.{desk_with}
use Rattle.pcm_engine.specs.Life.{KeepsPace}

-- every channel of a parent is of its device
pub record AreOwn {B : Type 0} (parent : ParentOf B) : Type 0 where
  pub playing : PlayAreOf parent.device (play_channels parent)
  pub recording : RecordAreOf parent.device (record_channels parent)
  pub mapped : MapAreOf parent.device (map_channels parent)

-- A parent and descriptors are in order: besides, no two descriptors hold one slot, no count runs ahead, and few frames were handed over.
pub record PartsInOrder {B : Type 0} (parent : ParentOf B) (descriptors : Descriptors) : Type 0 where
  pub own : AreOwn parent
  pub apart : HoldApart (desk_with parent descriptors)
  pub pace : KeepsPace (desk_with parent descriptors)
  pub life : parent.handed ≤ LIFE
