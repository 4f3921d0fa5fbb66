-- The groups of all slots, as a row of numbers.
use Rattle.std.specs.Prelude.{◌≡◌, ℕ, List, ◌++◌, All, length}
use Rattle.pcm_group.specs.declared.sync_groups.Groups.{Groups}
use Rattle.pcm_oss.specs.declared.event.TheConstants.{SLOTS}
use Rattle.pcm_state.specs.OpeningRows.{IsWord}

-- the groups of the slots that play, and of those that record
abbrev pub groups_row : Groups → List ℕ
groups_row groups = groups.play ++ groups.recording

-- a number for each slot of a way
pub record FitsSlots (slots : List ℕ) : Type 0 where
  pub count : length slots ≡ SLOTS
  pub each : All IsWord slots

-- and so for both ways
pub record FitsGroups (groups : Groups) : Type 0 where
  pub play : FitsSlots groups.play
  pub recording : FitsSlots groups.recording
