-- What the start of a group begins: a run or a recording of each member, all at one moment.
use Rattle.std.specs.Prelude.{◌≡◌, ℕ, true, false, List, [], ◌∷◌, Option, Some, None}
use Rattle.pcm_oss.specs.declared.event.Way.TheVariants.{Play, Record}
use Rattle.pcm_group.specs.Groups.{group_at}
use Rattle.pcm_desk.specs.Device.{DeviceSeen}
use Rattle.pcm_desk.specs.RunStates.{is_running}
use Rattle.pcm_desk.specs.Desk.{record_at}
use Rattle.pcm_sound.specs.Runs.{Run}
use Rattle.pcm_sound.specs.Recordings.{recording_from}
use Rattle.pcm_sound.specs.Story.{Story}

-- where the newest run of a slot started, if it has
abbrev pub newest_start : List Run → Option ℕ
newest_start [] = None
newest_start (run ∷ runs) = run.start

-- The newest run of each member that plays had not started, and starts at the frame that is mixed next; each member that records had not
-- started, and its recording starts at the frame that the device is given next.
pub record StartAsOne (device : DeviceSeen) (group : ℕ) (old new : Story) : Type 0 where
  pub waited : (slot : ℕ) → group_at old.desk.groups Play slot ≡ group → newest_start (old.runs slot) ≡ None
  pub started : (slot : ℕ) → group_at old.desk.groups Play slot ≡ group → newest_start (new.runs slot) ≡ Some old.desk.mixed
  pub idle : (slot : ℕ) → group_at old.desk.groups Record slot ≡ group → is_running (record_at device old.desk slot).state ≡ false
  pub running : (slot : ℕ) → group_at old.desk.groups Record slot ≡ group → is_running (record_at device new.desk slot).state ≡ true
  pub recorded : (slot : ℕ) → group_at old.desk.groups Record slot ≡ group → new.recordings slot ≡ recording_from old.desk.handed
