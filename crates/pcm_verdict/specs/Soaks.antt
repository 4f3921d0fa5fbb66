-- What a run of the script that a number makes adds up to, on the device of a run without a configuration.
use Rattle.std.specs.Prelude.{ℕ, List, [], ◌++◌, length, codes}
use Rattle.std.specs.Fmt.{decimal}
use Rattle.pcm_oss.specs.declared.event.Event.{Event}
use Rattle.pcm_wave.specs.declared.pool.Pool.{Pool}
use Rattle.pcm_desk.specs.Usual.{usual_device}
use Rattle.pcm_sound.specs.DeviceList.{device_text}
use Rattle.pcm_sound.specs.StoryReplies.{replies}
use Rattle.pcm_sound.specs.Story.{story_at_start}
use Rattle.pcm_script.specs.Lines.{pool_of}
use Rattle.pcm_soak.specs.declared.tally.Tally.{Tally}
use Rattle.pcm_soak.specs.Soak.{soak_script}
use Rattle.pcm_soak.specs.Tallies.{no_tally, tally_all, total}
use Rattle.pcm_desk.specs.Device.{DeviceSeen}

-- where the bytes of its events are found: there are no data files
abbrev pub soak_pool : ℕ → Pool
soak_pool n = pool_of [] (soak_script n)

-- what events and their replies add up to, and the sum of the bytes that the device gets
abbrev pub tally_of : DeviceSeen → Pool → List Event → Tally
tally_of device pool events =
    record (tally_all no_tally events (replies device pool (story_at_start device) events)) { sum = total (device_text device pool events) }

-- the line of a run: its events, the frames that its interrupts took, and what they add up to
abbrev pub tally_line : ℕ → ℕ → Tally → List ℕ
tally_line events frames tally =
    codes "events " ++ decimal events ++ codes " frames " ++ decimal frames ++ codes " accepted " ++ decimal tally.accepted
    ++ codes " read " ++ decimal tally.read ++ codes " refused " ++ decimal tally.refused ++ codes " errors " ++ decimal tally.errors
    ++ codes " sum " ++ decimal tally.sum ++ codes "\n"

-- the line of the run of a number
abbrev pub soak_line : ℕ → List ℕ
soak_line n =
    tally_line (length (soak_script n).events) (soak_script n).device_frames (tally_of usual_device (soak_pool n) (soak_script n).events)
