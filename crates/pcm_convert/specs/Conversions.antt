-- What the body of a wave becomes at other settings.
use Rattle.std.specs.Prelude.{ℕ, ◌*◌, ◌-◌, min, List, length, take, drop}
use Rattle.pcm_format.specs.declared.settings.Settings.{Settings}
use Rattle.pcm_format.specs.Frames.{Frame, frame_bytes, frames, spelled_frames, whole_frames}
use Rattle.pcm_rate.specs.Rates.{len}
use Rattle.pcm_feeder.specs.Filters.{no_filters}
use Rattle.pcm_plan.specs.Plans.{PlanSeen, plan_record, rate_in_plan}
use Rattle.pcm_plan.specs.Through.{recs}
use Rattle.pcm_convert.specs.declared.conversion.TheConstants.{BLOCK}

-- the way of the frames: by lines, as a client with the target's settings records from a device with the source's
abbrev pub conversion_plan : Settings → Settings → PlanSeen
conversion_plan source target = plan_record no_filters 1 target source

-- how many frames come out of a body, all of whose whole frames are heard to their end
abbrev pub converted_frames : Settings → Settings → List ℕ → ℕ
converted_frames source target bytes =
    len (rate_in_plan (conversion_plan source target)) (whole_frames source (length bytes))

-- the frames that come out of a body
abbrev pub all_converted : Settings → Settings → List ℕ → List Frame
all_converted source target bytes =
    recs (conversion_plan source target) no_filters (frames source bytes) 0 (converted_frames source target bytes)

-- their bytes
abbrev pub converted_body : Settings → Settings → List ℕ → List ℕ
converted_body source target bytes = spelled_frames target.format (all_converted source target bytes)

-- how many frames the next block has once `given` were given
abbrev pub block_count : Settings → Settings → List ℕ → ℕ → ℕ
block_count source target bytes given = min BLOCK (converted_frames source target bytes - given)

-- the bytes of that block
abbrev pub block_after : Settings → Settings → List ℕ → ℕ → List ℕ
block_after source target bytes given =
    take (block_count source target bytes given * frame_bytes target)
    (drop (given * frame_bytes target) (converted_body source target bytes))
