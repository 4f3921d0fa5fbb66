-- Which plan lies between a client and the device, by the way of its channel.
use Rattle.pcm_format.specs.declared.settings.Settings.{Settings}
use Rattle.pcm_oss.specs.declared.event.Way.{Way}
use Rattle.pcm_oss.specs.declared.event.Way.TheVariants.{Play, Record, Map}
use Rattle.pcm_plan.specs.Plans.{PlanSeen}
use Rattle.pcm_desk.specs.Device.{DeviceSeen, play_plan_between, record_plan_between}

-- the plan of a channel: to the mix where it plays or is mapped, and from the device where it records
abbrev pub plan_between : Way → DeviceSeen → Settings → PlanSeen
plan_between Play device settings = play_plan_between device settings
plan_between Record device settings = record_plan_between device settings
plan_between Map device settings = play_plan_between device settings
