use Rattle.std.proofs.Common.{◌≡◌, drop}
use Rattle.std.specs.List.{list_all}
use Rattle.pcm_oss.specs.Volumes.{is_volume}
use Rattle.pcm_mixdev.proofs.mixer_device.are_volumes.Given as goal

-- All that were looked at are volumes: so it is left to those that are still to be.
abbrev pub invariant-loop-volume : goal.invariant-loop-volume
invariant-loop-volume l = list_all is_volume (drop l.volume-index l.volumes) ≡ list_all is_volume l.fn.volumes
