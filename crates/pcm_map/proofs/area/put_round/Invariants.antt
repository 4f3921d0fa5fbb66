use Rattle.std.proofs.Common.{◌≡◌, ◌<◌, ◌≤◌, ◌++◌, length}
use Rattle.pcm_ring.specs.Ring.{free_bytes}
use Rattle.pcm_sound.specs.Areas.{area_bytes}
use Rattle.pcm_map.proofs.area.put_round.Given as goal

-- what was put, with the bytes from the place on that are left, are all bytes
abbrev pub invariant-loop-left : goal.invariant-loop-left
invariant-loop-left l = record {
  place : l.place < length l.area;
  room : l.left ≤ free_bytes l.ring;
  ring : l.ring ≡ record l.fn.ring { bytes = l.ring.bytes };
  bytes : l.ring.bytes ++ area_bytes l.area l.place l.left ≡ l.fn.ring.bytes ++ area_bytes l.area l.fn.from l.fn.count;
}

abbrev pub decreases-loop-left : goal.decreases-loop-left
decreases-loop-left l = l.left
