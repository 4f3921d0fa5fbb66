use Rattle.std.proofs.Common.{◌≡◌, ◌-◌, length}
use Rattle.pcm_wave.specs.Waves.{wave_of}
use Rattle.pcm_wave.proofs.Walks.{found_from}
use Rattle.pcm_wave.proofs.read.read_wave.Given as goal

-- the wave is the one that is found from the place on
abbrev pub invariant-loop-chunk : goal.invariant-loop-chunk
invariant-loop-chunk l = wave_of l.bytes ≡ found_from l.bytes l.known l.place

abbrev pub decreases-loop-chunk : goal.decreases-loop-chunk
decreases-loop-chunk l = length l.bytes - l.place
