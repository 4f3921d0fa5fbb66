-- What frames and samples are in the bytes of a ring.
use Rattle.std.specs.Prelude.{◌≡◌, ℕ, ◌+◌, ◌*◌, ℤ, pos, List, ◌++◌, length, take, drop, replicate, flat_map}
use Rattle.pcm_format.specs.declared.format.Format.{Format}
use Rattle.pcm_format.specs.Formats.{bytes_of}
use Rattle.pcm_format.specs.Layouts.{channels_of}
use Rattle.pcm_format.specs.Samples.{samples, spelled}
use Rattle.pcm_plan.specs.Plans.{PlanSeen}
use Rattle.pcm_ring.specs.Ring.{Ring}

-- how many bytes `frames` frames of a plan's source are, in a format
abbrev pub taken_bytes : PlanSeen → Format → ℕ → ℕ
taken_bytes plan format frames = frames * (channels_of plan.source * bytes_of format)

-- and frames of its target
abbrev pub put_bytes : PlanSeen → Format → ℕ → ℕ
put_bytes plan format frames = frames * (channels_of plan.target * bytes_of format)

-- a ring without its oldest bytes
abbrev pub without_bytes : ℕ → Ring → Ring
without_bytes count ring = record ring { bytes = drop count ring.bytes }

-- a ring with samples spelled after what waits in it
abbrev pub with_samples : Format → List ℤ → Ring → Ring
with_samples format list ring =
    record ring { bytes = ring.bytes ++ flat_map (spelled format) list }

-- `count` more bytes wait in a ring
abbrev pub GrowsBy : ℕ → Ring → Ring → Type 0
GrowsBy count old new = length new.bytes ≡ length old.bytes + count

-- the oldest samples of a ring, and silent ones after them
abbrev pub staged : Format → ℕ → ℕ → Ring → List ℤ
staged format count silent ring =
    samples format (take (count * bytes_of format) ring.bytes) ++ replicate silent (pos 0)
