use Rattle.std.proofs.Common.{◌≡◌, ◌*◌, take}
use Rattle.std.specs.List.{flat_map}
use Rattle.pcm_format.specs.Formats.{bytes_of}
use Rattle.pcm_format.specs.Samples.{spelled}
use Rattle.pcm_format.proofs.frame.spell_each.Given as goal

-- the first values are spelled
abbrev pub invariant-loop-i : goal.invariant-loop-i
invariant-loop-i l = take (l.i * bytes_of l.f) l.out ≡ flat_map (spelled l.f) (take l.i l.values)
