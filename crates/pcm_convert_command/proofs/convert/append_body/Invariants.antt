use Rattle.pcm_convert.specs.Stands.{source_in, target_in}
use Rattle.pcm_convert_command.proofs.Blocks.{IsAppending}
use Rattle.pcm_convert_command.proofs.convert.append_body.Given as goal

-- the frames that aren't left were appended
abbrev pub invariant-loop-left : goal.invariant-loop-left
invariant-loop-left g l =
    IsAppending g.B.Feeder.kept l.conversion l.block (source_in l.fn.conversion) (target_in l.fn.conversion) l.body l.frames l.left (g.F.Files.seen l.fn.files) (g.F.Files.seen l.files)

abbrev pub decreases-loop-left : goal.decreases-loop-left
decreases-loop-left g l = l.left
