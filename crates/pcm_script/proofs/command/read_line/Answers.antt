use Rattle.std.proofs.Common.{◌≢◌, length, arith, sym}
use Rattle.std.proofs.lemmas.Bool.Decides.{nat_tests}
use Rattle.std.proofs.lemmas.List.{length-map}
use Rattle.pcm_script.proofs.Counts.{read_line-count}
use Rattle.pcm_script.proofs.command.read_line.Goals as goal

pub returns-in_default : goal.returns-in_default
returns-in_default c =
    let other : length c.args.arguments.now ≢ 2 = grind (arith, nat_tests) in
    sym (read_line-count _ (rw length-map other))
