use Rattle.std.proofs.Common.{◌≢◌, length, arith}
use Rattle.std.proofs.lemmas.Bool.Decides.{nat_tests}
use Rattle.std.proofs.lemmas.List.{length-map}
use Rattle.pcm_script.proofs.Counts.{poke_line-count}
use Rattle.pcm_script.proofs.command.poke_line.Goals as goal

pub returns-in_default : goal.returns-in_default
returns-in_default c =
    let other : length c.args.arguments.now ≢ 3 = grind (arith, nat_tests) in
    poke_line-count _ (rw length-map other)
