use Rattle.std.proofs.Common.{◌≢◌, length, arith, sym}
use Rattle.std.proofs.lemmas.Bool.Decides.{nat_tests}
use Rattle.std.proofs.lemmas.List.{length-map}
use Rattle.pcm_script.proofs.Counts.{send_line-count}
use Rattle.pcm_script.proofs.command.send_line.Goals as goal

pub returns-in_default : goal.returns-in_default
returns-in_default c =
    let other : length c.args.arguments.now ≢ 4 = grind (arith, nat_tests) in
    sym (send_line-count _ _ (rw length-map other))

pub returns-in_default-2 : goal.returns-in_default-2
returns-in_default-2 c =
    let other : length c.args.arguments.now ≢ 4 = grind (arith, nat_tests) in
    sym (send_line-count _ _ (rw length-map other))
