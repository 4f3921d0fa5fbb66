use Rattle.std.proofs.Common.{arith, sym}
use Rattle.std.proofs.lemmas.Bool.Decides.{nat_tests}
use Rattle.std.proofs.lemmas.List.{length-map}
use Rattle.pcm_script.proofs.Counts.{open_line-count}
use Rattle.pcm_script.proofs.command.open_line.Goals as goal

pub returns-in_default : goal.returns-in_default
returns-in_default c = sym (open_line-count _ (rw length-map (grind (arith, nat_tests))) (rw length-map (grind (arith, nat_tests))))

pub returns-in_default-2 : goal.returns-in_default-2
returns-in_default-2 c = sym (open_line-count _ (rw length-map (grind (arith, nat_tests))) (rw length-map (grind (arith, nat_tests))))

pub returns-in_default-3 : goal.returns-in_default-3
returns-in_default-3 c = sym (open_line-count _ (rw length-map (grind (arith, nat_tests))) (rw length-map (grind (arith, nat_tests))))
