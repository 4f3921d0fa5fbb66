use Rattle.std.proofs.Common.{arith}
use Rattle.pcm_oss.proofs.Limits.{are-fragments, two-fit}
use Rattle.pcm_oss.proofs.fragments.Fragments.from_arg.Goals as goal

pub returns-in-0-clause-limits : goal.returns-in-0-clause-limits
returns-in-0-clause-limits c =
    let log = c.max-log.result in
    are-fragments log _ (omega (arith, c.max-log.ensures)) (omega (arith, c.max-log.ensures, c.min.ensures))
    (two-fit log (omega (arith, c.max-log.ensures, c.min.ensures))) (omega arith)

pub returns-in_default-clause-limits : goal.returns-in_default-clause-limits
returns-in_default-clause-limits c =
    let log = c.max-log.result in
    let two = two-fit log (omega (arith, c.max-log.ensures, c.min.ensures)) in
    are-fragments log _ (omega (arith, c.max-log.ensures)) (omega (arith, c.max-log.ensures, c.min.ensures))
    (omega (arith, c.min-count.ensures, c.max.ensures)) (omega (arith, c.min-count.ensures))
