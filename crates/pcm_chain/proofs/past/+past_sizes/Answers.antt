use Rattle.std.proofs.Common.{rules, ◌<◌, length, arith}
use Rattle.pcm_chain.proofs.Feeding.{stages-cut}
use Rattle.pcm_chain.proofs.Telling.{sizes-fit}
use Rattle.pcm_chain.proofs.past.+past_sizes.Goals as goal

pub overflow_add-result : goal.overflow_add-result
overflow_add-result t c =
    let stages = c.args.stages.now in
    let some : 0 < length stages = search rules in
    let cut = stages-cut stages _ (λ none. absurd (omega (arith, none, some))) in
    rw (c.history.ensures, c.channels_in.ensures, c.past_sizes.ensures) (sizes-fit stages _ _ cut c.requires.limits c.requires.few)
