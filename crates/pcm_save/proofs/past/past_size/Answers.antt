use Rattle.std.proofs.Common.{◌*◌, length, sym, ap, ◌∙◌}
use Rattle.pcm_chain.specs.Pasts.{past_of}
use Rattle.pcm_chain.proofs.Known.{length-past-of}
use Rattle.pcm_state.proofs.Spelled.{length-samples}
use Rattle.pcm_save.specs.Parts.{past_bytes}
use Rattle.pcm_save.proofs.past.past_size.Goals as goal

pub returns-else-free-clause-size : goal.returns-else-free-clause-size
returns-else-free-clause-size g c =
    let kept = g.B.Feeder.kept in
    let chain = c.args.chain.now in
    let held = c.if-free.false in
    ap (λ n. 4 * n) (c.past_size.ensures.size ∙ sym (length-past-of kept chain (c.requires.fitted held)))
    ∙ sym (length-samples (past_of kept chain)) ∙ ap (λ free. length (past_bytes kept free chain)) (sym held)
