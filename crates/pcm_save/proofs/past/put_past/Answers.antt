use Rattle.std.proofs.Common.{◌*◌, length, sym, ap, ◌∙◌}
use Rattle.pcm_chain.specs.Pasts.{past_of}
use Rattle.pcm_state.specs.Samples.{sample_bytes}
use Rattle.pcm_state.proofs.Spelled.{length-samples}
use Rattle.pcm_save.specs.Parts.{past_bytes}
use Rattle.pcm_save.proofs.past.put_past.Goals as goal

pub put_samples-requires : goal.put_samples-requires
put_samples-requires g c =
    let kept = g.B.Feeder.kept in
    let chain = c.args.chain.now in
    c.requires.size ∙ ap (λ free. length (past_bytes kept free chain)) c.if-free.false ∙ length-samples (past_of kept chain)
    ∙ ap (λ past. 4 * length past) (sym c.keep.ensures)

pub returns : goal.returns
returns g c =
    c.put_samples.ensures ∙ ap sample_bytes c.keep.ensures ∙ ap (λ free. past_bytes g.B.Feeder.kept free c.args.chain.now) (sym c.if-free.false)
