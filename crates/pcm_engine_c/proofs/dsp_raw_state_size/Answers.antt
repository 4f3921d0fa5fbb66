use Rattle.std.proofs.Common.{rules, pos, ap, ◌∙◌, FitsSigned, w64}
use Rattle.std.proofs.lemmas.Int.{to_z-of_z}
use Rattle.pcm_engine_c.proofs.Asking.{if-held}
use Rattle.pcm_engine_c.proofs.dsp_raw_state_size.Goals as goal

pub returns-clause-size : goal.returns-clause-size
returns-clause-size c =
    let fits : FitsSigned w64 c.size_number.result = search rules in
    if-held _ c.in-Some.session.value _ c.in-Some.ensures.value
    (to_z-of_z w64 c.size_number.result fits
    ∙ c.size_number.ensures
    ∙ ap pos (rw c.deref.ensures at c.state_size-size.ensures.size))
