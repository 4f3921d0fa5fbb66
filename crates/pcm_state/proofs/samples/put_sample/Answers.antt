use Rattle.std.proofs.Common.{w32, FitsSigned, ap, ◌∙◌, rules}
use Rattle.std.proofs.lemmas.Int.{to_z-of_z}
use Rattle.pcm_state.specs.Numbers.{digits}
use Rattle.pcm_state.specs.Samples.{sample_number}
use Rattle.pcm_state.proofs.Spelled.{digits-four}
use Rattle.pcm_state.proofs.samples.put_sample.Goals as goal

pub returns : goal.returns
returns c =
    let small : FitsSigned w32 c.args.sample = search rules in
    let number = c.sample_number.ensures ∙ ap sample_number (to_z-of_z w32 c.args.sample small) in
    c.copy_from_slice.ensures.after ∙ c.to_le_bytes.ensures ∙ digits-four c.sample_number.result c.sample_number.type_inv ∙ ap (digits 3) number
