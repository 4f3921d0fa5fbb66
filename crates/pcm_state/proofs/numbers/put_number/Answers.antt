use Rattle.std.proofs.Common.{◌∙◌}
use Rattle.pcm_state.proofs.Spelled.{digits-eight}
use Rattle.pcm_state.proofs.numbers.put_number.Goals as goal

pub returns : goal.returns
returns c = c.copy_from_slice.ensures.after ∙ c.to_le_bytes.ensures ∙ digits-eight c.args.number c.ranges.number.fits
