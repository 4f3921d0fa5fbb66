use Rattle.std.proofs.Common.{◌++◌, arith}
use Rattle.std.proofs.lemmas.List.{length-append}
use Rattle.pcm_chain.specs.Pasts.{past_of}
use Rattle.pcm_state.specs.MixerRows.{mixer_row}
use Rattle.pcm_state.specs.Numbers.{spelled_numbers}
use Rattle.pcm_state.specs.Samples.{sample_bytes}
use Rattle.pcm_state.proofs.Spelled.{length-numbers}
use Rattle.pcm_save.proofs.AlikeOutputs.{mixer-long}
use Rattle.pcm_save.proofs.output.output_size.Goals as goal

pub returns-clause-size : goal.returns-clause-size
returns-clause-size g c =
    let parent = c.args.parent.now in
    let ring = parent.ring.bytes in
    let past = sample_bytes (past_of g.B.Feeder.kept parent.bus.chain) in
    omega (
      arith,
      length-append (spelled_numbers (mixer_row parent.mixer)) (ring ++ past),
      length-append ring past,
      length-numbers (mixer_row parent.mixer),
      mixer-long parent.mixer c.mixer_row-row.ensures.fits,
      c.fill.ensures.count,
      c.past_size.ensures.size,
    )
