use Rattle.std.proofs.Common.{◌++◌, ap, ◌∙◌, arith}
use Rattle.std.proofs.lemmas.List.{length-append}
use Rattle.pcm_chain.specs.Pasts.{past_of}
use Rattle.pcm_state.specs.MixerRows.{mixer_row}
use Rattle.pcm_state.specs.Numbers.{spelled_numbers}
use Rattle.pcm_state.specs.Samples.{sample_bytes}
use Rattle.pcm_state.proofs.Spelled.{length-numbers}
use Rattle.pcm_save.proofs.AlikeOutputs.{mixer-long}
use Rattle.pcm_save.proofs.Loading.{join}
use Rattle.pcm_save.proofs.output.save_output.Goals as goal

pub split_at_mut-front-requires : goal.split_at_mut-front-requires
split_at_mut-front-requires g c =
    let parent = c.args.parent.now in
    let behind = parent.ring.bytes ++ sample_bytes (past_of g.B.Feeder.kept parent.bus.chain) in
    omega (arith, length-append (spelled_numbers (mixer_row parent.mixer)) behind, length-numbers (mixer_row parent.mixer), mixer-long parent.mixer c.mixer_row-row.ensures.fits, c.requires.size)

pub split_at_mut-waiting-requires : goal.split_at_mut-waiting-requires
split_at_mut-waiting-requires g c =
    let parent = c.args.parent.now in
    let past = sample_bytes (past_of g.B.Feeder.kept parent.bus.chain) in
    let behind = parent.ring.bytes ++ past in
    omega (
      arith,
      length-append (spelled_numbers (mixer_row parent.mixer)) behind,
      length-append parent.ring.bytes past,
      length-numbers (mixer_row parent.mixer),
      mixer-long parent.mixer c.mixer_row-row.ensures.fits,
      c.requires.size,
      c.fill.ensures.count,
      c.split_at_mut-front.ensures.back_len,
    )

pub returns-clause-state : goal.returns-clause-state
returns-clause-state g c =
    let kept = g.B.Feeder.kept in
    let parent = c.args.parent.now in
    join c.put_numbers.new.out c.copy_to.new.out c.put_past.new.out
    (spelled_numbers (mixer_row parent.mixer)) parent.ring.bytes (sample_bytes (past_of kept parent.bus.chain))
    (c.put_numbers.ensures.spelled ∙ ap spelled_numbers c.mixer_row-row.ensures.row) c.copy_to.ensures c.put_past.ensures
