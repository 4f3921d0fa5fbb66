use Rattle.std.proofs.Common.{◌≤◌, ◌<◌, length, sym, ap, ◌∙◌, arith}
use Rattle.std.proofs.lemmas.List.{get_or-map, length-map, length-set}
use Rattle.std.proofs.lemmas.List.Elements.{All-set}
use Rattle.std.proofs.lemmas.Option.{get_or_from_slice_get}
use Rattle.pcm_format.specs.Layouts.{positions_of}
use Rattle.pcm_format.proofs.Streams.{channels_of-most, length-positions}
use Rattle.pcm_feeder.specs.Layouts.{weight}
use Rattle.feed_matrix.specs.Weights.{row_of}
use Rattle.feed_matrix.proofs.Weights.{filled-more}
use Rattle.feed_matrix.proofs.weight.row.Goals as goal

pub loop-at-preserved : goal.loop-at-preserved
loop-at-preserved c =
    let l = c.loop-at in
    let from = c.args.from in
    let to = c.args.to in
    let target = c.args.target in
    let there : l.at < length (positions_of from) = omega (arith, c.loop-at-test.true, c.channels-at-end.ensures, length-positions from) in
    let room : l.at < length l.row = omega (arith, there, length-positions from, channels_of-most from, l.invariant.0) in (
      length-set l.row l.at c.weight.result ∙ l.invariant.0,
      filled-more (row_of from to target) l.row l.at c.weight.result 0 room
          (omega (arith, there, length-map (positions_of from) (weight to target)))
          (c.weight.ensures.value ∙ ap (weight to target)
          (sym (get_or_from_slice_get (positions_of from) l.at c.position.result c.position.result c.position.ensures))
          ∙ sym (get_or-map (weight to target) (positions_of from) l.at c.position.result 0 there))
          l.invariant.1,
      All-set (λ w. w ≤ 65536) l.row l.at c.weight.result c.weight.ensures.limit l.invariant.2,
    )
