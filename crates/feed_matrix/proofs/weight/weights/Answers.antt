use Rattle.std.proofs.Common.{◌≡◌, ◌<◌, map, take, length, ap, ◌∙◌, arith, rules}
use Rattle.std.proofs.lemmas.List.{length-map, length-set, take_all}
use Rattle.std.proofs.lemmas.List.Elements.{All-set}
use Rattle.pcm_format.specs.Layouts.{channels_of, positions_of}
use Rattle.pcm_format.proofs.Streams.{channels_of-most, length-positions}
use Rattle.feed_matrix.specs.Weights.{row_of, AreAtMostOne}
use Rattle.feed_matrix.proofs.Weights.{filled-rows}
use Rattle.feed_matrix.proofs.weight.weights.Goals as goal

pub loop-at-preserved : goal.loop-at-preserved
loop-at-preserved c =
    let l = c.loop-at in
    let long : length c.row.result ≡ 8 = search rules in
    let room : l.at < length l.rows = omega (
      arith,
      c.loop-at-test.true,
      c.channels-at-end.ensures,
      channels_of-most c.args.to,
      l.invariant.0,
    ) in (
      length-set l.rows l.at c.row.result ∙ l.invariant.0,
      All-set (λ row. length row ≡ 8) l.rows l.at c.row.result long l.invariant.1,
      All-set AreAtMostOne l.rows l.at c.row.result c.row.ensures.limits l.invariant.2,
      filled-rows c.args.from c.args.to l.rows l.at c.row.result c.position.result room c.position.ensures c.row.ensures.row l.invariant.3,
    )

pub returns : goal.returns
returns c =
    let l = c.loop-at in
    let from = c.args.from in
    let to = c.args.to in
    let all = map (row_of from to) (positions_of to) in
    let end : channels_of to ≡ l.at = omega (arith, c.loop-at-test.false, c.loop-at.auto.at-end, c.channels-at-end.ensures) in
    record {
      count = l.invariant.0;
      lengths = l.invariant.1;
      limits = l.invariant.2;
      fronts = ap (λ n. map (take (channels_of from)) (take n l.rows)) end ∙ l.invariant.3
          ∙ take_all l.at all (omega (arith, end, length-positions to, length-map (positions_of to) (row_of from to)));
    }
