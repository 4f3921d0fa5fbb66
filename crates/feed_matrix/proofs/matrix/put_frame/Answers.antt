use Rattle.std.proofs.Common.{◌<◌, [], take, length, get_or, FitsSigned, w32, pos, sym, ap, ◌∙◌, arith, rules}
use Rattle.std.proofs.lemmas.Int.{to_z-of_z}
use Rattle.std.proofs.lemmas.List.{get_or-map}
use Rattle.pcm_num.specs.Floor.{floor_div}
use Rattle.pcm_num.specs.Limit.{clamped}
use Rattle.pcm_format.specs.Layouts.{positions_of}
use Rattle.pcm_format.specs.declared.layout.Position.TheVariants.{M}
use Rattle.pcm_format.proofs.Streams.{length-positions}
use Rattle.pcm_feeder.specs.Layouts.{in_layout, gathered}
use Rattle.feed_matrix.specs.Weights.{weighted_sum}
use Rattle.feed_matrix.proofs.Weights.{length-in_layout, row-at, row-gathers, filled-more}
use Rattle.feed_matrix.proofs.matrix.put_frame.Goals as goal

pub loop-at-preserved : goal.loop-at-preserved
loop-at-preserved c =
    let from = c.args.from in
    let to = c.args.to in
    let l = c.loop-at in
    let frame = c.args.frame.now in
    let row = get_or c.args.rows.now l.at [] in
    let there : l.at < length (positions_of to) = omega (
      arith,
      c.loop-at-test.true,
      c.requires.output,
      length-positions
          to,
    ) in
    let target = get_or (positions_of to) l.at M in
    let fits : FitsSigned w32 c.gathered.result = search rules in
    let front = ap (λ n. take n row) c.requires.frame ∙ row-at from to c.args.rows.now l.at M c.requires.rows there in
    filled-more (in_layout from to frame) l.output l.at _ (pos 0) (omega (arith, c.loop-at.auto.output, c.loop-at-test.true))
    (omega (arith, there, length-in_layout from to frame, length-positions to))
    (to_z-of_z w32 c.gathered.result fits ∙ c.gathered.ensures ∙ ap (λ r. clamped 32 (floor_div (weighted_sum r frame) 65536)) front
    ∙ row-gathers from to target frame
    ∙ sym (get_or-map (λ p. gathered from to p frame) (positions_of to) l.at M (pos 0) there))
    l.invariant
