use Rattle.std.proofs.Common.{pos, get_or, w32, FitsSigned, rules}
use Rattle.std.proofs.lemmas.List.Elements.{All-more}
use Rattle.pcm_num.specs.Limit.{FitsBits}
use Rattle.pcm_num.proofs.Limits.{FitsBits-from_signed}
use Rattle.pcm_chain.proofs.stages.tell_bits.Goals as goal

pub loop-sample-preserved : goal.loop-sample-preserved
loop-sample-preserved c =
    let samples = c.args.samples.now in
    let small : FitsSigned w32 (get_or samples c.loop-sample.sample-index (pos 0)) = search rules in
    All-more (FitsBits 32) samples c.loop-sample.sample-index (pos 0) c.loop-sample-test.true c.loop-sample.invariant
    (FitsBits-from_signed (get_or samples c.loop-sample.sample-index (pos 0)) small)
