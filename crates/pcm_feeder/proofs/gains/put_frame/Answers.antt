use Rattle.std.proofs.Common.{get_or, pos, w32, FitsSigned, ◌∙◌, rules, arith}
use Rattle.std.proofs.lemmas.Int.{to_z-of_z}
use Rattle.pcm_feeder.proofs.AtGains.{put-sample}
use Rattle.pcm_feeder.proofs.gains.put_frame.Goals as goal

pub loop-channel-preserved : goal.loop-channel-preserved
loop-channel-preserved c =
    let l = c.loop-channel in
    let sample_fits : FitsSigned w32 (get_or c.args.frame.now l.channel (pos 0)) = search rules in
    let scaled_fits : FitsSigned w32 c.scaled.result = search rules in
    let is = to_z-of_z w32 c.scaled.result scaled_fits ∙ simp to_z-of_z at c.scaled.ensures in
    put-sample c.args.gains.now c.args.frame.now l.output l.channel _ (omega arith) (omega arith) (omega arith) is l.invariant
