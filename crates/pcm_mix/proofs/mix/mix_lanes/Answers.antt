use Rattle.std.proofs.Common.{arith}
use Rattle.pcm_mix.proofs.Blocks.{mixed-in_end}
use Rattle.pcm_mix.proofs.mix.mix_lanes.Goals as goal

pub loop-acc-preserved : goal.loop-acc-preserved
loop-acc-preserved c =
    let mixed = mixed-in_end c.args.limits.bits c.loop-acc.at 8 c.args.acc.now c.args.add.now c.loop-acc.acc c.mix_eight.new.acc
    c.requires.lengths c.loop-acc.invariant.0 c.loop-acc.invariant.1 c.mix_eight.ensures in
    (omega arith, mixed)
