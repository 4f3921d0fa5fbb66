-- Samples of silence are frames of silence.
use Rattle.std.proofs.Common.{arith}
use Rattle.std.proofs.Math.Nat.{mul-le-mul_right}
use Rattle.pcm_feeder.proofs.KeptFrames.{silent-frames}
use Rattle.pcm_feeder.proofs.last_frames.LastFrames.silent.Goals as goal

pub returns-clause-silence : goal.returns-clause-silence
returns-clause-silence c =
    let channels = c.args.channels in
    silent-frames channels c.args.frames 16 (omega (arith, c.requires.limits.least))
    (omega (arith, mul-le-mul_right channels c.requires.few, c.requires.limits.most))
