use Rattle.pcm_feeder.proofs.Frames.{interleaved-frames_of, frames_of-interleaved, frames_of-channels, frames_of-samples}
use Rattle.pcm_feeder.proofs.laws.frames_are_samples.Goals as goal

pub returns-clause-joined : goal.returns-clause-joined
returns-clause-joined c = interleaved-frames_of

pub returns-clause-cut : goal.returns-clause-cut
returns-clause-cut c channels some list = frames_of-interleaved channels list some

pub returns-clause-channels : goal.returns-clause-channels
returns-clause-channels c = frames_of-channels

pub returns-clause-loaded : goal.returns-clause-loaded
returns-clause-loaded c = frames_of-samples
