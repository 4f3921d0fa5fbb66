use Rattle.pcm_feeder.proofs.Outputs.{conv-local, conv-gain}
use Rattle.pcm_feeder.proofs.Turns.{outputs-channels}
use Rattle.pcm_feeder.proofs.laws.outputs_use_what_is_needed.Goals as goal

pub returns-clause-local : goal.returns-clause-local
returns-clause-local c spec is tables gain x y k = conv-local spec tables gain x y k is

pub returns-clause-channels : goal.returns-clause-channels
returns-clause-channels c = outputs-channels

pub returns-clause-gain : goal.returns-clause-gain
returns-clause-gain c spec not tables gain other x k = conv-gain spec tables gain other x k not
