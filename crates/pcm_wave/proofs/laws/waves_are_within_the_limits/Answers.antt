use Rattle.pcm_wave.proofs.Bodies.{body-within}
use Rattle.pcm_wave.proofs.Limits.{settings-read}
use Rattle.pcm_wave.proofs.laws.waves_are_within_the_limits.Goals as goal

pub returns-clause-body : goal.returns-clause-body
returns-clause-body c = body-within

pub returns-clause-least : goal.returns-clause-least
returns-clause-least c bytes wave is = (settings-read bytes wave is).least

pub returns-clause-most : goal.returns-clause-most
returns-clause-most c bytes wave is = (settings-read bytes wave is).most

pub returns-clause-format : goal.returns-clause-format
returns-clause-format c bytes wave is = (settings-read bytes wave is).format
