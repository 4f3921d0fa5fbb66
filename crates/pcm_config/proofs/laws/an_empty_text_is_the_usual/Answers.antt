use Rattle.std.proofs.Common.{◌≡◌, [], Ok, refl}
use Rattle.pcm_config.specs.Configs.{config_read, usual_config}
use Rattle.pcm_config.proofs.OnLiterals.{config_on_literals}
use Rattle.pcm_config.proofs.laws.an_empty_text_is_the_usual.Goals as goal

-- an empty text computes
usual : config_read [] ≡ Ok usual_config
unfolding config_on_literals
usual = refl

pub returns : goal.returns
returns c = usual
