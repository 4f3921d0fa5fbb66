-- What an answer unfolds to compute the reader of configurations on a literal.
use Rattle.std.specs.Prelude.{⊤}
use Rattle.std.specs.Str.{is_utf8, chars}
use Rattle.toml.proofs.OnLiterals.{toml_on_literals}
use Rattle.pcm_config.specs.Configs.{config_read}
use Rattle.pcm_config.specs.Sections.{numbers_of, section_coef, section_in, section_shift, settled_section}
use Rattle.pcm_config.specs.Filters.{filter_in, settled_filter, shaped, spelled_in}
use Rattle.pcm_config.specs.Values.{hardware_in, mix_in, settings_in, slots_in}

unfoldable pub config_on_literals : ⊤
unfolding toml_on_literals is_utf8 chars config_read settings_in hardware_in slots_in mix_in filter_in spelled_in settled_filter shaped section_in numbers_of settled_section section_shift section_coef
config_on_literals = tt
