-- What a row unfolds, so that the definitions compute on its bytes.
use Rattle.std.specs.Prelude.{⊤}
use Rattle.std.specs.Fmt.{digits}
use Rattle.pcm_config.proofs.OnLiterals.{config_on_literals}
use Rattle.hex.specs.Hex.{decode_pairs, encode_with}
use Rattle.pcm_feeder.specs.Stages.{conv}
use Rattle.pcm_script.specs.Lines.{script_read, collected}
use Rattle.pcm_script.specs.Commands.{line_event, command_line, open_line, write_line, poke_line, send_line, read_line, ioctl_line, close_line, mixer_line, interrupt_line}
use Rattle.pcm_verdict.specs.Commands.{command_of, run_words, check_words, convert_words, target_asked}

unfoldable pub row : ⊤
unfolding digits decode_pairs encode_with conv script_read collected line_event command_line open_line write_line poke_line send_line read_line ioctl_line close_line mixer_line interrupt_line config_on_literals command_of run_words check_words convert_words target_asked
row = tt
