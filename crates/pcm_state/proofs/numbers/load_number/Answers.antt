use Rattle.std.proofs.Common.{◌<◌, All, ap, ◌∙◌}
use Rattle.std.proofs.lemmas.List.Elements.{All-from_get_or}
use Rattle.pcm_state.specs.Numbers.{digits}
use Rattle.pcm_state.proofs.Spelled.{digits-number_of}
use Rattle.pcm_state.proofs.numbers.load_number.Goals as goal

pub returns : goal.returns
returns c =
    let bytes = c.args.bytes.now in
    let below : All (λ byte. byte < 256) bytes = All-from_get_or (λ byte. byte < 256) bytes 0 (λ i _. (c.type_inv.bytes i).fits) in
    ap (digits 7) c.number_of.ensures ∙ digits-number_of 7 bytes c.requires below
